use Rattle.std.proofs.Common.{subst}
use Rattle.outside.specs.Letters.{IsCountOf}
use Rattle.outside.specs.MailRoom.{pending_in}
use Rattle.outside.proofs.LetterCounts.{IsCountOf-values}
use Rattle.outside.proofs.letter_box.LetterBox.pending_count.Goals as goal

pub returns : goal.returns
returns c =
    subst (λ letters. IsCountOf (pending_in letters) c.count_pending.result) c.self.view_is
    (rw c.count_pending.ensures.count (IsCountOf-values c.self.inside.letters c.count_pending.ensures.ordered))
