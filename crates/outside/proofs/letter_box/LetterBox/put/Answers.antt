use Rattle.std.proofs.Common.{ap, ◌∙◌, refl, true}
use Rattle.std.specs.Rc.{rc_slice_items}
use Rattle.outside.specs.Letters.{with_letter}
use Rattle.outside.specs.MailRoom.{pending_in, posted_in}
use Rattle.outside.proofs.LetterLookups.{posted_letters, lookup-updates, pending_in-put, posted_in-put}
use Rattle.outside.proofs.letter_box.LetterBox.put.Goals as goal

pub returns-clause-pends : goal.returns-clause-pends
returns-clause-pends c =
    pending_in-put (posted_letters c.self.inside.letters) (posted_letters c.insert.new.self) c.args.name
    (record { bytes = rc_slice_items c.args.bytes; is_pending = true })
    (lookup-updates c.self.inside.letters c.insert.new.self c.args.name _ c.in_ok-insert.ensures.updates) refl
    ∙ ap (λ letters. with_letter (pending_in letters) c.args.name (rc_slice_items c.args.bytes)) c.self.view_is

pub returns-clause-posts : goal.returns-clause-posts
returns-clause-posts c =
    posted_in-put (posted_letters c.self.inside.letters) (posted_letters c.insert.new.self) c.args.name
    (record { bytes = rc_slice_items c.args.bytes; is_pending = true })
    (lookup-updates c.self.inside.letters c.insert.new.self c.args.name _ c.in_ok-insert.ensures.updates)
    ∙ ap (λ letters. with_letter (posted_in letters) c.args.name (rc_slice_items c.args.bytes)) c.self.view_is
