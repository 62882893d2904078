use Rattle.mm_text.proofs.ReadAgainLemmas.{texts-are_read_again}
use Rattle.mm_text.proofs.laws.texts_are_read_again.Goals as goal

pub returns : goal.returns
returns c = λ first second text file same is. texts-are_read_again first second text file same is
