use Rattle.mm_text.proofs.SoundLemmas.{reading_kept}
use Rattle.mm_text.proofs.laws.limited_files.Goals as goal

pub returns : goal.returns
returns c = λ profile text file e. (reading_kept profile text file e).limits
