use Rattle.mm_text.proofs.RereadValues.{array_text-is_file}
use Rattle.mm_text.proofs.laws.array_text_is_file.Goals as goal

pub returns : goal.returns
returns c = array_text-is_file
