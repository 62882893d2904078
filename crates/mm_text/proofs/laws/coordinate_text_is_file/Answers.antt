use Rattle.mm_text.proofs.RereadCells.{coordinate_text-is_file}
use Rattle.mm_text.proofs.laws.coordinate_text_is_file.Goals as goal

pub returns : goal.returns
returns c = coordinate_text-is_file
