use Rattle.map_core.proofs.OneClass.{in_one_class}
use Rattle.map_core.proofs.laws.class_law.Goals as goal

pub returns : goal.returns
returns c = record { one_class = in_one_class }
