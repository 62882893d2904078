use Rattle.plan_phases.proofs.StructureLists.{column_maps_are_lists, rows_are_lists}
use Rattle.plan_phases.proofs.laws.structures_are_lists.Goals as goal

pub returns : goal.returns
returns c = record { columns = column_maps_are_lists; rows = rows_are_lists }
