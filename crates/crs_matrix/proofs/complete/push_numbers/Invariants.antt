use Rattle.std.proofs.Common.{◌≡◌, ◌++◌, take, map, Some}
use Rattle.crs_matrix.specs.Completed.{row_numbers}
use Rattle.crs_matrix.specs.Stored.{cells_at}
use Rattle.crs_matrix.proofs.complete.push_numbers.Given as goal

abbrev pub invariant-loop-at : goal.invariant-loop-at
invariant-loop-at g l = map Some l.stored.items ≡ map Some l.initial.stored.items ++ row_numbers l.cols (take l.at l.row) (cells_at l.values l.places)
