use Rattle.std.proofs.Common.{◌≡◌}
use Rattle.std.specs.List.{flat_map}
use Rattle.tables.specs.Indices.{count_from}
use Rattle.generated_job.specs.Generated.{matrix_lines}
use Rattle.generated_job.proofs.files.matrix_lines.Given as goal

abbrev pub invariant-loop-index : goal.invariant-loop-index
invariant-loop-index l = l.lines.items ≡ flat_map (matrix_lines l.size) (count_from 0 l.index)
