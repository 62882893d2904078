use Rattle.std.proofs.Common.{◌≡◌, map}
use Rattle.tables.specs.Indices.{count_from}
use Rattle.generated_job.specs.Generated.{vector_line}
use Rattle.generated_job.proofs.files.vector_lines.Given as goal

abbrev pub invariant-loop-index : goal.invariant-loop-index
invariant-loop-index l = l.lines.items ≡ map vector_line (count_from 0 l.index)
