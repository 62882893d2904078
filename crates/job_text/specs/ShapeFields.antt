-- The sort that the code's word stands for.
use Rattle.model_defs.specs.declared.shape.Sort.{Sort}
use Rattle.model_defs.specs.declared.shape.Sort.TheVariants.{Vector, Parts, Matrix, Split}
use Rattle.job_text.specs.declared.shape.Sort.{Sort as CodeSort}
use Rattle.job_text.specs.declared.shape.Sort.TheVariants as code

abbrev pub sort_seen : CodeSort → Sort
sort_seen code.Vector = Vector
sort_seen code.Parts = Parts
sort_seen code.Matrix = Matrix
sort_seen code.Split = Split
