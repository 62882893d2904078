-- The job of the example: of two ranks, a vector of three cells moves from a uniform map to a cyclic one.
use Rattle.std.specs.Prelude.{ℕ, ℤ, pos, List, [], ◌∷◌, codes}
use Rattle.scalar_laws.specs.Weighed.{weighed_conversions, weighed_semiring}
use Rattle.mm_text.specs.declared.file_data.Line.{Line}
use Rattle.mm_text.specs.declared.file_data.Mirror.TheVariants.{Plain}
use Rattle.mm_text.specs.Reading.{File}
use Rattle.peers.specs.Protocols.{Protocol}
use Rattle.model_defs.specs.declared.job.Job.{Job}
use Rattle.model_defs.specs.declared.job.MapSpec.{MapSpec}
use Rattle.model_defs.specs.declared.job.MapForm.TheVariants.{Uniform, Cyclic}
use Rattle.model_defs.specs.declared.job.Origin.TheVariants.{Files}
use Rattle.model_defs.specs.declared.job.Step.{Step}
use Rattle.model_defs.specs.declared.job.Step.TheVariants.{Move, Print}
use Rattle.model_defs.specs.declared.job.VectorSpec.{VectorSpec}
use Rattle.model_defs.specs.Machine.{job_protocol}

abbrev pub maps : List MapSpec
maps = record { name = codes "s"; size = 3; form = Uniform } ∷ record { name = codes "t"; size = 3; form = Cyclic } ∷ []

abbrev pub vectors : List VectorSpec
vectors = record { name = codes "x"; map = 0; columns = 1; from = Files (codes "x.mtx" ∷ []) } ∷ []

abbrev pub steps : List Step
steps = Move (codes "y") 0 1 ∷ Print 1 ∷ []

unfoldable pub small_job : Job
small_job = record { ranks = 2; maps = maps; vectors = vectors; parts = []; matrices = []; steps = steps }

-- the one file, that of the vector
abbrev pub line : ℕ → ℤ → Line
line row value = record { row = row; col = 0; value = value }

abbrev pub lines : List Line
lines = line 0 (pos 1) ∷ line 1 (pos 10) ∷ line 2 (pos 100) ∷ []

unfoldable pub small_files : List File
small_files = record { rows = 3; cols = 1; mirror = Plain; lines = lines } ∷ []

-- how its ranks send
unfoldable pub small_protocol : Protocol
small_protocol = job_protocol weighed_semiring weighed_conversions small_job small_files
