-- Worked files that fit a job, and others.
use Rattle.std.proofs.Common.{◌≡◌, ℕ, true, [], ◌∷◌, None, Some, refl}
use Rattle.std.specs.Prelude.{pos}
use Rattle.mm_text.specs.declared.file_data.Mirror.TheVariants.{Plain}
use Rattle.mm_text.specs.Reading.{File}
use Rattle.model_defs.specs.declared.job.Job.{Job}
use Rattle.model_defs.specs.declared.job.MapForm.TheVariants.{Uniform, Blocks, Cyclic, Lists}
use Rattle.model_defs.specs.declared.job.Origin.{Origin}
use Rattle.model_defs.specs.declared.job.Origin.TheVariants.{Files, Fill}
use Rattle.model_defs.specs.Fitting.{first_unfit}

-- two ranks; a vector of two columns on a uniform map, parts of three columns on a map of each form in turn, and a matrix
job : ℕ → Origin → Job
job m from = record {
  ranks = 2;
  maps = record { name = 117 ∷ []; size = 7; form = Uniform } ∷ record { name = 98 ∷ []; size = 5; form = Blocks (1 ∷ 4 ∷ []) }
      ∷ record { name = 99 ∷ []; size = 8; form = Cyclic } ∷ record { name = 108 ∷ []; size = 9; form = Lists ((0 ∷ 8 ∷ 4 ∷ []) ∷ (8 ∷ 1 ∷ []) ∷ []) } ∷ [];
  vectors = record { name = 120 ∷ []; map = 0; columns = 2; from = Files ((120 ∷ []) ∷ []) } ∷ [];
  parts = record { name = 112 ∷ []; map = m; columns = 3; from = from } ∷ [];
  matrices = record { name = 97 ∷ []; split = true; rows = 0; domain = 2; file = 97 ∷ [] } ∷ [];
  steps = [];
}

read : Origin
read = Files ((112 ∷ []) ∷ (113 ∷ []) ∷ [])

file : ℕ → ℕ → File
file rows cols = record { rows = rows; cols = cols; mirror = Plain; lines = [] }

uniform : first_unfit (job 0 read) (file 7 2 ∷ file 4 3 ∷ file 3 3 ∷ file 7 8 ∷ []) ≡ None
unfolding job read file
uniform = refl

blocks : first_unfit (job 1 read) (file 7 2 ∷ file 1 3 ∷ file 4 3 ∷ file 7 8 ∷ []) ≡ None
unfolding job read file
blocks = refl

cyclic : first_unfit (job 2 read) (file 7 2 ∷ file 4 3 ∷ file 4 3 ∷ file 7 8 ∷ []) ≡ None
unfolding job read file
cyclic = refl

lists : first_unfit (job 3 read) (file 7 2 ∷ file 3 3 ∷ file 2 3 ∷ file 7 8 ∷ []) ≡ None
unfolding job read file
lists = refl

-- a part with the size of the map
whole_map : first_unfit (job 3 read) (file 7 2 ∷ file 3 3 ∷ file 9 3 ∷ file 7 8 ∷ []) ≡ Some 1
unfolding job read file
whole_map = refl

-- several differences: the first one
first_of_three : first_unfit (job 0 read) (file 7 3 ∷ file 3 3 ∷ file 3 3 ∷ file 8 7 ∷ []) ≡ Some 0
unfolding job read file
first_of_three = refl

-- parts of one number have no files
filled : first_unfit (job 0 (Fill (pos 1))) (file 7 2 ∷ file 8 7 ∷ []) ≡ Some 2
unfolding job read file
filled = refl
