-- The limits of a job: all its sizes and numbers of things are bounded.
use Rattle.std.specs.Prelude.{◌≤◌, ◌+◌, ◌*◌, ℕ, All, length}
use Rattle.std.specs.List.{concat}
use Rattle.model_defs.specs.declared.job.Job.{Job}
use Rattle.model_defs.specs.declared.job.MapForm.{MapForm}
use Rattle.model_defs.specs.declared.job.MapForm.TheVariants.{Lists}
use Rattle.model_defs.specs.Maps.{layout_of}

-- the most indices that the lists of a map have together, and the most cells of a vector or of parts: 2^24
abbrev pub most_indices : ℕ
most_indices = 16777216

-- the greatest size of a map of lists: 2^40
abbrev pub most_size : ℕ
most_size = 1099511627776

abbrev pub most_ranks : ℕ
most_ranks = 32

abbrev pub most_columns : ℕ
most_columns = 16

-- the most maps, the most given values, and the most statements
abbrev pub most_maps : ℕ
most_maps = 64

abbrev pub most_given : ℕ
most_given = 64

abbrev pub most_steps : ℕ
most_steps = 200

-- A map of lists may be large, and its lists have few indices; every other map is small.
abbrev pub IsSmallForm : ℕ → MapForm → Type 0
IsSmallForm size (Lists lists) = (size ≤ most_size) × (length (concat lists) ≤ most_indices)
IsSmallForm size _ = size ≤ most_indices

-- how many indices the ranks have together
abbrev pub index_count : Job → ℕ → ℕ
index_count job m = length (concat (layout_of job m).lists)

-- a vector or parts on a map have 1 to 16 columns, and few cells
pub record HasFewCells (job : Job) (m columns : ℕ) : Type 0 where
  pub some : 1 ≤ columns
  pub few : columns ≤ most_columns
  pub cells : index_count job m * columns ≤ most_indices

pub record IsWithinLimits (job : Job) : Type 0 where
  pub ranks : job.ranks ≤ most_ranks
  pub maps : length job.maps ≤ most_maps
  pub given : length job.vectors + length job.parts + length job.matrices ≤ most_given
  pub steps : length job.steps ≤ most_steps
  pub forms : All (λ m. IsSmallForm m.size m.form) job.maps
  pub vectors : All (λ v. HasFewCells job v.map v.columns) job.vectors
  pub parts : All (λ v. HasFewCells job v.map v.columns) job.parts
