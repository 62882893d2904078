-- What makes the values of a job.
use Rattle.std.specs.Prelude.{◌≡◌, ℕ, ℤ, ◌<◌, ◌==◌, ◌⊎◌, Bool, true, false, if◌then◌else◌, List, [], ◌∷◌, Option, None, Some}
use Rattle.model_defs.specs.declared.job.Job.{Job}
use Rattle.combine_modes.specs.declared.mode.Mode.{Mode}
use Rattle.model_defs.specs.declared.job.MatrixSpec.{MatrixSpec}
use Rattle.model_defs.specs.declared.job.Step.TheVariants as step
use Rattle.model_defs.specs.declared.phase.Plan.TheVariants.{ColumnPlan, ImportPlan, RowPlan}
use Rattle.model_defs.specs.Makers.{Maker, GivenMatrix, Made, maker_of, value_count}
use Rattle.model_defs.specs.Phases.{send_phase}
use Rattle.model_defs.specs.Shapes.{shape, is_dense, is_split_sort}
use Rattle.model_defs.specs.Transfers.{apply_transfers, from_owners, to_owners, transfers}
use Rattle.value_phases.specs.ValuePhases.{IsCopy, IsStructured}

-- Value k is an apply: of which matrix, to which vector, and what is added. The vectors are those of the maps of the matrix.
pub record IsApply (job : Job) (k : ℕ) : Type 0 where
  pub name : List ℕ
  pub a : ℕ
  pub x : ℕ
  pub y : Option ℕ
  pub alpha : ℤ
  pub beta : ℤ
  pub transposed : Bool
  pub is : maker_of job k ≡ Made (step.Apply name a x y alpha beta transposed)
  pub below : k < value_count job
  pub before_a : a < k
  pub before_x : x < k
  pub sparse_a : is_dense (shape job a).sort ≡ false
  pub dense_x : is_dense (shape job x).sort ≡ true
  pub dense : is_dense (shape job k).sort ≡ true
  pub rows_x : (shape job x).rows ≡ (if transposed then (shape job a).rows else (shape job a).domain)
  pub rows : (shape job k).rows ≡ (if transposed then (shape job a).domain else (shape job a).rows)
  pub columns : (shape job k).columns ≡ (shape job x).columns
  -- what is added is a vector on the map of the result, with as many columns
  pub addend : (o : ℕ) → y ≡ Some o
      → (o < k) × ((shape job o).sort ≡ (shape job k).sort) × ((shape job o).rows ≡ (shape job k).rows) × ((shape job o).columns ≡ (shape job k).columns)
  pub transfers_are : transfers job k ≡ apply_transfers a (is_split_sort (shape job a).sort) transposed

-- Value k is a matrix of a file whose rows are brought to their owners.
pub record IsAssembled (job : Job) (k : ℕ) : Type 0 where
  pub spec : MatrixSpec
  pub is : maker_of job k ≡ GivenMatrix spec
  pub whole : spec.split ≡ false
  pub not_split : is_split_sort (shape job k).sort ≡ false
  pub structured : IsStructured job k
  pub transfers_are : transfers job k ≡ to_owners (RowPlan k) ∷ []

-- Value k is a matrix of a file whose entries stay where they were dealt.
pub record IsGivenSplit (job : Job) (k : ℕ) : Type 0 where
  pub spec : MatrixSpec
  pub is : maker_of job k ≡ GivenMatrix spec
  pub split : spec.split ≡ true
  pub is_split : is_split_sort (shape job k).sort ≡ true
  pub structured : IsStructured job k
  pub transfers_are : transfers job k ≡ []

-- a matrix before value k that is whole
pub record IsWholeBefore (job : Job) (k v : ℕ) : Type 0 where
  pub before : v < k
  pub sparse : is_dense (shape job v).sort ≡ false
  pub whole : is_split_sort (shape job v).sort ≡ false

-- a whole matrix with a structure of its own, on this map
pub record IsNewMatrix (job : Job) (k m : ℕ) : Type 0 where
  pub structured : IsStructured job k
  pub whole : is_split_sort (shape job k).sort ≡ false
  pub rows : (shape job k).rows ≡ m

-- Value k is the transpose of a matrix.
pub record IsTransposed (job : Job) (k : ℕ) : Type 0 where
  pub name : List ℕ
  pub a : ℕ
  pub is : maker_of job k ≡ Made (step.Transpose name a)
  pub operand : IsWholeBefore job k a
  pub made : IsNewMatrix job k (shape job a).domain
  pub transfers_are : transfers job k ≡ to_owners (ColumnPlan a) ∷ []

-- Value k is the product of two matrices. The rows of b are on the map of the columns of a.
pub record IsProduct (job : Job) (k : ℕ) : Type 0 where
  pub name : List ℕ
  pub a : ℕ
  pub b : ℕ
  pub is : maker_of job k ≡ Made (step.Multiply name a b)
  pub left : IsWholeBefore job k a
  pub right : IsWholeBefore job k b
  pub meet : (shape job a).domain ≡ (shape job b).rows
  pub made : IsNewMatrix job k (shape job a).rows
  pub transfers_are : transfers job k ≡ from_owners (ColumnPlan a) ∷ []

-- Value k is the sum of two matrices, each times a factor, on the map of the first one.
pub record IsSum (job : Job) (k : ℕ) : Type 0 where
  pub name : List ℕ
  pub a : ℕ
  pub b : ℕ
  pub alpha : ℤ
  pub beta : ℤ
  pub is : maker_of job k ≡ Made (step.Add name a b alpha beta)
  pub left : IsWholeBefore job k a
  pub right : IsWholeBefore job k b
  pub made : IsNewMatrix job k (shape job a).rows
  pub transfers_are : transfers job k ≡ from_owners (ImportPlan (shape job b).rows (shape job a).rows) ∷ []

-- Value k is assembled of a split matrix, onto a matrix on its maps or onto no places.
pub record IsGathered (job : Job) (k : ℕ) : Type 0 where
  pub name : List ℕ
  pub source : ℕ
  pub base : Option ℕ
  pub mode : Mode
  pub is : maker_of job k ≡ Made (step.Assemble name source base mode)
  pub before : source < k
  pub sparse : is_dense (shape job source).sort ≡ false
  pub split : is_split_sort (shape job source).sort ≡ true
  pub onto : (o : ℕ) → base ≡ Some o → IsWholeBefore job k o × ((shape job o).rows ≡ (shape job source).rows)
  pub made : IsNewMatrix job k (shape job source).rows
  pub transfers_are : transfers job k ≡ to_owners (RowPlan source) ∷ []

-- the statements that make such matrices
abbrev pub is_matrix_step : Maker → Bool
is_matrix_step (Made (step.Transpose name a)) = true
is_matrix_step (Made (step.Multiply name a b)) = true
is_matrix_step (Made (step.Add name a b alpha beta)) = true
is_matrix_step (Made (step.Assemble name source onto mode)) = true
is_matrix_step _ = false

-- a matrix that a statement makes of rows of others
abbrev pub IsMadeMatrix : Job → ℕ → Type 0
IsMadeMatrix job k = IsTransposed job k ⊎ (IsProduct job k ⊎ (IsSum job k ⊎ IsGathered job k))

-- what is made of numbers of others: a copy, an apply, a matrix whose rows are brought to their owners, or one that a statement makes
abbrev pub IsSender : Job → ℕ → Type 0
IsSender job k = IsCopy job k ⊎ (IsApply job k ⊎ (IsAssembled job k ⊎ IsMadeMatrix job k))

-- Value k is a matrix with a structure of its own of which each rank makes its rows by itself: one of a file that stays split, or the
-- sum of two matrices on one map.
pub record IsSumHere (job : Job) (k : ℕ) : Type 0 where
  pub sum : IsSum job k
  pub here : (shape job sum.b).rows ≡ (shape job sum.a).rows

abbrev pub IsOwnMatrix : Job → ℕ → Type 0
IsOwnMatrix job k = IsGivenSplit job k ⊎ IsSumHere job k

-- by what makes it
abbrev pub is_own_matrix : Job → Maker → Bool
is_own_matrix job (GivenMatrix spec) = spec.split
is_own_matrix job (Made (step.Add name a b alpha beta)) = (shape job b).rows == (shape job a).rows
is_own_matrix job _ = false

-- The values of a job.
pub record HasValueKinds (job : Job) : Type 0 where
  pub senders : (k t n : ℕ) → send_phase job k t ≡ Some n → IsSender job k
  -- a structure of its own that needs no numbers of others is that of such a matrix
  pub alone : (k : ℕ) → IsStructured job k → ((t : ℕ) → send_phase job k t ≡ None) → is_own_matrix job (maker_of job k) ≡ true
  pub own : (k : ℕ) → is_own_matrix job (maker_of job k) ≡ true → IsOwnMatrix job k
  -- any other matrix is scaled, or a copy on its own map
  pub shared : (k : ℕ) → k < value_count job → is_dense (shape job k).sort ≡ false → IsStructured job k ⊎ ((shape job k).structure < k)
