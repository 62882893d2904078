-- Which jobs are valid: what the reader of a job text tests.
use Rattle.std.specs.Prelude.{◌≡◌, ◌≢◌, ◌<◌, ◌+◌, ◌⊎◌, ℕ, true, if◌then◌else◌, List, [], ◌∷◌, Option, None, Some, length, sum}
use Rattle.map_core.specs.Layouts.{IsLayout, IsOneToOne, IsTotal}
use Rattle.model_defs.specs.declared.job.Job.{Job}
use Rattle.model_defs.specs.declared.job.MapForm.{MapForm}
use Rattle.model_defs.specs.declared.job.MapForm.TheVariants.{Blocks, Lists}
use Rattle.model_defs.specs.declared.job.Origin.{Origin}
use Rattle.model_defs.specs.declared.job.Origin.TheVariants.{Files, Fill}
use Rattle.model_defs.specs.declared.job.Step.{Step}
use Rattle.model_defs.specs.declared.job.Step.TheVariants as step
use Rattle.model_defs.specs.Maps.{map_at, size_of, layout_of, is_mapped}
use Rattle.model_defs.specs.Makers.{Maker, GivenVector, GivenParts, GivenMatrix, Made, maker_of, value_count, gives_value}
use Rattle.model_defs.specs.Shapes.{shape, Sort, Vector, Parts, Matrix, Split, is_dense}
use Rattle.model_defs.specs.Limits.{IsWithinLimits}
use Rattle.model_defs.specs.Naming.{IsNamed}

-- what a map states has a part for each rank, and the counts of blocks add up to its size
abbrev pub IsForm : ℕ → ℕ → MapForm → Type 0
IsForm P size (Blocks counts) = (length counts ≡ P) × (sum counts ≡ size)
IsForm P size (Lists lists) = length lists ≡ P
IsForm P size _ = Unit {0}

-- each index has one owner at most; of a matrix's maps exactly one
abbrev pub IsOwnerMap : Job → ℕ → Type 0
IsOwnerMap job m = (m < length job.maps) × IsOneToOne (layout_of job m)

abbrev pub IsMatrixMap : Job → ℕ → Type 0
IsMatrixMap job m = (m < length job.maps) × IsOneToOne (layout_of job m) × IsTotal (layout_of job m)

-- a value before value k, of this sort
abbrev pub IsEarlier : Job → ℕ → ℕ → Sort → Type 0
IsEarlier job k v sort = (v < k) × ((shape job v).sort ≡ sort)

abbrev pub IsVectorFile : Origin → Type 0
IsVectorFile (Files names) = length names ≡ 1
IsVectorFile (Fill v) = Unit {0}

abbrev pub ArePartFiles : ℕ → Origin → Type 0
ArePartFiles P (Files names) = length names ≡ P
ArePartFiles P (Fill v) = Unit {0}

-- y of an apply is on the map of the result and has its columns
abbrev pub IsAddend : Job → ℕ → Option ℕ → Type 0
IsAddend job k None = Unit {0}
IsAddend job k (Some y) = IsEarlier job k y Vector × ((shape job y).rows ≡ (shape job k).rows) × ((shape job y).columns ≡ (shape job k).columns)

-- a split matrix is assembled onto a matrix on its maps
abbrev pub IsBase : Job → ℕ → ℕ → Option ℕ → Type 0
IsBase job k source None = Unit {0}
IsBase job k source (Some onto) =
    IsEarlier job k onto Matrix × ((shape job onto).rows ≡ (shape job source).rows) × ((shape job onto).domain ≡ (shape job source).domain)

abbrev pub AreSameSize : Job → ℕ → ℕ → Type 0
AreSameSize job m n = size_of job m ≡ size_of job n

-- map n has every index that map m has
abbrev pub IsCovered : Job → ℕ → ℕ → Type 0
IsCovered job m n = (i : ℕ) → is_mapped job m i ≡ true → is_mapped job n i ≡ true

-- which statements may make value k
abbrev pub IsValidStep : Job → ℕ → Step → Type 0
IsValidStep job k (step.Move name source m) =
    (source < k) × (((shape job source).sort ≡ Vector) ⊎ (((shape job source).sort ≡ Matrix) × IsTotal (layout_of job m)))
    × AreSameSize job (shape job source).rows m × IsOwnerMap job m
    × ((shape job source).sort ≡ Vector → IsCovered job m (shape job source).rows)
IsValidStep job k (step.Import name source onto mode) =
    IsEarlier job k source Vector × IsEarlier job k onto Parts
    × AreSameSize job (shape job source).rows (shape job onto).rows × ((shape job source).columns ≡ (shape job onto).columns)
IsValidStep job k (step.Export name source onto mode) =
    IsEarlier job k source Parts × IsEarlier job k onto Vector
    × AreSameSize job (shape job source).rows (shape job onto).rows × ((shape job source).columns ≡ (shape job onto).columns)
IsValidStep job k (step.Spread name source m) = IsEarlier job k source Vector × (m < length job.maps) × AreSameSize job (shape job source).rows m
IsValidStep job k (step.Update name x y alpha beta) =
    (x < k) × (y < k) × ((shape job x).sort ≡ (shape job y).sort) × (is_dense (shape job x).sort ≡ true)
    × ((shape job x).rows ≡ (shape job y).rows) × ((shape job x).columns ≡ (shape job y).columns)
IsValidStep job k (step.Scale name value alpha) = value < k
IsValidStep job k (step.Apply name a x y alpha beta transposed) =
    (a < k) × (((shape job a).sort ≡ Matrix) ⊎ ((shape job a).sort ≡ Split)) × IsEarlier job k x Vector
    × ((shape job x).rows ≡ (if transposed then (shape job a).rows else (shape job a).domain)) × IsAddend job k y
IsValidStep job k (step.Transpose name a) = IsEarlier job k a Matrix
IsValidStep job k (step.Multiply name a b) = IsEarlier job k a Matrix × IsEarlier job k b Matrix × ((shape job a).domain ≡ (shape job b).rows)
IsValidStep job k (step.Add name a b alpha beta) =
    IsEarlier job k a Matrix × IsEarlier job k b Matrix
    × AreSameSize job (shape job a).rows (shape job b).rows × AreSameSize job (shape job a).domain (shape job b).domain
IsValidStep job k (step.Assemble name source onto mode) = IsEarlier job k source Split × IsBase job k source onto
IsValidStep job k (step.Print value) = ⊥

-- what may make value k
abbrev pub IsValidMaker : Job → ℕ → Maker → Type 0
IsValidMaker job k (GivenVector spec) = IsOwnerMap job spec.map × IsVectorFile spec.from
IsValidMaker job k (GivenParts spec) = (spec.map < length job.maps) × ArePartFiles job.ranks spec.from
IsValidMaker job k (GivenMatrix spec) = IsMatrixMap job spec.rows × IsMatrixMap job spec.domain
IsValidMaker job k (Made step) = IsValidStep job k step

-- A value that is printed was made before, and is not split. The first of these statements may print the first k values.
abbrev pub IsPrintable : Job → ℕ → Step → Type 0
IsPrintable job k (step.Print value) = (value < k) × ((shape job value).sort ≢ Split)
IsPrintable job k _ = Unit {0}

abbrev pub ArePrintable : Job → ℕ → List Step → Type 0
ArePrintable job k [] = Unit {0}
ArePrintable job k (step ∷ steps) = IsPrintable job k step × ArePrintable job (if gives_value step then k + 1 else k) steps

-- how many values are given
abbrev pub given_count : Job → ℕ
given_count job = length job.vectors + length job.parts + length job.matrices

pub record IsValid (job : Job) : Type 0 where
  pub some : 0 < job.ranks
  pub limits : IsWithinLimits job
  pub named : IsNamed job
  pub forms : (m : ℕ) → m < length job.maps → IsForm job.ranks (size_of job m) (map_at job m).form
  pub layouts : (m : ℕ) → m < length job.maps → IsLayout (layout_of job m)
  pub values : (k : ℕ) → k < value_count job → IsValidMaker job k (maker_of job k)
  pub prints : ArePrintable job (given_count job) job.steps
