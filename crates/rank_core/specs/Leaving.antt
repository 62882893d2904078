-- How a rank leaves the value that it makes, and what it needs of the next one.
use Rattle.std.specs.Prelude.{◌≡◌, ◌<◌, ◌⊎◌, ◌++◌, ℕ, Bool, true, false, List, [], ◌∷◌, length, Option, None, Some}
use Rattle.scalar_laws.specs.Semiring.{Semiring}
use Rattle.scalar_laws.specs.Conversions.{Conversions}
use Rattle.mm_text.specs.Reading.{File}
use Rattle.crs_matrix.specs.Rows.{IsRowCells, RowCells, all_columns}
use Rattle.peers.specs.Protocols.{Letter}
use Rattle.model_defs.specs.declared.job.Job.{Job}
use Rattle.model_defs.specs.declared.job.MatrixSpec.{MatrixSpec}
use Rattle.model_defs.specs.declared.phase.About.{About}
use Rattle.model_defs.specs.declared.phase.Plan.{Plan}
use Rattle.model_defs.specs.declared.phase.Plan.TheVariants.{ImportPlan, ExportPlan, ColumnPlan, RowPlan}
use Rattle.model_defs.specs.declared.shape.Shape.{Shape}
use Rattle.model_defs.specs.Makers.{GivenMatrix, maker_of, value_count}
use Rattle.model_defs.specs.Plans.{rank_columns, rank_rows}
use Rattle.multivector.specs.Vectors.{VectorState}
use Rattle.rank_plans.specs.Books.{Book}
use Rattle.rank_share.specs.declared.share.Share.{Share}
use Rattle.rank_stages.specs.OwnerLaws.{plan_about}
use Rattle.value_phases.specs.ValueKinds.{is_own_matrix}
use Rattle.rank_pieces.specs.declared.pieces.Piece.{Piece}
use Rattle.rank_pieces.specs.Inputs.{IsRankInput}
use Rattle.rank_makings.specs.declared.coming.Came.{Came}
use Rattle.rank_makings.specs.declared.coming.Came.TheVariants as came
use Rattle.rank_makings.specs.Beginnings.{CanComplete, CanFill, CanFinish, IsAt}
use Rattle.rank_makings.specs.Comings.{IsFilled, came_of}
use Rattle.rank_core.specs.declared.makings.Making.{Making}
use Rattle.rank_core.specs.declared.makings.Making.TheVariants.{Arriving, Arrived, Filled}

-- the pieces with one more, if there is one
abbrev pub with_made : {A : Type 0} → List A → Option A → List A
with_made pieces None = pieces
with_made pieces (Some p) = pieces ++ p ∷ []

-- Of these pieces either more were made, and nothing is in the making, or all were there, and what is in the making was taken.
abbrev pub IsLeft : {S : Type 0} → (old new : List (Piece S)) → ℕ → (was m : Option (Making S)) → Type 0
IsLeft old new count was m = ((length old < count) × (m ≡ None)) ⊎ ((length old ≡ count) × (new ≡ old) × (m ≡ was))

module _ {S : Type 0} (R : Semiring S) (F : Conversions S) (job : Job) (files : List File) (me : ℕ) where
  -- Value k is left: its numbers came, or all of its structure's plans were shared. Without either it is made otherwise.
  abbrev pub CanLeave : Share → List Shape → List (Piece S) → List Letter → Book → ℕ → Option (Making S) → Type 0
  CanLeave share shapes pieces given b k None = Unit {0}
  CanLeave share shapes pieces given b k (Some (Arriving c)) = (v : VectorState S) × (came_of c ≡ came.Cells v) × CanFinish R F job files me share shapes pieces given k v
  CanLeave share shapes pieces given b k (Some (Arrived v)) = ⊥
  CanLeave share shapes pieces given b k (Some (Filled fill)) = CanComplete R F job files me share shapes pieces given b k fill

  -- What is in the making before the next phase of a value can be made: of the rows that came for it, or by the rank itself.
  abbrev pub CanTake : Share → List Shape → List (Piece S) → List Letter → ℕ → Came S → Type 0
  CanTake share shapes pieces given k (came.Cells v) = Unit {0}
  CanTake share shapes pieces given k (came.Rows a) = CanFill R F job files me share shapes pieces given k a

  abbrev pub CanGoOn : Share → List Shape → List (Piece S) → List Letter → ℕ → Option (Making S) → Type 0
  CanGoOn share shapes pieces given k None = is_own_matrix job (maker_of job k) ≡ true → IsAt R F job files me share shapes pieces given k
  CanGoOn share shapes pieces given k (Some (Arriving c)) = CanTake share shapes pieces given k (came_of c)
  CanGoOn share shapes pieces given k (Some (Arrived v)) = ⊥
  CanGoOn share shapes pieces given k (Some (Filled fill)) = Unit {0}

  -- the rank's rows of a matrix, under construction
  abbrev pub IsUnderConstruction : List (Piece S) → List Letter → ℕ → Option (Making S) → Type 0
  IsUnderConstruction pieces given k next = (fill : RowCells S) × (next ≡ Some (Filled fill)) × IsFilled R F job files me pieces given k fill

  abbrev pub IsBegunBy : Bool → List (Piece S) → List Letter → ℕ → Option (Making S) → Type 0
  IsBegunBy true pieces given k next = IsUnderConstruction pieces given k next
  IsBegunBy false pieces given k next = next ≡ None

  abbrev pub IsTaken : List (Piece S) → List Letter → ℕ → Came S → Option (Making S) → Type 0
  IsTaken pieces given k (came.Cells v) next = next ≡ Some (Arrived v)
  IsTaken pieces given k (came.Rows a) next = IsUnderConstruction pieces given k next

  -- What is in the making before the next phase for value k: copies or sums that came, or a matrix under construction, of the rows that
  -- came or of the rank's own.
  abbrev pub IsNext : List (Piece S) → List Letter → ℕ → Option (Making S) → Option (Making S) → Type 0
  IsNext pieces given k None next = IsBegunBy (is_own_matrix job (maker_of job k)) pieces given k next
  IsNext pieces given k (Some (Arriving c)) next = IsTaken pieces given k (came_of c) next
  IsNext pieces given k (Some (Arrived v)) next = ⊥
  IsNext pieces given k (Some (Filled fill)) next = next ≡ Some (Filled fill)

  -- The rank's list by a plan of a structure is known: of columns by the matrix under construction, of rows by it, or by the part that
  -- was dealt to it.
  abbrev pub IsListKnown : Plan → Option (Making S) → Type 0
  IsListKnown (ImportPlan source target) making = Unit {0}
  IsListKnown (ExportPlan source target) making = Unit {0}
  IsListKnown (ColumnPlan v) making = (fill : RowCells S) × (making ≡ Some (Filled fill)) × (IsRowCells fill → all_columns fill ≡ rank_columns job files v me)
  IsListKnown (RowPlan v) making =
      ((fill : RowCells S) × (making ≡ Some (Filled fill)) × (fill.rows ≡ rank_rows job files v me))
      ⊎ ((making ≡ None) × (v < value_count job) × ((spec : MatrixSpec) × (maker_of job v ≡ GivenMatrix spec)))

  pub record CanList (share : Share) (about : About) (making : Option (Making S)) : Type 0 where
    pub input : IsRankInput F job files me share
    pub known : (plan : Plan) → plan_about about ≡ Some plan → IsListKnown plan making
