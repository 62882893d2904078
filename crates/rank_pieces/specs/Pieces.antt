-- A rank's pieces of the first values, by the letters that were given to it.
use Rattle.std.specs.Prelude.{◌≡◌, ℕ, Bool, true, false, List, length, Option, None, Some, slice_get}
use Rattle.std.specs.Option.{option_map}
use Rattle.scalar_laws.specs.Semiring.{Semiring}
use Rattle.scalar_laws.specs.Conversions.{Conversions}
use Rattle.tables.specs.Tables.{Table}
use Rattle.map_core.specs.Plans.{PlanLists}
use Rattle.mm_text.specs.Reading.{File}
use Rattle.multivector.specs.Vectors.{VectorState}
use Rattle.crs_matrix.specs.Matrices.{crs_table}
use Rattle.peers.specs.Protocols.{Letter}
use Rattle.model_defs.specs.declared.job.Job.{Job}
use Rattle.model_defs.specs.Machine.{piece}
use Rattle.model_defs.specs.Maps.{list_of}
use Rattle.model_defs.specs.Phases.{send_phase}
use Rattle.model_defs.specs.Shapes.{is_dense, is_split_sort, shape}
use Rattle.model_defs.specs.declared.phase.Plan.{Plan}
use Rattle.model_defs.specs.declared.phase.Plan.TheVariants.{ColumnPlan, RowPlan}
use Rattle.rank_values.specs.Vectors.{global_table}
use Rattle.matrix_arrivals.specs.RowPlans.{AreListed, IsFromOwners}
use Rattle.value_phases.specs.ValuePhases.{IsStructured}
use Rattle.rank_pieces.specs.declared.pieces.Piece.{Piece}
use Rattle.rank_pieces.specs.declared.pieces.Piece.TheVariants.{Vector, Matrix}
use Rattle.rank_pieces.specs.declared.pieces.RankMatrix.{RankMatrix}

-- the table of a piece, by global indices
abbrev pub piece_table : {S : Type 0} → Piece S → Table S
piece_table (Vector v) = global_table v
piece_table (Matrix m) = crs_table m.matrix

-- A list of the rank by a plan of a value's structure, and the plan, from its own indices of the map of owners to this list.
pub record HasPlan (job : Job) (files : List File) (me : ℕ) (plan : Plan) (owners list : List ℕ) (made : PlanLists) : Type 0 where
  pub listed : AreListed job files plan me owners list
  pub from_owners : IsFromOwners job files plan me owners list made

module _ {S : Type 0} (job : Job) (files : List File) (me : ℕ) where
  -- a vector or parts, on the rank's list of the value's map
  pub record IsVectorOf (v : ℕ) (vector : VectorState S) : Type 0 where
    pub dense : is_dense (shape job v).sort ≡ true
    pub map : vector.map ≡ list_of job (shape job v).rows me
    pub columns : vector.columns ≡ (shape job v).columns

  -- The rows of a matrix are the rank's own ones, or, where it is split, those of its part, with a plan to their owners.
  abbrev pub HasRows : (split : Bool) → ℕ → RankMatrix S → Type 0
  HasRows false v m = (m.matrix.graph.rows ≡ list_of job (shape job v).rows me) × (m.rows ≡ None)
  HasRows true v m = (plan : PlanLists) × (m.rows ≡ Some plan) × HasPlan job files me (RowPlan v) (list_of job (shape job v).rows me) m.matrix.graph.rows plan

  -- a matrix, with the plans of its structure
  pub record IsMatrixOf (v : ℕ) (m : RankMatrix S) : Type 0 where
    pub sparse : is_dense (shape job v).sort ≡ false
    pub columns : HasPlan job files me (ColumnPlan v) (list_of job (shape job v).domain me) m.matrix.graph.cols m.columns
    pub rows : HasRows (is_split_sort (shape job v).sort) v m

  abbrev pub IsPieceOf : ℕ → Piece S → Type 0
  IsPieceOf v (Vector vector) = IsVectorOf v vector
  IsPieceOf v (Matrix m) = IsMatrixOf v m

module _ {S : Type 0} (R : Semiring S) (F : Conversions S) (job : Job) (files : List File) (me : ℕ) (given : List Letter) where
  -- the rank's piece of value v
  pub record IsOwnPiece (v : ℕ) (p : Piece S) : Type 0 where
    pub of : IsPieceOf job files me v p
    pub table : piece_table p ≡ piece R F job files me v given

  -- its pieces of the first values
  pub record AreOwnPieces (count : ℕ) (pieces : List (Piece S)) : Type 0 where
    pub many : length pieces ≡ count
    pub each : (v : ℕ) (p : Piece S) → slice_get pieces v ≡ Some p → IsOwnPiece v p

-- A value that is made without letters and without plans: no numbers of it are sent, and its structure is that of a value before it.
pub record IsMadeHere (job : Job) (k : ℕ) : Type 0 where
  pub unsent : (t : ℕ) → send_phase job k t ≡ None
  pub shared : IsStructured job k → ⊥

-- the tables of pieces, by their numbers
abbrev pub tables_of : {S : Type 0} → List (Piece S) → ℕ → Option (Table S)
tables_of pieces k = option_map piece_table (slice_get pieces k)
