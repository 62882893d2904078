-- What a statement makes of a rank's pieces without letters.
use Rattle.std.specs.Prelude.{◌≡◌, ◌<◌, ℕ, List, Some, length, slice_get}
use Rattle.scalar_laws.specs.Semiring.{Semiring}
use Rattle.scalar_laws.specs.Conversions.{Conversions}
use Rattle.tables.specs.Tables.{Table}
use Rattle.crs_matrix.specs.Matrices.{crs_table}
use Rattle.multivector.specs.Vectors.{IsVector, VectorState}
use Rattle.model_defs.specs.declared.job.Step.{Step}
use Rattle.model_defs.specs.declared.job.Step.TheVariants as step
use Rattle.model_defs.specs.FileMatrix.{number_of}
use Rattle.model_defs.specs.Operations.{combination, scaled}
use Rattle.rank_transfers.specs.Arrivals.{after_table}
use Rattle.rank_values.specs.Vectors.{global_table}
use Rattle.rank_pieces.specs.declared.pieces.Piece.{Piece}
use Rattle.rank_pieces.specs.declared.pieces.Piece.TheVariants.{Vector, Matrix}
use Rattle.rank_pieces.specs.declared.pieces.RankMatrix.{RankMatrix}

-- a piece with this number is a vector
abbrev pub IsVectorAt : {S : Type 0} → List (Piece S) → ℕ → Type 0
IsVectorAt {S} pieces x = (a : VectorState S) × (slice_get pieces x ≡ Some (Vector a))

-- two of the pieces are vectors on one list, and have as many columns
pub record AreAlike {S : Type 0} (pieces : List (Piece S)) (x y : ℕ) : Type 0 where
  pub left : IsVectorAt pieces x
  pub right : IsVectorAt pieces y
  pub map : left.0.map ≡ right.0.map
  pub columns : left.0.columns ≡ right.0.columns

-- the operands are among the pieces, and those that are combined are alike
abbrev pub CanMake : {S : Type 0} → List (Piece S) → Step → Type 0
CanMake pieces (step.Move name source m) = source < length pieces
CanMake pieces (step.Import name source onto mode) = AreAlike pieces source onto
CanMake pieces (step.Export name source onto mode) = AreAlike pieces source onto
CanMake pieces (step.Spread name source m) = source < length pieces
CanMake pieces (step.Update name x y alpha beta) = AreAlike pieces x y
CanMake pieces (step.Scale name value alpha) = value < length pieces
CanMake pieces _ = ⊥

-- a vector on the list of another one, with this table
pub record IsOnListOf {S : Type 0} (a : VectorState S) (t : Table S) (v : VectorState S) : Type 0 where
  pub map : v.map ≡ a.map
  pub columns : v.columns ≡ a.columns
  pub table : global_table v ≡ t

-- a matrix with the structure of another one and its plans, and with this table
pub record IsOnStructureOf {S : Type 0} (a : RankMatrix S) (t : Table S) (m : RankMatrix S) : Type 0 where
  pub graph : m.matrix.graph ≡ a.matrix.graph
  pub columns : m.columns ≡ a.columns
  pub rows : m.rows ≡ a.rows
  pub table : crs_table m.matrix ≡ t

-- a piece that is a vector on the list of another one, with this table
abbrev pub IsVectorOn : {S : Type 0} → VectorState S → Table S → Piece S → Type 0
IsVectorOn a t (Vector v) = IsOnListOf a t v
IsVectorOn a t (Matrix m) = ⊥

-- a vector has a number in each of its cells
abbrev pub IsFilled : {S : Type 0} → Piece S → Type 0
IsFilled (Vector v) = IsVector v
IsFilled (Matrix m) = Unit {0}

-- the piece once more
pub record IsSame {S : Type 0} (a p : Piece S) : Type 0 where
  pub same : p ≡ a
  pub filled : IsFilled a

-- the piece with each of its numbers multiplied
abbrev pub IsScaled : {S : Type 0} → Semiring S → S → Piece S → Piece S → Type 0
IsScaled R alpha (Vector a) (Vector v) = IsOnListOf a (scaled R alpha (global_table a)) v
IsScaled R alpha (Matrix a) (Matrix m) = IsOnStructureOf a (scaled R alpha (crs_table a.matrix)) m
IsScaled R alpha _ _ = ⊥

-- what the statement makes of the pieces; what is moved or spread to its own map stays as it is, and cells that are imported or
-- exported on it are combined with the rank's own
abbrev pub IsStepPiece : {S : Type 0} → Semiring S → Conversions S → List (Piece S) → Step → Piece S → Type 0
IsStepPiece {S} R F pieces (step.Move name source m) p = (a : Piece S) → slice_get pieces source ≡ Some a → IsSame a p
IsStepPiece {S} R F pieces (step.Import name source onto mode) p =
    (a b : VectorState S) → slice_get pieces source ≡ Some (Vector a) → slice_get pieces onto ≡ Some (Vector b)
    → IsVectorOn b (after_table R mode (global_table b) (global_table a)) p
IsStepPiece {S} R F pieces (step.Export name source onto mode) p =
    (a b : VectorState S) → slice_get pieces source ≡ Some (Vector a) → slice_get pieces onto ≡ Some (Vector b)
    → IsVectorOn b (after_table R mode (global_table b) (global_table a)) p
IsStepPiece {S} R F pieces (step.Spread name source m) p = (a : Piece S) → slice_get pieces source ≡ Some a → IsSame a p
IsStepPiece {S} R F pieces (step.Update name x y alpha beta) p =
    (a b : VectorState S) → slice_get pieces x ≡ Some (Vector a) → slice_get pieces y ≡ Some (Vector b)
    → IsVectorOn b (combination R (number_of R F alpha) (global_table a) (number_of R F beta) (global_table b)) p
IsStepPiece {S} R F pieces (step.Scale name value alpha) p =
    (a : Piece S) → slice_get pieces value ≡ Some a → IsScaled R (number_of R F alpha) a p
IsStepPiece R F pieces _ p = ⊥
