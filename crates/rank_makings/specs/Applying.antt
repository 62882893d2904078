-- An apply as its rank begins a stage of it, and as it makes the result of what came.
use Rattle.std.specs.Prelude.{◌≡◌, ◌<◌, ℕ, Bool, true, false, if◌then◌else◌, List, Option, None, Some, slice_get}
use Rattle.scalar_laws.specs.Semiring.{Semiring}
use Rattle.scalar_laws.specs.Conversions.{Conversions}
use Rattle.map_core.specs.Plans.{PlanLists}
use Rattle.mm_text.specs.Reading.{File}
use Rattle.multivector.specs.Vectors.{VectorState}
use Rattle.peers.specs.Protocols.{Letter}
use Rattle.model_defs.specs.declared.job.Job.{Job}
use Rattle.model_defs.specs.declared.job.Step.TheVariants as step
use Rattle.model_defs.specs.declared.phase.Way.TheVariants.{ToOwners}
use Rattle.model_defs.specs.declared.shape.Shape.{Shape}
use Rattle.model_defs.specs.Machine.{arrivals}
use Rattle.model_defs.specs.Makers.{Maker, Made}
use Rattle.model_defs.specs.Phases.{send_phase}
use Rattle.model_defs.specs.Shapes.{is_split_sort, shape}
use Rattle.model_defs.specs.Stages.{stage_count, transfer_at}
use Rattle.rank_matrices.specs.Matrices.{source_list}
use Rattle.rank_share.specs.declared.share.Share.{Share}
use Rattle.rank_values.specs.Vectors.{global_table}
use Rattle.dense_arrivals.specs.Applies.{got, mine}
use Rattle.value_phases.specs.ValueKinds.{IsApply}
use Rattle.rank_pieces.specs.declared.pieces.Piece.{Piece}
use Rattle.rank_pieces.specs.declared.pieces.Piece.TheVariants.{Vector, Matrix}
use Rattle.rank_pieces.specs.declared.pieces.RankMatrix.{RankMatrix}
use Rattle.rank_makings.specs.declared.applying.Operands.{Operands}
use Rattle.rank_makings.specs.Beginnings.{IsAt}
use Rattle.rank_makings.specs.Comings.{AreHeard}

-- Whether copies of x come to the rank's matrix first, by its plan of rows if it has one: they do but for the transpose of a matrix that
-- is whole, whose sums go to their owners at once.
abbrev pub starts_with_copies : Option PlanLists → (transposed : Bool) → Bool
starts_with_copies None true = false
starts_with_copies _ _ = true

-- Whether copies of x came at the end: they do for a matrix that is whole and not transposed.
abbrev pub ends_with_copies : Option PlanLists → (transposed : Bool) → Bool
ends_with_copies None false = true
ends_with_copies _ _ = false

abbrev pub is_apply : Maker → Bool
is_apply (Made (step.Apply name a x y alpha beta transposed)) = true
is_apply _ = false

-- These are the operands of an apply.
pub record AreOperands {job : Job} {k : ℕ} (apply : IsApply job k) (o : Operands) : Type 0 where
  pub matrix : o.matrix ≡ apply.a
  pub x : o.x ≡ apply.x
  pub y : o.y ≡ apply.y
  pub alpha : o.alpha ≡ apply.alpha
  pub beta : o.beta ≡ apply.beta
  pub transposed : o.transposed ≡ apply.transposed

-- Value k is an apply of this matrix to this vector, the piece of a value, and a stage of it begins.
pub record IsApplying {S : Type 0} (R : Semiring S) (F : Conversions S) (job : Job) (files : List File) (me : ℕ) (pieces : List (Piece S)) (given : List Letter)
    (k stage value : ℕ) (m : RankMatrix S) (x : VectorState S) (transposed : Bool) : Type 0 where
  pub share : Share
  pub shapes : List Shape
  pub at : IsAt R F job files me share shapes pieces given k
  pub apply : IsApply job k
  pub known : stage < stage_count job k
  pub phase : ℕ
  pub sends : send_phase job k stage ≡ Some phase
  pub heard : AreHeard job files me phase given
  pub value_is : value ≡ apply.x
  pub transposed_is : transposed ≡ apply.transposed
  pub matrix_at : slice_get pieces apply.a ≡ Some (Matrix m)
  pub vector_at : slice_get pieces apply.x ≡ Some (Vector x)

module _ {S : Type 0} (R : Semiring S) (F : Conversions S) (job : Job) (files : List File) (me : ℕ) (pieces : List (Piece S)) (given : List Letter) where
  -- Copies of x go to the lists of the matrix.
  pub record AreCopiesOf (k stage value : ℕ) (m : RankMatrix S) (x : VectorState S) (transposed : Bool) : Type 0 where
    pub applying : IsApplying R F job files me pieces given k stage value m x transposed
    pub first : stage ≡ 0
    pub copies : starts_with_copies m.rows transposed ≡ true

  -- Sums of the matrix with what is near go to the owners of the result: x itself, or its copies that came.
  pub record AreSumsOf (k stage rows : ℕ) (m : RankMatrix S) (near : VectorState S) (transposed : Bool) : Type 0 where
    pub value : ℕ
    pub x : VectorState S
    pub applying : IsApplying R F job files me pieces given k stage value m x transposed
    pub to_owners : (transfer_at job k stage).way ≡ ToOwners
    pub rows_are : rows ≡ (shape job k).rows
    pub map : near.map ≡ source_list transposed m.matrix.graph
    pub columns : near.columns ≡ (shape job k).columns
    pub table : global_table near ≡ (if is_split_sort (shape job applying.apply.a).sort then got R F job files me (arrivals R F job files me given) k 1
        else mine R F job files me (arrivals R F job files me given) k applying.apply.x)
