-- What a rank has when the numbers of a value begin to come to it, and when the value is made.
use Rattle.std.specs.Prelude.{◌≡◌, ◌<◌, ℕ, zero, suc, true, false, List, Option, None, Some}
use Rattle.scalar_laws.specs.Semiring.{Semiring}
use Rattle.scalar_laws.specs.Conversions.{Conversions}
use Rattle.crs_matrix.specs.Rows.{RowCells}
use Rattle.map_core.specs.Plans.{PlanLists}
use Rattle.mm_text.specs.Reading.{File}
use Rattle.multivector.specs.Vectors.{VectorState}
use Rattle.peers.specs.Protocols.{Letter}
use Rattle.model_defs.specs.declared.job.Job.{Job}
use Rattle.model_defs.specs.declared.shape.Shape.{Shape}
use Rattle.model_defs.specs.Makers.{value_count}
use Rattle.model_defs.specs.Phases.{send_phase}
use Rattle.model_defs.specs.ShapeLists.{at_list}
use Rattle.model_defs.specs.Shapes.{is_dense, is_split_sort, shape}
use Rattle.model_defs.specs.Stages.{stage_count, transfer_at}
use Rattle.model_defs.specs.declared.phase.Plan.TheVariants.{ColumnPlan, RowPlan}
use Rattle.plan_phases.specs.BookCalls.{IsSharedBook}
use Rattle.plan_phases.specs.BookStages.{IsMadePlan}
use Rattle.rank_plans.specs.Books.{Book, made_of}
use Rattle.rank_share.specs.declared.share.Share.{Share}
use Rattle.value_phases.specs.ValueKinds.{HasValueKinds, IsAssembled, IsSender}
use Rattle.value_phases.specs.ValuePhases.{HasValuePhases, IsMapPlan, IsStructured}
use Rattle.rank_pieces.specs.declared.pieces.Piece.{Piece}
use Rattle.rank_pieces.specs.Inputs.{IsRankInput}
use Rattle.rank_pieces.specs.Pieces.{AreOwnPieces}
use Rattle.rank_makings.specs.Comings.{AreHeard, HaveCome, HaveRowsCome, IsFilled}

module _ {S : Type 0} (R : Semiring S) (F : Conversions S) (job : Job) (files : List File) (me : ℕ) (share : Share) (shapes : List Shape) (pieces : List (Piece S)) (given : List Letter) where
  -- The rank has its pieces of the values before value k.
  pub record IsAt (k : ℕ) : Type 0 where
    pub input : IsRankInput F job files me share
    pub phased : HasValuePhases job
    pub kinds : HasValueKinds job
    pub shapes_are : at_list shapes ≡ shape job
    pub below : k < value_count job
    pub pieces_are : AreOwnPieces R F job files me given k pieces

  -- what came at the stage before, if there was one
  abbrev pub CameBefore : ℕ → ℕ → Option (VectorState S) → Type 0
  CameBefore k zero None = Unit {0}
  CameBefore k zero (Some v) = ⊥
  CameBefore k (suc stage) None = ⊥
  CameBefore k (suc stage) (Some v) = HaveCome R F job files me pieces given k stage v

  -- Numbers of value k can begin to come at a stage: all letters of the phases before have come, and the plan is there, which between
  -- maps was made, and of a matrix that is assembled was shared.
  pub record CanBegin (b : Book) (k stage : ℕ) (came : Option (VectorState S)) : Type 0 where
    pub at : IsAt k
    pub known : stage < stage_count job k
    pub phase : ℕ
    pub sends : send_phase job k stage ≡ Some phase
    pub heard : AreHeard job files me phase given
    pub me_is : b.me ≡ me
    pub made : IsMapPlan job (transfer_at job k stage).plan
        → (lists : PlanLists) × (made_of b (transfer_at job k stage).plan ≡ Some lists) × IsMadePlan job files me (transfer_at job k stage).plan lists
    pub shared : IsAssembled job k → IsSharedBook R F job files b (RowPlan k)
    pub before : CameBefore k stage came

  -- A vector or parts can be made of what came at the last stage.
  pub record CanFinish (k : ℕ) (came : VectorState S) : Type 0 where
    pub at : IsAt k
    pub dense : is_dense (shape job k).sort ≡ true
    pub last : ℕ
    pub last_is : suc last ≡ stage_count job k
    pub phase : ℕ
    pub sends : send_phase job k last ≡ Some phase
    pub heard : AreHeard job files me (suc phase) given
    pub have : HaveCome R F job files me pieces given k last came

  -- A matrix can be made of the rows that came at its stage, or, where this is a sum on one map, of its own rows.
  pub record CanFill (k : ℕ) (came : RowCells S) : Type 0 where
    pub at : IsAt k
    pub sparse : is_dense (shape job k).sort ≡ false
    pub sender : IsSender job k
    pub stage : ℕ
    pub known : stage < stage_count job k
    pub have : HaveRowsCome R F job files me pieces given k stage came

  -- A matrix can be completed once the plans of its structure were shared.
  pub record CanComplete (b : Book) (k : ℕ) (fill : RowCells S) : Type 0 where
    pub at : IsAt k
    pub structured : IsStructured job k
    pub phase : ℕ
    pub sent : (stage m : ℕ) → send_phase job k stage ≡ Some m → m < phase
    pub before : (v stage m : ℕ) → v < k → send_phase job v stage ≡ Some m → m < phase
    pub heard : AreHeard job files me phase given
    pub me_is : b.me ≡ me
    pub columns : IsSharedBook R F job files b (ColumnPlan k)
    pub rows : is_split_sort (shape job k).sort ≡ true → IsSharedBook R F job files b (RowPlan k)
    pub filled : IsFilled R F job files me pieces given k fill
