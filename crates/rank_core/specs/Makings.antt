-- The value that a rank is making.
use Rattle.std.specs.Prelude.{◌≡◌, ℕ, suc, List, Option, None, Some, slice_get}
use Rattle.scalar_laws.specs.Semiring.{Semiring}
use Rattle.scalar_laws.specs.Conversions.{Conversions}
use Rattle.mm_text.specs.Reading.{File}
use Rattle.tables.specs.Tables.{Table}
use Rattle.peers.specs.Protocols.{Letter}
use Rattle.model_defs.specs.declared.job.Job.{Job}
use Rattle.model_defs.specs.declared.phase.About.TheVariants.{SendNumbers}
use Rattle.model_defs.specs.declared.phase.Phase.{Phase}
use Rattle.model_defs.specs.Phases.{phases}
use Rattle.value_phases.specs.ValuePhases.{IsAfter}
use Rattle.rank_pieces.specs.declared.pieces.Piece.{Piece}
use Rattle.rank_makings.specs.Comings.{HaveCome, IsComing, IsFilled}
use Rattle.rank_core.specs.declared.makings.Making.{Making}
use Rattle.rank_core.specs.declared.makings.Making.TheVariants.{Arriving, Arrived, Filled}

-- the phase of this number is for value k
pub record IsPhaseOf (job : Job) (n k : ℕ) : Type 0 where
  pub phase : Phase
  pub at : slice_get (phases job) n ≡ Some phase
  pub value : phase.value ≡ k

-- the phase sends the numbers of value k at a stage
pub record IsSending (job : Job) (n k stage : ℕ) : Type 0 where
  pub phase : Phase
  pub at : slice_get (phases job) n ≡ Some phase
  pub value : phase.value ≡ k
  pub about : phase.about ≡ SendNumbers stage

-- the phase is for the structure of value k
pub record IsStructuring (job : Job) (n k : ℕ) : Type 0 where
  pub of : IsPhaseOf job n k
  pub after : IsAfter job n k

module _ {S : Type 0} (R : Semiring S) (F : Conversions S) (job : Job) (files : List File) (me : ℕ) (pieces : List (Piece S)) (given : List Letter) where
  -- What a rank makes of value k in phase n, which it entered: numbers come exactly where the phase sends them, and a matrix is under
  -- construction exactly where the phase is for its structure.
  abbrev pub IsMakingIn : (n k : ℕ) → (gathered : ℕ → ℕ → Table S) → Option (Making S) → Type 0
  IsMakingIn n k gathered None = ((stage : ℕ) → IsSending job n k stage → ⊥) × (IsStructuring job n k → ⊥)
  IsMakingIn n k gathered (Some (Arriving c)) = (stage : ℕ) × (IsSending job n k stage × IsComing R F job files me pieces given k stage (gathered k stage) c)
  IsMakingIn n k gathered (Some (Arrived v)) = ⊥
  IsMakingIn n k gathered (Some (Filled fill)) = IsStructuring job n k × IsFilled R F job files me pieces given k fill

  -- What it has of value k when it is about to enter phase n: the numbers of the stage before came, or the matrix is under construction.
  abbrev pub IsMakingFor : (n k : ℕ) → Option (Making S) → Type 0
  IsMakingFor n k None = ((stage : ℕ) → IsSending job n k (suc stage) → ⊥) × (IsStructuring job n k → ⊥)
  IsMakingFor n k (Some (Arriving c)) = ⊥
  IsMakingFor n k (Some (Arrived v)) = (stage : ℕ) × (IsSending job n k (suc stage) × HaveCome R F job files me pieces given k stage v)
  IsMakingFor n k (Some (Filled fill)) = IsStructuring job n k × IsFilled R F job files me pieces given k fill
