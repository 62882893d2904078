-- A value that is made of the cells of another one, as its rank begins it.
use Rattle.std.specs.Prelude.{◌≡◌, ◌<◌, ℕ, List, Some}
use Rattle.scalar_laws.specs.Semiring.{Semiring}
use Rattle.scalar_laws.specs.Conversions.{Conversions}
use Rattle.map_core.specs.Plans.{PlanLists}
use Rattle.mm_text.specs.Reading.{File}
use Rattle.peers.specs.Protocols.{Letter}
use Rattle.model_defs.specs.declared.job.Job.{Job}
use Rattle.model_defs.specs.declared.job.Step.{Step}
use Rattle.model_defs.specs.declared.shape.Shape.{Shape}
use Rattle.model_defs.specs.Makers.{Made, maker_of}
use Rattle.model_defs.specs.Phases.{send_phase}
use Rattle.model_defs.specs.Shapes.{shape}
use Rattle.model_defs.specs.Stages.{stage_count, transfer_at}
use Rattle.plan_phases.specs.BookStages.{IsMadePlan}
use Rattle.rank_share.specs.declared.share.Share.{Share}
use Rattle.rank_stages.specs.DataLaws.{copied_by}
use Rattle.value_phases.specs.ValuePhases.{IsCopy}
use Rattle.rank_pieces.specs.declared.pieces.Piece.{Piece}
use Rattle.rank_makings.specs.Beginnings.{IsAt}
use Rattle.rank_makings.specs.Comings.{AreHeard}

-- Value k is made by this statement of the cells of another value, by a plan that was made for its transfer.
pub record IsCopying {S : Type 0} (R : Semiring S) (F : Conversions S) (job : Job) (files : List File) (me : ℕ) (pieces : List (Piece S)) (given : List Letter)
    (k stage : ℕ) (step : Step) (here : Shape) (source : ℕ) (plan : PlanLists) : Type 0 where
  pub share : Share
  pub shapes : List Shape
  pub at : IsAt R F job files me share shapes pieces given k
  pub copy : IsCopy job k
  pub known : stage < stage_count job k
  pub phase : ℕ
  pub sends : send_phase job k stage ≡ Some phase
  pub heard : AreHeard job files me phase given
  pub step_is : Made step ≡ maker_of job k
  pub here_is : here ≡ shape job k
  pub copied : copied_by (Made step) ≡ Some source
  pub made : IsMadePlan job files me (transfer_at job k stage).plan plan
