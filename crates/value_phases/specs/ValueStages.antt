-- How many transfers a value has, and what follows for its phases.
use Rattle.std.specs.Prelude.{◌≡◌, ℕ, suc, ◌<◌, ◌≤◌, false, Some}
use Rattle.model_defs.specs.declared.job.Job.{Job}
use Rattle.model_defs.specs.Phases.{send_phase}
use Rattle.model_defs.specs.Shapes.{shape, is_dense}
use Rattle.model_defs.specs.Stages.{stage_count}
use Rattle.value_phases.specs.ValuePhases.{IsStructured}

-- A value has at most two transfers, and a matrix at most one. Where the numbers of one are sent, so are those of the next; and a
-- matrix whose rows are sent has a structure of its own.
pub record HasValueStages (job : Job) : Type 0 where
  pub few_stages : (k : ℕ) → stage_count job k ≤ 2
  pub one_stage : (k : ℕ) → is_dense (shape job k).sort ≡ false → stage_count job k ≤ 1
  pub all_sent : (k t n : ℕ) → send_phase job k t ≡ Some n → suc t < stage_count job k → (m : ℕ) × (send_phase job k (suc t) ≡ Some m)
  pub sent_structured : (k t n : ℕ) → send_phase job k t ≡ Some n → is_dense (shape job k).sort ≡ false → IsStructured job k
