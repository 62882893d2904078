-- Which of its pieces a rank has, by the phases that it entered.
use Rattle.std.specs.Prelude.{ℕ, zero, suc, Option, None, Some, slice_get}
use Rattle.model_defs.specs.declared.job.Job.{Job}
use Rattle.model_defs.specs.declared.phase.Phase.{Phase}
use Rattle.model_defs.specs.Makers.{value_count}
use Rattle.model_defs.specs.Phases.{phases}

-- how many values come before that of a phase; at the end all
abbrev pub count_before : Job → Option Phase → ℕ
count_before job None = value_count job
count_before job (Some phase) = phase.value

-- how many values a rank has made that entered so many phases
abbrev pub made_count : Job → ℕ → ℕ
made_count job zero = 0
made_count job (suc n) = count_before job (slice_get (phases job) n)
