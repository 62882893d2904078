-- The phases of acts, one act after the other.
use Rattle.std.specs.Prelude.{◌≡◌, ◌++◌, List}
use Rattle.model_defs.specs.declared.job.Job.{Job}
use Rattle.model_defs.specs.declared.phase.Phase.{Phase}
use Rattle.model_defs.specs.Phases.{Act, phases_from}
use Rattle.phase_list.specs.declared.walk.Walk.{Walk}

-- the phases so far, and then those of these acts
abbrev pub walked : Job → Walk → List Act → List Phase
walked job walk acts = walk.phases.items ++ phases_from job walk.made.items acts

-- The phases of these acts were added, whatever comes behind them.
abbrev pub Walks : Job → Walk → Walk → List Act → Type 0
Walks job old new acts = (rest : List Act) → walked job old (acts ++ rest) ≡ walked job new rest
