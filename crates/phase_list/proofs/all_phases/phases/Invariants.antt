use Rattle.std.proofs.Common.{◌≡◌, ◌-◌}
use Rattle.std.specs.List.{flat_map}
use Rattle.tables.specs.Indices.{count_from}
use Rattle.model_defs.specs.Makers.{value_count}
use Rattle.model_defs.specs.Phases.{phases, value_acts}
use Rattle.phase_list.specs.Walks.{walked}
use Rattle.phase_list.proofs.all_phases.phases.Given as goal

abbrev pub invariant-loop-k : goal.invariant-loop-k
invariant-loop-k l = phases l.job ≡ walked l.job l.walk (flat_map (value_acts l.job) (count_from l.k (value_count l.job - l.k)))
