use Rattle.std.proofs.Common.{◌≡◌, ◌++◌, List, drop}
use Rattle.model_defs.specs.Phases.{Act, transfer_acts}
use Rattle.phase_list.specs.Walks.{walked}
use Rattle.phase_list.proofs.walk.add_transfers.Given as goal

abbrev pub invariant-loop-stage : goal.invariant-loop-stage
invariant-loop-stage l =
    (rest : List Act) → walked l.job l.initial.walk (transfer_acts l.k 0 l.transfers ++ rest)
    ≡ walked l.job l.walk (transfer_acts l.k l.stage (drop l.stage l.transfers) ++ rest)
