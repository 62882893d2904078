use Rattle.std.proofs.Common.{◌≡◌, List, take}
use Rattle.std.specs.List.{flat_map}
use Rattle.mm_text.specs.Reading.{File}
use Rattle.peers.specs.Protocols.{Letter}
use Rattle.model_defs.specs.Sheets.{step_sheets}
use Rattle.rank_sim.specs.Ranks.{AreFinished}
use Rattle.rank_sim.specs.Runs.{gathered_values}
use Rattle.rank_sim.proofs.shown.all_sheets.Given as goal

abbrev pub invariant-loop-step : goal.invariant-loop-step
invariant-loop-step g l =
    (files : List File) (letters : List Letter) → AreFinished g.S.Scalar.semiring g.S.Scalar.conversions l.fn.job files letters l.ranks
    → l.sheets.items ≡ flat_map (step_sheets g.S.Scalar.conversions l.fn.job (gathered_values g.S.Scalar.semiring g.S.Scalar.conversions l.fn.job files letters)) (take l.step-index l.fn.job.steps)
