use Rattle.rank_sim.proofs.CompleteRuns.{shows-eval}
use Rattle.rank_sim.proofs.laws.complete_runs_show_eval.Goals as goal

pub returns : goal.returns
returns g c = λ job files order begun now answer valid fit ran honest.
    shows-eval g.met.S.Scalar.laws g.met.S.Scalar.conversion_laws job files order begun now answer ran valid fit honest
