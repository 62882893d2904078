use Rattle.std.proofs.Common.{[], subst}
use Rattle.model_defs.specs.Eval.{eval}
use Rattle.model_defs.specs.Machine.{job_protocol}
use Rattle.rank_sim.specs.Runs.{Shows, gathered_values}
use Rattle.rank_sim.proofs.Alike.{shows-alike}
use Rattle.rank_sim.proofs.Letterless.{ends-at-once, none-given}
use Rattle.rank_sim.proofs.LocalValues.{gathered-is-eval, no-names}
use Rattle.rank_sim.proofs.laws.local_runs_show_eval.Goals as goal

pub returns-clause-ending : goal.returns-clause-ending
returns-clause-ending g c = λ job files order local.
    ends-at-once (job_protocol g.S.Scalar.semiring g.S.Scalar.conversions job files) (no-names job files local) order

pub returns-clause-letters : goal.returns-clause-letters
returns-clause-letters g c = λ job files order begun now answer local ran.
    none-given (job_protocol g.S.Scalar.semiring g.S.Scalar.conversions job files) (no-names job files local) ran.letters ran.course.comes

pub returns-clause-values : goal.returns-clause-values
returns-clause-values g c = λ job files order begun now answer valid fit local ran pick.
    let R = g.S.Scalar.semiring in
    let F = g.S.Scalar.conversions in
    let none = none-given (job_protocol R F job files) (no-names job files local) ran.letters ran.course.comes in
    shows-alike F job files (gathered_values R F job files []) (eval R F job files pick) answer valid
    (λ v p l m. gathered-is-eval g.met.S.Scalar.laws g.met.S.Scalar.conversion_laws job files valid fit local pick v p l m)
    (subst (λ letters. Shows F job files (gathered_values R F job files letters) answer) none ran.shows)
