use Rattle.message_play.proofs.MadeRuns.{exact_made}
use Rattle.message_play.proofs.laws.exact_runs_follow_from_names.Goals as goal

pub returns : goal.returns
returns c = λ P letters exact. exact_made P letters exact
