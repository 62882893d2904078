use Rattle.std.proofs.Common.{◌≡◌, [], drop}
use Rattle.job_text.specs.Known.{read}
use Rattle.job_text.specs.Steps.{steps_after}
use Rattle.toml.specs.View.{items_view}
use Rattle.job_text.proofs.steps.read_steps.Given as goal

abbrev pub invariant-loop-k : goal.invariant-loop-k
invariant-loop-k l = steps_after (read l.known l.steps.items) l.k (items_view (drop l.k l.tables)) ≡ steps_after (read l.fn.known []) 0 (items_view l.tables)
