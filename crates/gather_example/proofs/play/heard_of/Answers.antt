use Rattle.std.proofs.Common.{rules, ◌≡◌, ◌∙◌}
use Rattle.gather_example.proofs.Telling.{heard_all}
use Rattle.gather_example.proofs.play.heard_of.Goals as goal

pub returns : goal.returns
returns c = λ s p worked.
    let copied : c.in_ok-bytes.bytes.items ≡ c.heard.result.now = search rules in
    copied ∙ c.heard.ensures ∙ heard_all c.worker.result.now s (c.worker.ensures.peer s p worked)
