use Rattle.std.proofs.Common.{◌+◌, ℕ, List, drop, ap, sym, ◌∙◌}
use Rattle.job_text.specs.Keys.{number_within}
use Rattle.job_text.specs.Lists.{each_element}
use Rattle.job_text.proofs.ElementLists.{number_next}
use Rattle.job_text.proofs.lists.indices_of.Goals as goal

pub loop-number-preserved : goal.loop-number-preserved
loop-number-preserved c =
    let xs = c.args.numbers.now in
    let i = c.loop-number.number-index in
    ap (λ (done : List ℕ). each_element (number_within c.args.place c.args.key.now 0 9223372036854775807) done (drop (i + 1) xs)) c.in_ok-push.ensures.items
    ∙ sym (number_next (number_within c.args.place c.args.key.now 0 9223372036854775807) c.loop-number.gids.items xs i c.in_ok-gid.gid c.loop-number-test.true c.in_ok-gid.ensures.number)
    ∙ c.loop-number.invariant
