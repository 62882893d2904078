use Rattle.std.proofs.Common.{rules, ◌∙◌, false, length, ◌-◌, arith, ap}
use Rattle.schedule.specs.Tallies.{halved, total}
use Rattle.schedule.proofs.Halves.{length-halved, total-halved}
use Rattle.schedule.proofs.tally.+tower.Goals as goal

pub tower-requires : goal.tower-requires
tower-requires t c =
    let is = c.in_ok-halves.ensures ∙ ap halved c.deref.ensures.value in
    let few = c.if-len-le2.false in
    let shorter = length-halved c.args.level.items in
    let long = ap length is in
    let len = c.len.ensures in
    let ok = c.args.level.ok.0 in
    (search rules, omega (arith, c.requires, total-halved c.args.level.items, ap total is))
