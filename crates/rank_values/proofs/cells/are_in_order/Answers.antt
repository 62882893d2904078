use Rattle.std.proofs.Common.{sym, ◌∙◌}
use Rattle.rank_values.proofs.InOrder.{first-alone, next-in_order, all-in_order}
use Rattle.rank_values.proofs.cells.are_in_order.Goals as goal

pub loop-at-init : goal.loop-at-init
loop-at-init g c = first-alone c.args.cells.now

pub loop-at-preserved : goal.loop-at-preserved
loop-at-preserved g c =
    next-in_order c.args.cells.now c.loop-at.at c.index-cells-at.result c.index-cells-at-in-loop-at.result c.loop-at.auto.at c.loop-at-test.true
    c.index-cells-at.is c.index-cells-at-in-loop-at.is c.loop-at.invariant (sym c.is_before.ensures ∙ c.if-not-is_before.false)

pub returns : goal.returns
returns g c = record { in_order = λ _. all-in_order c.args.cells.now c.loop-at.at c.loop-at-test.false c.loop-at.invariant }
