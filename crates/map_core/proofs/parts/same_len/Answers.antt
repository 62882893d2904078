use Rattle.std.proofs.Common.{sym, ◌∙◌, arith}
use Rattle.map_core.proofs.Classes.{differ, same_count-is}
use Rattle.map_core.proofs.parts.same_len.Goals as goal

pub returns-then-ne : goal.returns-then-ne
returns-then-ne c =
    record {
      same = sym
          (same_count-is c.args.held.now c.args.parted.now c.loop-lid.lid (omega arith) (omega arith) c.loop-lid.invariant
          (λ h i e. differ c.global_of.result c.global_of-in-loop-lid.result (sym c.ne.ensures ∙ c.if-ne.true) (c.global_of.ensures.index ∙ e ∙ sym c.global_of-in-loop-lid.ensures.index)));
      held_distinct = c.len.ensures.distinct;
      parted_distinct = c.len-2.ensures.distinct;
    }

pub returns : goal.returns
returns c =
    let most = c.min-most.ensures in
    let end = c.loop-lid-test.false in
    let reached = c.loop-lid.auto.lid-end in
    let one = c.len.ensures.len in
    let two = c.len-2.ensures.len in
    record {
      same = sym (same_count-is c.args.held.now c.args.parted.now c.min-most.result (omega arith) (omega arith) (λ k h. c.loop-lid.invariant k (omega arith)) (λ h i. absurd (omega arith)));
      held_distinct = c.len.ensures.distinct;
      parted_distinct = c.len-2.ensures.distinct;
    }
