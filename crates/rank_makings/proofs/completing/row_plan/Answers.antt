use Rattle.std.proofs.Common.{true, sym, ◌∙◌}
use Rattle.rank_makings.proofs.Completed.{rows-listed, split-here, split-rows}
use Rattle.rank_makings.proofs.completing.row_plan.Goals as goal

pub structure_plan-requires-clause-shared : goal.structure_plan-requires-clause-shared
structure_plan-requires-clause-shared g c =
    let can = c.requires.can.1.1.1.1.1.1.0 in
    let split = split-here can _ true (sym c.is_split.ensures.split ∙ c.if-is_split.true) in
    (c.requires.can.0, (can.rows split, rows-listed can c.requires.can.1.1.1.1.1.1.1 split))

pub returns-then-is_split : goal.returns-then-is_split
returns-then-is_split g c = record {
  plan = λ files me given share pieces fill can is.
      split-rows can is (split-here can _ true (sym c.is_split.ensures.split ∙ c.if-is_split.true)) c.in_ok-made.made c.in_ok-made.ensures.made;
}
