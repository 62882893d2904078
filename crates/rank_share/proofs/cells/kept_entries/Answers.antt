use Rattle.std.proofs.Common.{sym, ap, ◌∙◌}
use Rattle.tables.specs.Indices.{stands}
use Rattle.rank_share.proofs.Dense.{filter-taken, filter-passed}
use Rattle.rank_share.proofs.cells.kept_entries.Goals as goal
use Rattle.rank_share.proofs.cells.kept_entries.Goals.{then-is_some+in_ok-push, else-is_some}

pub loop-entry-preserved : goal.loop-entry-preserved
loop-entry-preserved c =
    elim c.if-is_some.branch [
      | then-is_some+in_ok-push w ↦
          ap (λ v. v.items) w.lines-is ∙ w.in_ok-push.ensures.items
          ∙ filter-taken (λ e. stands e.row c.args.map.now) c.args.entries.now c.loop-entry.entry-index _ c.loop-entry.lines.items c.loop-entry-test.true c.loop-entry.invariant
          (sym c.local_of.ensures.found ∙ sym c.is_some.ensures ∙ w.if-is_some.true)
      | else-is_some w ↦
          ap (λ v. v.items) w.lines-is
          ∙ filter-passed (λ e. stands e.row c.args.map.now) c.args.entries.now c.loop-entry.entry-index _ c.loop-entry.lines.items c.loop-entry-test.true c.loop-entry.invariant
          (sym c.local_of.ensures.found ∙ sym c.is_some.ensures ∙ w.if-is_some.false)
    ]
