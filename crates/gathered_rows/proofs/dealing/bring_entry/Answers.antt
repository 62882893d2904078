use Rattle.std.proofs.Common.{◌∷◌, []}
use Rattle.gathered_rows.proofs.Dealt.{brought-both}
use Rattle.gathered_rows.proofs.dealing.bring_entry.Goals as goal

pub returns-in_ok-bring_cell-2-clause-cells : goal.returns-in_ok-bring_cell-2-clause-cells
returns-in_ok-bring_cell-2-clause-cells g c =
    rw (c.in-Some.ensures, ← c.own_cell.ensures)
    (brought-both _ (c.own_cell.result ∷ []) (c.in-Some.cell ∷ []) _ _ c.in_ok-bring_cell.ensures.cells c.in_ok-bring_cell-2.ensures.cells)
