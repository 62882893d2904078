use Rattle.std.proofs.Common.{◌∙◌, ◌++◌, arith, ap, map, refl}
use Rattle.std.proofs.lemmas.List.{take_all}
use Rattle.outside.proofs.Taking.{HoldsBack-is, WritesAndHolds-failed}
use Rattle.mm_text.specs.Written.{cell_words, lines_text}
use Rattle.mm_text.proofs.WrittenLines.{HoldsBack-line, TakesPrefix-lines}
use Rattle.mm_text.proofs.writing.text.write_cells.Goals as goal

pub returns-in_err-make_room : goal.returns-in_err-make_room
returns-in_err-make_room g c =
    WritesAndHolds-failed _ g.O.Sink.faults _ c.loop-cell.out _ _ _ _ c.from_residual.ensures.0 c.loop-cell.invariant.no_fault
    (TakesPrefix-lines cell_words c.args.cells.now c.loop-cell.cell-index _ _ _ c.args.page.now.items
    c.loop-cell.page.items c.loop-cell.invariant.held c.in_err-make_room.ensures.writes.prefix)
    c.in_err-make_room.ensures.writes.fault c.in_err-make_room.ensures.writes.never_falls

pub loop-cell-preserved : goal.loop-cell-preserved
loop-cell-preserved g c = record {
  held = HoldsBack-line cell_words c.args.cells.now c.loop-cell.cell-index _ _ _ _ c.args.page.now.items _ _ _
      c.loop-cell-test.true c.loop-cell.invariant.held c.in_ok-make_room.ensures.writes.taken c.push_cell.ensures.items;
  no_fault = c.in_ok-make_room.ensures.writes.no_fault ∙ c.loop-cell.invariant.no_fault;
}

pub returns : goal.returns
returns g c = record {
  taken = HoldsBack-is _ _ _ _ _ _ refl
      (ap (λ xs. c.args.page.now.items ++ lines_text (map cell_words xs)) (take_all c.loop-cell.cell-index c.args.cells.now (omega arith)))
      c.loop-cell.invariant.held;
  no_fault = c.loop-cell.invariant.no_fault;
  prefix = tt;
  fault = tt;
  never_falls = omega (arith, c.loop-cell.invariant.no_fault);
}
