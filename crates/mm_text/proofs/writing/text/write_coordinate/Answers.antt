use Rattle.std.proofs.Common.{refl}
use Rattle.outside.proofs.Taking.{HoldsBack-is, TakesPrefix-is, Writes-failed, Writes-held}
use Rattle.mm_text.specs.Written.{coordinate_text}
use Rattle.mm_text.proofs.WrittenLines.{coordinate_text-made}
use Rattle.mm_text.proofs.writing.text.write_coordinate.Goals as goal

pub returns-in_err-write_cells : goal.returns-in_err-write_cells
returns-in_err-write_cells g c =
    Writes-failed _ _ _ _ _ _ _ c.from_residual.ensures.0 refl
    (TakesPrefix-is _ _ _ (coordinate_text c.args.rows c.args.cols c.args.part c.args.cells.now) (coordinate_text-made c.args.rows c.args.cols c.args.part c.args.cells.now _ c.push_coordinate_head.ensures)
    c.in_err-write_cells.ensures.prefix)
    c.in_err-write_cells.ensures.fault c.in_err-write_cells.ensures.never_falls

pub returns : goal.returns
returns g c =
    Writes-held _ _ _ _ _ c.write_cells.new.page.items _ _
    (HoldsBack-is _ _ _ _ _ (coordinate_text c.args.rows c.args.cols c.args.part c.args.cells.now) refl (coordinate_text-made c.args.rows c.args.cols c.args.part c.args.cells.now _ c.push_coordinate_head.ensures)
    c.in_ok-write_cells.ensures.taken)
    c.in_ok-write_cells.ensures.no_fault c.flush.ensures.writes
