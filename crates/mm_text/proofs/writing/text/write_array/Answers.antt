use Rattle.std.proofs.Common.{refl}
use Rattle.outside.proofs.Taking.{HoldsBack-is, TakesPrefix-is, Writes-failed, Writes-held}
use Rattle.mm_text.specs.Written.{array_text}
use Rattle.mm_text.proofs.WrittenLines.{array_text-made}
use Rattle.mm_text.proofs.writing.text.write_array.Goals as goal

pub returns-in_err-write_values : goal.returns-in_err-write_values
returns-in_err-write_values g c =
    Writes-failed _ _ _ _ _ _ _ c.from_residual.ensures.0 refl
    (TakesPrefix-is _ _ _ (array_text c.args.rows c.args.cols c.args.values.now) (array_text-made c.args.rows c.args.cols c.args.values.now _ c.push_array_head.ensures)
    c.in_err-write_values.ensures.prefix)
    c.in_err-write_values.ensures.fault c.in_err-write_values.ensures.never_falls

pub returns : goal.returns
returns g c =
    Writes-held _ _ _ _ _ c.write_values.new.page.items _ _
    (HoldsBack-is _ _ _ _ _ (array_text c.args.rows c.args.cols c.args.values.now) refl (array_text-made c.args.rows c.args.cols c.args.values.now _ c.push_array_head.ensures)
    c.in_ok-write_values.ensures.taken)
    c.in_ok-write_values.ensures.no_fault c.flush.ensures.writes
