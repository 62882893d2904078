use Rattle.std.proofs.Common.{◌++◌, length, refl, sym, subst}
use Rattle.job_sheets.specs.Cells.{IsLast}
use Rattle.job_sheets.proofs.Lasts.{last-next}
use Rattle.job_sheets.proofs.cells.last_of.Goals as goal

pub returns-in-Some : goal.returns-in-Some
returns-in-Some g c =
    let item = c.in-Some.ensures.item in
    record {
      last = λ before end o. subst (IsLast (before ++ c.args.cells.now)) (sym c.some.ensures)
          (last-next before c.args.cells.now (length c.args.cells.now) c.in-Some.cell.now item.3.0 refl item.1 o);
    }
