use Rattle.std.proofs.Common.{◌≡◌, true, IfSome, sym, ◌∙◌, subst}
use Rattle.std.specs.List.{list_all}
use Rattle.tables.specs.Tables.{stands_before}
use Rattle.job_sheets.proofs.Lasts.{before-first}
use Rattle.job_sheets.proofs.cells.all_after.Goals as goal

pub returns-in-Some-Some : goal.returns-in-Some-Some
returns-in-Some-Some g c =
    let item = c.in-Some-Some.ensures.item in
    record {
      after = λ e. subst (λ last. IfSome last (λ d. list_all (stands_before d) c.args.cells.now ≡ true)) (sym c.in-Some-Some.is-0)
          (before-first c.in-Some-Some.last c.in-Some-Some.first.now c.args.cells.now item.3.0 item.1 c.requires.in_order (sym c.is_before.ensures ∙ e));
    }
