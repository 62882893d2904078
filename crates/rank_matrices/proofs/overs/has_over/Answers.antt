use Rattle.std.proofs.Common.{◌||◌, sym, ap, ◌∙◌}
use Rattle.std.proofs.lemmas.List.{take_all}
use Rattle.std.proofs.lemmas.List.Folds.{list_any_at, list_any_more}
use Rattle.rank_matrices.specs.Rows.{has_over}
use Rattle.rank_matrices.proofs.overs.has_over.Goals as goal

pub returns-then-is_over : goal.returns-then-is_over
returns-then-is_over g c =
    let F = g.S.Scalar.conversions in
    record {
      over = sym (list_any_at F.is_over c.args.numbers.now c.loop-number.number-index c.number-item.result c.loop-number-test.true
          (ap F.is_over (sym c.number-item.is) ∙ sym c.is_over.ensures ∙ c.if-is_over.true));
    }

pub loop-number-preserved : goal.loop-number-preserved
loop-number-preserved g c =
    let F = g.S.Scalar.conversions in
    let off = ap F.is_over (sym c.number-item.is) ∙ sym c.is_over.ensures ∙ c.if-is_over.false in
    list_any_more F.is_over c.args.numbers.now c.loop-number.number-index c.number-item.result c.loop-number-test.true
    ∙ (λ t. c.loop-number.invariant t || off t)

pub returns : goal.returns
returns g c =
    record {
      over = sym (ap (has_over g.S.Scalar.conversions) (sym (take_all c.loop-number.number-index c.args.numbers.now c.loop-number-test.false)) ∙ c.loop-number.invariant);
    }
