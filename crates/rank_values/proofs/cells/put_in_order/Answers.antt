use Rattle.std.proofs.Common.{sym, ap, ◌∙◌, subst, [], ◌∷◌, ◌++◌}
use Rattle.gathered_rows.specs.Blocks.{AreAscending}
use Rattle.rank_values.proofs.Blocks.{alone, sums-found}
use Rattle.rank_values.proofs.cells.put_in_order.Goals as goal

pub sums_of-requires : goal.sums_of-requires
sums_of-requires g c =
    subst AreAscending (sym (c.in_ok-push.ensures.items ∙ ap (λ xs. xs ++ c.args.cells ∷ []) c.new-blocks.ensures.items)) (alone c.args.cells)

pub returns-clause-cells : goal.returns-clause-cells
returns-clause-cells g c =
    sums-found g.S.Scalar.semiring c.push.new.self.items c.args.cells c.sums_of.result
    (c.in_ok-push.ensures.items ∙ ap (λ xs. xs ++ c.args.cells ∷ []) c.new-blocks.ensures.items) c.sums_of.ensures
