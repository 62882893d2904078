use Rattle.std.proofs.Common.{sym, ap, subst, ◌∙◌}
use Rattle.std.proofs.lemmas.List.Sorted.{IsPermutation-sym}
use Rattle.crs_graph.proofs.ColumnLists.{stands-IsPermutation}
use Rattle.crs_matrix.specs.Rows.{local_table}
use Rattle.sparse_product.specs.Dense.{number_under, IsReached}
use Rattle.sparse_product.specs.Rows.{with_row}
use Rattle.sparse_product.proofs.DenseRows.{reached-permuted}
use Rattle.sparse_product.proofs.dense_row.DenseRow.spill.Goals as goal

pub take_numbers-requires-clause-reached : goal.take_numbers-requires-clause-reached
take_numbers-requires-clause-reached g c =
    let old = c.self.inside.reached.items in
    let sorted = c.sort_unstable.new.self.items in
    subst (λ xs. IsReached xs c.self.inside.numbers.items) (sym c.deref.ensures.value)
    (reached-permuted old sorted c.self.inside.numbers.items
    (λ p e. stands-IsPermutation old sorted p c.sort_unstable.ensures.permutation e)
    (λ p e. stands-IsPermutation sorted old p (IsPermutation-sym old sorted c.sort_unstable.ensures.permutation) e)
    c.self.invariant)

pub returns-clause-row : goal.returns-clause-row
returns-clause-row g c =
    c.in_ok-take_numbers.ensures.row
    ∙ ap (λ ns. with_row g.S.Scalar.semiring (local_table c.args.target.now) c.args.lid (number_under c.args.columns.now ns)) c.self.view_is
