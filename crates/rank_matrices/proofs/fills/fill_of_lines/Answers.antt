use Rattle.std.proofs.Common.{◌≡◌, true, subst, sym, ap, ◌∙◌}
use Rattle.std.specs.List.{All}
use Rattle.std.proofs.lemmas.List.Sorted.{All-permutation}
use Rattle.tables.specs.Indices.{stands}
use Rattle.rank_values.specs.Vectors.{lines_table}
use Rattle.rank_matrices.specs.Matrices.{named_rows}
use Rattle.rank_matrices.proofs.NamedRows.{all-named, table-order}
use Rattle.rank_matrices.proofs.fills.fill_of_lines.Goals as goal

pub add_lines-requires-clause-rows : goal.add_lines-requires-clause-rows
add_lines-requires-clause-rows g c =
    let lines = c.args.lines.now in
    subst (λ ls. All (λ l. stands l.row c.in_ok-fill.fill.rows ≡ true) ls) (sym c.deref.ensures.value)
    (subst (λ rows. All (λ l. stands l.row rows ≡ true) c.in_ok-sorted.sorted.items) (sym c.in_ok-fill.ensures.rows)
    (All-permutation (λ l. stands l.row (named_rows lines) ≡ true) lines c.in_ok-sorted.sorted.items c.in_ok-sorted.ensures.same (all-named lines)))

pub returns-clause-table : goal.returns-clause-table
returns-clause-table g c =
    let R = g.S.Scalar.semiring in
    let F = g.S.Scalar.conversions in
    c.in_ok-add_lines.ensures.table ∙ ap (lines_table R F) c.deref.ensures.value
    ∙ table-order R F g.met.S.Scalar.laws c.args.lines.now c.in_ok-sorted.sorted.items c.in_ok-sorted.ensures.same
