use Rattle.std.proofs.Common.{◌∙◌}
use Rattle.rank_makings.proofs.Completed.{columns-few, columns-listed, if-both, on-columns}
use Rattle.rank_makings.proofs.completing.on_columns.Goals as goal

pub column_owners-requires-clause-shared : goal.column_owners-requires-clause-shared
column_owners-requires-clause-shared g c =
    let can = c.requires.can.1.1.1.1.1 in
    (c.requires.can.0, (can.columns, columns-listed can c.row_map.ensures.is_matrix c.as_slice.result.now (c.as_slice.ensures.value ∙ c.in_ok-columns.ensures.columns)))

pub fill_complete-requires-clause-few : goal.fill_complete-requires-clause-few
fill_complete-requires-clause-few g c = columns-few c.requires.can.1.1.1.1.1 c.row_map.ensures.is_matrix

pub returns : goal.returns
returns g c = record {
  matrix = if-both c.fill_complete.result c.fill_complete.ensures.graph c.fill_complete.ensures.table
      (λ m done table. λ files me given share pieces can.
      on-columns can c.row_map.ensures.is_matrix _ c.me.result c.me.ensures.me (c.as_slice.ensures.value ∙ c.in_ok-columns.ensures.columns)
      (c.deref-2.ensures ∙ c.in_ok-domain.ensures.list) (c.as_slice-2.ensures.value ∙ c.in_ok-owners.ensures.owners) m done table);
}
