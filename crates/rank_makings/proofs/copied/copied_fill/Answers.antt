use Rattle.std.proofs.Common.{sym, ap, ◌∙◌}
use Rattle.tables.specs.Indices.{stands}
use Rattle.rank_makings.proofs.CopiedFills.{copied}
use Rattle.rank_makings.proofs.CopyAnswers.{if-ok}
use Rattle.rank_makings.proofs.copied.copied_fill.Goals as goal

pub local_add-requires : goal.local_add-requires
local_add-requires g c = record {
  same_rows = λ i. ap (stands i) (sym (ap (λ r. r.rows) c.in_ok-empty.ensures.empty ∙ c.in_ok-clone.ensures.cases ∙ c.row_map.ensures.rows));
}

pub returns-clause-table : goal.returns-clause-table
returns-clause-table g c = if-ok c.local_add.result c.local_add.ensures.sum (λ fill table.
    table ∙ copied g.S.Scalar.semiring g.met.S.Scalar.laws _ _ c.one.ensures c.zero.ensures _ _ _ c.in_ok-empty.ensures.empty)
