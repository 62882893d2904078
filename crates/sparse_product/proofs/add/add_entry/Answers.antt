use Rattle.std.proofs.Common.{take, refl, sym, ap, ◌∙◌, arith}
use Rattle.std.proofs.lemmas.List.{take_all}
use Rattle.distributor.specs.Entries.{entry_at}
use Rattle.crs_matrix.specs.Rows.{local_table}
use Rattle.sparse_product.specs.Rows.{scaled_at, with_row}
use Rattle.sparse_product.proofs.Added.{added-more, added-none}
use Rattle.sparse_product.proofs.Links.{take_push}
use Rattle.sparse_product.proofs.add.add_entry.Goals as goal

pub loop-at-init : goal.loop-at-init
loop-at-init g c = record {
  rows = refl;
  row = added-none g.S.Scalar.semiring g.met.S.Scalar.laws (local_table c.args.target.now) c.args.lid c.args.factor;
}

pub loop-at-preserved : goal.loop-at-preserved
loop-at-preserved g c =
    let cells = (entry_at (g.A.DistSource.entries c.args.source.now) c.args.from).cells in
    record {
      rows = c.in_ok-combine.ensures.shape ∙ c.loop-at.invariant.rows;
      row = added-more g.S.Scalar.semiring g.met.S.Scalar.laws (local_table c.args.target.now) c.args.lid c.args.factor (take c.loop-at.at cells) c.cell-col.result.0 c.cell-col.result.1 c.mul.result
          (local_table c.loop-at.target) (local_table c.combine.new.self) c.loop-at.invariant.row c.mul.ensures c.in_ok-combine.ensures.cell
          ∙ ap (λ cs. with_row g.S.Scalar.semiring (local_table c.args.target.now) c.args.lid (scaled_at g.S.Scalar.semiring c.args.factor cs)) (sym (take_push c.loop-at.at cells c.cell-col.result c.cell-col.ensures.cell));
    }

pub returns-clause-row : goal.returns-clause-row
returns-clause-row g c =
    let cells = (entry_at (g.A.DistSource.entries c.args.source.now) c.args.from).cells in
    let past = c.loop-at-test.false in
    let count = c.count-at-end.ensures.count in
    c.loop-at.invariant.row
    ∙ ap (λ cs. with_row g.S.Scalar.semiring (local_table c.args.target.now) c.args.lid (scaled_at g.S.Scalar.semiring c.args.factor cs)) (take_all c.loop-at.at cells (omega arith))
