use Rattle.std.proofs.Common.{◌≡◌, length, false, true, sym, ap, ◌∙◌, arith}
use Rattle.std.specs.Prelude.{slice_get}
use Rattle.std.proofs.lemmas.Option.{get_or_from_slice_get}
use Rattle.crs_matrix.specs.ByRow.{by_row}
use Rattle.crs_matrix.proofs.Clauses.{entry-of, known-row}
use Rattle.crs_matrix.proofs.matrix.CrsMatrixDistSource.gid.Goals as goal

pub unreachable-requires : goal.unreachable-requires
unreachable-requires g c =
    let row = known-row (by_row c.args.self.now) c.args.lid c.requires.known in
    let same = ap length (c.deref.ensures ∙ c.row_map.ensures.rows) in
    let bad : false ≡ true = c.in-None.ensures.found.1 (omega arith) in
    cc

pub returns : goal.returns
returns g c =
    record {
      gid = sym (ap (λ n. n.gid) (entry-of c.args.self.now.graph.rows (by_row c.args.self.now).cells c.args.lid c.row_map.ensures.is_matrix.each (known-row (by_row c.args.self.now) c.args.lid c.requires.known))
          ∙ get_or_from_slice_get c.args.self.now.graph.rows c.args.lid c.in-Some.gid 0 (ap (λ xs. slice_get xs c.args.lid) (sym (c.deref.ensures ∙ c.row_map.ensures.rows)) ∙ sym c.in-Some.ensures.index));
    }
