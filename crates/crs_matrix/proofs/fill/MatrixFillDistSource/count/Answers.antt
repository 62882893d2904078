use Rattle.std.proofs.Common.{length, refl, sym, ap, ◌∙◌, arith}
use Rattle.crs_matrix.specs.Stored.{places_of}
use Rattle.crs_matrix.proofs.Kept.{row-is, row-within}
use Rattle.crs_matrix.proofs.Clauses.{ascending-clause, count-clause, stored-known}
use Rattle.crs_matrix.proofs.fill.MatrixFillDistSource.count.Goals as goal

pub index-requires : goal.index-requires
index-requires g c =
    let row = stored-known c.self.inside.rows.value (places_of c.self.inside.places.items) c.self.inside.values.items c.self.invariant c.args.self.now c.self.view_is c.args.lid c.requires.known in
    omega (arith, c.self.inside.places.ok.0, row-within c.self.inside.rows.value c.self.inside.places.items (length c.self.inside.values.items) c.args.lid c.self.invariant row)

pub returns-clause-count : goal.returns-clause-count
returns-clause-count g c =
    let row = stored-known c.self.inside.rows.value (places_of c.self.inside.places.items) c.self.inside.values.items c.self.invariant c.args.self.now c.self.view_is c.args.lid c.requires.known in
    c.len.ensures.value
    ∙ sym (ap length (row-is c.self.inside.rows.value c.self.inside.places.items (length c.self.inside.values.items) c.args.lid c.self.invariant row c.index.result.now c.index.result.now.items c.index.ensures refl))
    ∙ sym (count-clause c.self.inside.rows.value (places_of c.self.inside.places.items) c.self.inside.values.items c.self.invariant c.args.self.now c.self.view_is c.args.lid c.requires.known)

pub returns-clause-ascending : goal.returns-clause-ascending
returns-clause-ascending g c = ascending-clause c.self.inside.rows.value (places_of c.self.inside.places.items) c.self.inside.values.items c.self.invariant c.args.self.now c.self.view_is c.args.lid c.requires.known
