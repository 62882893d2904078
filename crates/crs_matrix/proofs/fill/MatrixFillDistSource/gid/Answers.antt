use Rattle.std.proofs.Common.{◌≡◌, length, false, true, sym, ap, ◌∙◌, arith}
use Rattle.std.specs.Prelude.{slice_get}
use Rattle.std.proofs.lemmas.Option.{get_or_from_slice_get}
use Rattle.crs_matrix.specs.Stored.{places_of}
use Rattle.crs_matrix.proofs.Clauses.{stored-entry, stored-known}
use Rattle.crs_matrix.proofs.fill.MatrixFillDistSource.gid.Goals as goal

pub unreachable-requires : goal.unreachable-requires
unreachable-requires g c =
    let row = stored-known c.self.inside.rows.value (places_of c.self.inside.places.items) c.self.inside.values.items c.self.invariant c.args.self.now c.self.view_is c.args.lid c.requires.known in
    let bad : false ≡ true = c.in-None.ensures.found.1 (omega (arith, row, ap length c.deref.ensures)) in
    cc

pub returns : goal.returns
returns g c =
    record {
      gid = sym (ap (λ n. n.gid) (stored-entry c.self.inside.rows.value (places_of c.self.inside.places.items) c.self.inside.values.items c.self.invariant c.args.self.now c.self.view_is c.args.lid c.requires.known)
          ∙ get_or_from_slice_get c.self.inside.rows.value c.args.lid c.in-Some.gid 0 (ap (λ xs. slice_get xs c.args.lid) (sym c.deref.ensures) ∙ sym c.in-Some.ensures.index));
    }
