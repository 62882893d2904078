use Rattle.std.proofs.Common.{◌∙◌, sym, ap, ◌≡◌, length, ◌<◌, ℕ, List, arith, true, false}
use Rattle.std.specs.Prelude.{slice_get}
use Rattle.multivector.specs.Vectors.{VectorState}
use Rattle.multivector.proofs.Cells.{known-row, gid-clause}
use Rattle.multivector.proofs.multi_vector.MultiVectorDistSource.gid.Goals as goal

pub unreachable-requires : goal.unreachable-requires
unreachable-requires g c =
    let row = known-row g.S.Scalar.semiring c.args.self.now c.args.lid c.requires.known in
    let sizes : length c.deref.result.now ≡ length c.args.self.now.map = ap length c.deref.ensures ∙ ap (λ (n : VectorState g.row.S.Denot). length n.map) c.self.view_is in
    let bad : false ≡ true = c.in-None.ensures.found.1 (omega (arith, row, sizes)) in
    cc

pub returns : goal.returns
returns g c =
    record {
      gid = gid-clause g.S.Scalar.semiring _ c.args.self.now c.self.view_is c.args.lid c.in-Some.gid c.requires.known
          (ap (λ (m : List ℕ). slice_get m c.args.lid) (sym c.deref.ensures) ∙ sym c.in-Some.ensures.index);
    }
