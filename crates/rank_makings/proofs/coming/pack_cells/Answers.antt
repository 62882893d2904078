-- The letter of cells is that of the rank's entries.
use Rattle.std.proofs.Common.{◌∙◌, ap, arith}
use Rattle.byte_pool.specs.Leases.{leases, with_lease}
use Rattle.rank_makings.proofs.Packed.{cells-known, cells-many, cells-no-matrix, cells-of-piece, cells-of-sums, cells-packed, cells-sources, if-ok}
use Rattle.rank_makings.proofs.coming.pack_cells.Goals as goal

pub bounds-pieces-value : goal.bounds-pieces-value
bounds-pieces-value g c =
    let r = c.requires.coming in
    cells-known g.S.Scalar.semiring g.S.Scalar.conversions r.0 c.args.pieces.now r.1.1.0 c.args.coming.now r.1.0 c.in-Piece.value c.in-Piece.is

pub offset_bounds-pieces-value : goal.offset_bounds-pieces-value
offset_bounds-pieces-value g c =
    let r = c.requires.coming in
    let low = cells-known g.S.Scalar.semiring g.S.Scalar.conversions r.0 c.args.pieces.now r.1.1.0 c.args.coming.now r.1.0 c.in-Piece.value c.in-Piece.is in
    omega (arith, low)

pub pack-requires-clause-columns : goal.pack-requires-clause-columns
pack-requires-clause-columns g c =
    let R = g.S.Scalar.semiring in
    let F = g.S.Scalar.conversions in
    let r = c.requires.coming in
    cells-many R F r.0 c.args.pieces.now r.1.1.0 c.args.coming.now r.1.0 c.args.to r.1.1.1 c.in-Vector.vector
    (cells-of-piece R F r.0 c.args.pieces.now r.1.1.0 c.args.coming.now r.1.0 c.in-Piece.value c.in-Piece.is c.index-pieces-value.result c.in-Vector.vector c.index-pieces-value.is c.in-Vector.is)

pub pack-requires-clause-sources : goal.pack-requires-clause-sources
pack-requires-clause-sources g c =
    let R = g.S.Scalar.semiring in
    let F = g.S.Scalar.conversions in
    let r = c.requires.coming in
    cells-sources R F r.0 c.args.pieces.now r.1.1.0 c.args.coming.now r.1.0 c.args.to r.1.1.1 c.in-Vector.vector
    (cells-of-piece R F r.0 c.args.pieces.now r.1.1.0 c.args.coming.now r.1.0 c.in-Piece.value c.in-Piece.is c.index-pieces-value.result c.in-Vector.vector c.index-pieces-value.is c.in-Vector.is)

pub unreachable-requires : goal.unreachable-requires
unreachable-requires g c =
    let r = c.requires.coming in
    cells-no-matrix g.S.Scalar.semiring g.S.Scalar.conversions r.0 c.args.pieces.now r.1.1.0 c.args.coming.now r.1.0 c.in-Piece.value c.in-Piece.is
    c.index-pieces-value.result c.in-Matrix.field-0 c.index-pieces-value.is c.in-Matrix.is

pub returns-in-Vector-clause-letter : goal.returns-in-Vector-clause-letter
returns-in-Vector-clause-letter g c =
    let R = g.S.Scalar.semiring in
    let F = g.S.Scalar.conversions in
    if-ok c.pack.result c.pack.ensures.letter (λ lease written e h same letter.
    written
    ∙ ap (with_lease (leases c.args.pool.now) lease)
    (cells-packed R F e c.args.pieces.now same c.args.coming.now h c.args.to letter c.in-Vector.vector
    (cells-of-piece R F e c.args.pieces.now same c.args.coming.now h c.in-Piece.value c.in-Piece.is c.index-pieces-value.result c.in-Vector.vector c.index-pieces-value.is c.in-Vector.is)))

pub returns-in-Sums-clause-letter : goal.returns-in-Sums-clause-letter
returns-in-Sums-clause-letter g c =
    let R = g.S.Scalar.semiring in
    let F = g.S.Scalar.conversions in
    if-ok c.pack-in-Sums.result c.pack-in-Sums.ensures.letter (λ lease written e h same letter.
    written
    ∙ ap (with_lease (leases c.args.pool.now) lease)
    (cells-packed R F e c.args.pieces.now same c.args.coming.now h c.args.to letter c.in-Sums.sums
    (cells-of-sums R F e c.args.pieces.now same c.args.coming.now h c.in-Sums.sums c.in-Sums.is)))
