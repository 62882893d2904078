-- The letter of rows is that of the rank's entries.
use Rattle.std.proofs.Common.{◌∙◌, ap, arith}
use Rattle.byte_pool.specs.Leases.{leases, with_lease}
use Rattle.model_defs.specs.Letters.{width}
use Rattle.rank_makings.proofs.Packed.{if-ok, rows-known, rows-no-vector, rows-of-fill, rows-of-piece, rows-packed, rows-some-row, rows-sources, rows-wide}
use Rattle.rank_makings.proofs.coming.pack_rows.Goals as goal

pub bounds-pieces-value : goal.bounds-pieces-value
bounds-pieces-value g c =
    let r = c.requires.coming in
    rows-known g.S.Scalar.semiring g.S.Scalar.conversions r.0 c.args.pieces.now r.1.1.0 c.args.coming.now r.1.0 c.in-Piece.value c.in-Piece.is

pub offset_bounds-pieces-value : goal.offset_bounds-pieces-value
offset_bounds-pieces-value g c =
    let r = c.requires.coming in
    let low = rows-known g.S.Scalar.semiring g.S.Scalar.conversions r.0 c.args.pieces.now r.1.1.0 c.args.coming.now r.1.0 c.in-Piece.value c.in-Piece.is in
    omega (arith, low)

pub pack-requires-clause-some_row : goal.pack-requires-clause-some_row
pack-requires-clause-some_row g c =
    let r = c.requires.coming in
    rows-some-row g.S.Scalar.semiring g.S.Scalar.conversions r.0 c.args.pieces.now r.1.1.0 c.args.coming.now r.1.0 c.args.to r.1.1.1

pub pack-requires-in-Own-clause-some_row : goal.pack-requires-in-Own-clause-some_row
pack-requires-in-Own-clause-some_row g c =
    let r = c.requires.coming in
    rows-some-row g.S.Scalar.semiring g.S.Scalar.conversions r.0 c.args.pieces.now r.1.1.0 c.args.coming.now r.1.0 c.args.to r.1.1.1

pub pack-requires-clause-sources : goal.pack-requires-clause-sources
pack-requires-clause-sources g c =
    let R = g.S.Scalar.semiring in
    let F = g.S.Scalar.conversions in
    let r = c.requires.coming in
    rows-sources R F r.0 c.args.pieces.now r.1.1.0 c.args.coming.now r.1.0 c.args.to r.1.1.1 _
    (c.matrix_is_source.ensures.same
    ∙ rows-of-piece R F r.0 c.args.pieces.now r.1.1.0 c.args.coming.now r.1.0 c.in-Piece.value c.in-Piece.is c.index-pieces-value.result c.in-Matrix.m c.index-pieces-value.is c.in-Matrix.is)

pub unreachable-requires : goal.unreachable-requires
unreachable-requires g c =
    let r = c.requires.coming in
    rows-no-vector g.S.Scalar.semiring g.S.Scalar.conversions r.0 c.args.pieces.now r.1.1.0 c.args.coming.now r.1.0 c.in-Piece.value c.in-Piece.is
    c.index-pieces-value.result c.in-Vector.field-0 c.index-pieces-value.is c.in-Vector.is

pub returns-in-Matrix-clause-letter : goal.returns-in-Matrix-clause-letter
returns-in-Matrix-clause-letter g c =
    let R = g.S.Scalar.semiring in
    let F = g.S.Scalar.conversions in
    if-ok c.pack.result c.pack.ensures.letter (λ lease written e h same letter.
    let is = c.matrix_is_source.ensures.same
    ∙ rows-of-piece R F e c.args.pieces.now same c.args.coming.now h c.in-Piece.value c.in-Piece.is c.index-pieces-value.result c.in-Matrix.m c.index-pieces-value.is c.in-Matrix.is in
    written (width e.job e.files e.k) (rows-wide R F e c.args.pieces.now same c.args.coming.now h c.args.to letter _ is)
    ∙ ap (with_lease (leases c.args.pool.now) lease) (rows-packed R F e c.args.pieces.now same c.args.coming.now h c.args.to letter _ is))

pub returns-in-Own-clause-letter : goal.returns-in-Own-clause-letter
returns-in-Own-clause-letter g c =
    let R = g.S.Scalar.semiring in
    let F = g.S.Scalar.conversions in
    if-ok c.pack-in-Own.result c.pack-in-Own.ensures.letter (λ lease written e h same letter.
    let is = c.fill_is_source.ensures.same ∙ rows-of-fill R F e c.args.pieces.now same c.args.coming.now h c.in-Own.fill c.in-Own.is in
    written (width e.job e.files e.k) (rows-wide R F e c.args.pieces.now same c.args.coming.now h c.args.to letter _ is)
    ∙ ap (with_lease (leases c.args.pool.now) lease) (rows-packed R F e c.args.pieces.now same c.args.coming.now h c.args.to letter _ is))
