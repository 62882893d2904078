use Rattle.std.proofs.Common.{sym, ap, ◌∙◌, inl, inr}
use Rattle.phase_list.specs.Seen.{maker_seen}
use Rattle.rank_pieces.proofs.Clauses.{if-ok}
use Rattle.rank_pieces.proofs.Makers.{given-parts, given-vector, matrix-structured, no-print, shape-parts, shape-vector}
use Rattle.rank_pieces.proofs.StepPieces.{can-make, step-own}
use Rattle.rank_pieces.proofs.making.own_piece.Goals as goal

pub given_piece-requires-clause-known : goal.given_piece-requires-clause-known
given_piece-requires-clause-known g c = given-vector c.args.job.now c.args.k c.in-Vector.spec.now (sym c.in-Vector.ensures)

pub given_piece-requires-clause-map : goal.given_piece-requires-clause-map
given_piece-requires-clause-map g c =
    ap (λ s. s.rows) (sym (shape-vector c.args.job.now c.requires.before.1.1.0.valid c.args.k c.requires.known c.in-Vector.spec.now (sym c.in-Vector.ensures)))

pub given_piece-requires-clause-columns : goal.given_piece-requires-clause-columns
given_piece-requires-clause-columns g c =
    ap (λ s. s.columns) (sym (shape-vector c.args.job.now c.requires.before.1.1.0.valid c.args.k c.requires.known c.in-Vector.spec.now (sym c.in-Vector.ensures)))

pub given_piece-requires-in-Parts-clause-known : goal.given_piece-requires-in-Parts-clause-known
given_piece-requires-in-Parts-clause-known g c = given-parts c.args.job.now c.args.k c.in-Parts.spec.now (sym c.in-Parts.ensures)

pub given_piece-requires-in-Parts-clause-map : goal.given_piece-requires-in-Parts-clause-map
given_piece-requires-in-Parts-clause-map g c =
    ap (λ s. s.rows) (sym (shape-parts c.args.job.now c.requires.before.1.1.0.valid c.args.k c.requires.known c.in-Parts.spec.now (sym c.in-Parts.ensures)))

pub given_piece-requires-in-Parts-clause-columns : goal.given_piece-requires-in-Parts-clause-columns
given_piece-requires-in-Parts-clause-columns g c =
    ap (λ s. s.columns) (sym (shape-parts c.args.job.now c.requires.before.1.1.0.valid c.args.k c.requires.known c.in-Parts.spec.now (sym c.in-Parts.ensures)))

pub step_piece-requires : goal.step_piece-requires
step_piece-requires g c =
    let input = c.requires.before.1.1.0 in
    let maker = sym c.in-Statement.ensures in
    record {
      operands = can-make g.S.Scalar.semiring g.S.Scalar.conversions g.met.S.Scalar.laws c.args.job.now c.requires.before.0 c.args.me c.args.share.now input c.requires.before.1.0 c.args.k c.args.pieces.now
          c.requires.before.1.1.1 c.requires.known c.requires.here c.in-Statement.step.now maker;
    }

pub unreachable-requires : goal.unreachable-requires
unreachable-requires g c =
    let input = c.requires.before.1.1.0 in
    elim c.in-Matrix.is [
      | inl (spec, is) ↦ c.requires.here.shared (matrix-structured c.args.job.now input.valid c.args.k c.requires.known spec.now (sym c.maker_at.ensures ∙ ap maker_seen is))
      | inr is ↦ no-print c.args.job.now input.valid c.args.k c.requires.known 0 (sym c.maker_at.ensures ∙ ap maker_seen is)
    ]

pub returns-in-Vector : goal.returns-in-Vector
returns-in-Vector g c = record { piece = if-ok c.given_piece.result c.given_piece.ensures.piece (λ p is files given input own. is files given input) }

pub returns-in-Parts : goal.returns-in-Parts
returns-in-Parts g c = record { piece = if-ok c.given_piece-in-Parts.result c.given_piece-in-Parts.ensures.piece (λ p is files given input own. is files given input) }

pub returns-in-Statement : goal.returns-in-Statement
returns-in-Statement g c =
    record {
      piece = if-ok c.step_piece.result c.step_piece.ensures.piece (λ p is files given input own.
          step-own g.S.Scalar.semiring g.S.Scalar.conversions g.met.S.Scalar.laws c.args.job.now files c.args.me c.args.share.now input given c.args.k c.args.pieces.now own c.requires.known c.requires.here
          c.in-Statement.step.now p (sym c.in-Statement.ensures) is);
    }
