use Rattle.std.proofs.Common.{◌≡◌, length, Some, inl, inr, sym, ap, ◌∙◌, arith}
use Rattle.std.specs.Prelude.{slice_get}
use Rattle.std.proofs.lemmas.Bool.{cases_lt}
use Rattle.std.proofs.lemmas.Option.{slice_get-get_or, same_Some}
use Rattle.rank_pieces.specs.Pieces.{piece_table}
use Rattle.rank_values.specs.Vectors.{is_over_there}
use Rattle.rank_core.proofs.FinishedRanks.{none-over, some-over}
use Rattle.rank_core.proofs.rank.Rank.any_over.Goals as goal

pub returns-then-is_piece_over-clause-some : goal.returns-then-is_piece_over-clause-some
returns-then-is_piece_over-clause-some g c = λ yes s rank done.
    let items = c.values-piece-items.result.now in
    let idx = c.loop-piece.piece-index in
    let at : slice_get items idx ≡ Some c.piece-item.result = slice_get-get_or items idx c.piece-item.result c.loop-piece-test.true ∙ ap (λ x. Some x) (sym c.piece-item.is) in
    some-over g.S.Scalar.semiring g.S.Scalar.conversions g.met.S.Scalar.conversion_laws c.worker.result.now s (c.worker.ensures.peer s rank done.worked) done idx c.piece-item.result
    (ap (λ xs. slice_get xs idx) (sym c.values-piece-items.ensures.values) ∙ at)
    (c.is_piece_over.ensures.some c.if-is_piece_over.true)

pub loop-piece-preserved : goal.loop-piece-preserved
loop-piece-preserved g c = λ k piece low at.
    let items = c.values-piece-items.result.now in
    let idx = c.loop-piece.piece-index in
    elim (cases_lt k idx) [
      | inl before ↦ c.loop-piece.invariant k piece before at
      | inr here ↦
          let same : k ≡ idx = omega arith in
          let there : slice_get items idx ≡ Some c.piece-item.result = slice_get-get_or items idx c.piece-item.result c.loop-piece-test.true ∙ ap (λ x. Some x) (sym c.piece-item.is) in
          let one : c.piece-item.result ≡ piece = same_Some c.piece-item.result piece (sym there ∙ ap (slice_get items) (sym same) ∙ at) in
          λ i j. ap (λ v. is_over_there g.S.Scalar.conversions (piece_table v i j)) (sym one) ∙ c.is_piece_over.ensures.none c.if-is_piece_over.false i j
    ]

pub returns-clause-none : goal.returns-clause-none
returns-clause-none g c = λ no_one s rank done.
    let same = c.values-piece-items.ensures.values in
    let many : length c.values-piece-items.result.now ≡ length c.worker.result.now.values.items = ap length same in
    none-over g.S.Scalar.semiring g.S.Scalar.conversions g.met.S.Scalar.conversion_laws c.worker.result.now s (c.worker.ensures.peer s rank done.worked) done
    c.loop-piece.piece-index (let past = c.loop-piece-test.false in omega arith)
    (λ k piece low at. c.loop-piece.invariant k piece low (ap (λ xs. slice_get xs k) same ∙ at))
