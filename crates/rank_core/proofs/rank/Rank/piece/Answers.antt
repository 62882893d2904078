use Rattle.std.proofs.Common.{◌≡◌, ℕ, ◌≤◌, true, false, ltb, length, Some, inl, inr, sym, ap, ◌∙◌, arith}
use Rattle.std.specs.Prelude.{slice_get}
use Rattle.std.proofs.lemmas.Bool.{cases_lt, lt-ltb, ltb-true}
use Rattle.std.proofs.lemmas.Option.{slice_get-get_or}
use Rattle.tables.specs.Tables.{found}
use Rattle.rank_core.proofs.Clauses.{if-ok}
use Rattle.rank_core.proofs.FinishedRanks.{result-none, result-some}
use Rattle.rank_core.proofs.rank.Rank.piece.Goals as goal

past : (v n : ℕ) → ltb v n ≡ false → n ≤ v
past v n off = elim (cases_lt v n) [ inl low ↦ let bad : true ≡ false = sym (lt-ltb v n low) ∙ off in absurd (cc) | inr high ↦ high ]

pub returns-in-Some-clause-cells : goal.returns-in-Some-clause-cells
returns-in-Some-clause-cells g c =
    if-ok c.piece_cells.result c.piece_cells.ensures.cells (λ cells is s rank done.
    is ∙ result-some g.S.Scalar.semiring g.S.Scalar.conversions g.met.S.Scalar.conversion_laws c.worker.result.now s (c.worker.ensures.peer s rank done.worked) done c.args.value c.in-Some.piece.now
    (ap (λ xs. slice_get xs c.args.value) (sym c.values.ensures.values)
    ∙ slice_get-get_or c.values.result.now c.args.value c.in-Some.piece.now (ltb-true c.args.value (length c.values.result.now) (sym c.in-Some.ensures.lookup.0))
    ∙ ap (λ x. Some x) (sym c.in-Some.ensures.lookup.1)))

pub returns-in-None-clause-cells : goal.returns-in-None-clause-cells
returns-in-None-clause-cells g c = λ s rank done.
    ap found c.new.ensures.items
    ∙ sym (result-none g.S.Scalar.semiring g.S.Scalar.conversions g.met.S.Scalar.conversion_laws c.worker.result.now s (c.worker.ensures.peer s rank done.worked) done c.args.value
    (let high = past c.args.value (length c.values.result.now) (sym c.in-None.ensures.lookup.0) in
    let many : length c.values.result.now ≡ length c.worker.result.now.values.items = ap length c.values.ensures.values in omega arith))
