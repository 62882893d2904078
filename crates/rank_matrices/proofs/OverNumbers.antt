-- Numbers that are over, among those of a matrix.
use Rattle.std.proofs.Common.{◌≡◌, ℕ, zero, suc, ◌<◌, ◌≤◌, Bool, true, false, ◌||◌, List, [], ◌∷◌, length, get_or, Option, None, Some, inl, inr, refl, sym, ap, ◌∙◌, arith}
use Rattle.std.specs.Prelude.{slice_get}
use Rattle.std.proofs.lemmas.Bool.{cases_Bool}
use Rattle.std.proofs.lemmas.Option.{slice_get-get_or, slice_get_within}
use Rattle.scalar_laws.specs.Conversions.{Conversions}
use Rattle.tables.specs.Indices.{AreDistinct}
use Rattle.map_core.specs.Layouts.{local_index}
use Rattle.map_core.proofs.Places.{global_index-from, local_index-from}
use Rattle.crs_graph.specs.Graphs.{graph_row}
use Rattle.crs_graph.proofs.Ascending.{AreDistinct-ascending}
use Rattle.crs_matrix.specs.Matrices.{crs_number, crs_table, number_at_place, numbers, Crs, IsCrs}
use Rattle.spmv.proofs.Rows.{below-at}
use Rattle.rank_values.specs.Vectors.{HasOver, is_over_there}
use Rattle.rank_matrices.specs.Rows.{has_over}

module _ {S : Type 0} (F : Conversions S) where
  -- one of these numbers that is over
  record IsOneOver (numbers : List S) : Type 0 where
    at : ℕ
    value : S
    is : slice_get numbers at ≡ Some value
    over : F.is_over value ≡ true

  one-over : (numbers : List S) → has_over F numbers ≡ true → IsOneOver numbers
  one-over [] h = absurd (cc)
  one-over (x ∷ xs) h = elim (cases_Bool (F.is_over x)) [
    | inl on ↦ record { at = 0; value = x; is = refl; over = on }
    | inr off ↦
        let rest = one-over xs (sym (ap (λ b. b || has_over F xs) off) ∙ h) in
        record { at = suc rest.at; value = rest.value; is = rest.is; over = rest.over }
  ]

  none-over : (numbers : List S) → has_over F numbers ≡ false → (at : ℕ) → is_over_there F (slice_get numbers at) ≡ false
  none-over [] h at = refl
  none-over (x ∷ xs) h zero = first (F.is_over x) h
    where
      first : (b : Bool) → (b || has_over F xs) ≡ false → b ≡ false
      first true e = absurd (cc)
      first false e = refl
  none-over (x ∷ xs) h (suc at) = none-over xs (rest (F.is_over x) h) at
    where
      rest : (b : Bool) → (b || has_over F xs) ≡ false → has_over F xs ≡ false
      rest true e = absurd (cc)
      rest false e = e

  -- a number of a row that is over
  pub matrix-some : (m : Crs S) (l : ℕ) → IsCrs m → AreDistinct m.graph.rows → l < length m.graph.rows → has_over F (numbers m l) ≡ true → HasOver F (crs_table m)
  matrix-some m l kept distinct low h =
      let o = one-over (numbers m l) h in
      let row = graph_row m.graph l in
      let within : o.at < length (numbers m l) = slice_get_within (numbers m l) o.at o.value o.is in
      let many = kept.as_many l in
      let place : o.at < length row = omega arith in
      let c = get_or row o.at 0 in
      let column : c < length m.graph.cols = below-at (length m.graph.cols) row o.at (kept.graph.within l) place in
      let i = get_or m.graph.rows l 0 in
      let j = get_or m.graph.cols c 0 in
      let row_is : local_index m.graph.rows i ≡ Some l = local_index-from m.graph.rows i l distinct (slice_get-get_or m.graph.rows l 0 low) in
      let col_is : local_index m.graph.cols j ≡ Some c = local_index-from m.graph.cols j c kept.graph.distinct (slice_get-get_or m.graph.cols c 0 column) in
      let at_is : local_index row c ≡ Some o.at = local_index-from row c o.at (AreDistinct-ascending row (kept.graph.ascend l)) (slice_get-get_or row o.at 0 place) in (
        i,
        (
          j,
          (λ t. is_over_there F (crs_number m (row_is t) (col_is t)))
              ∙ (λ t. is_over_there F (number_at_place (numbers m l) (at_is t)))
              ∙ ap (is_over_there F) o.is
              ∙ o.over,
        ),
      )

  -- where no row has one
  pub matrix-none : (m : Crs S) (n : ℕ) → length m.graph.rows ≤ n → ((l : ℕ) → l < n → has_over F (numbers m l) ≡ false) → (i j : ℕ) → is_over_there F (crs_table m i j) ≡ false
  matrix-none m n long none i j = at (local_index m.graph.rows i) refl
    where
      place : (l : ℕ) (p : Option ℕ) → has_over F (numbers m l) ≡ false → is_over_there F (number_at_place (numbers m l) p) ≡ false
      place l None h = refl
      place l (Some p) h = none-over (numbers m l) h p

      column : (l : ℕ) (o : Option ℕ) → has_over F (numbers m l) ≡ false → is_over_there F (crs_number m (Some l) o) ≡ false
      column l None h = refl
      column l (Some c) h = place l (local_index (graph_row m.graph l) c) h

      at : (o : Option ℕ) → local_index m.graph.rows i ≡ o → is_over_there F (crs_table m i j) ≡ false
      at None e = ap (λ o. is_over_there F (crs_number m o (local_index m.graph.cols j))) e
      at (Some l) e =
          let low : l < length m.graph.rows = slice_get_within m.graph.rows l i (global_index-from m.graph.rows i l e) in
          ap (λ o. is_over_there F (crs_number m o (local_index m.graph.cols j))) e
          ∙ column l (local_index m.graph.cols j) (none l (omega arith))
