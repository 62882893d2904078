-- Numbers that are over, among the cells of a vector.
use Rattle.std.proofs.Common.{◌≡◌, ℕ, zero, suc, ◌+◌, ◌*◌, ◌<◌, ◌≤◌, Bool, true, false, ◌&&◌, ◌||◌, cond, ltb, List, [], ◌∷◌, ◌++◌, length, get_or, Option, None, Some, inl, inr, refl, sym, ap, ◌∙◌, arith}
use Rattle.std.specs.Prelude.{slice_get}
use Rattle.std.specs.List.{list_any}
use Rattle.std.proofs.lemmas.Bool.{cases_Bool, cases_eq, cases_lt, le-ltb}
use Rattle.std.proofs.lemmas.Option.{slice_get-get_or, slice_get_within}
use Rattle.scalar_laws.specs.Conversions.{Conversions}
use Rattle.tables.specs.Indices.{count_from, AreDistinct}
use Rattle.map_core.specs.Layouts.{local_index}
use Rattle.map_core.proofs.Places.{global_index-from, local_index-from}
use Rattle.multivector.specs.Vectors.{VectorState, vector_table}
use Rattle.rank_values.specs.Vectors.{HasOver, global_table, is_over_there}
use Rattle.rank_values.specs.Rows.{is_row_over}
use Rattle.rank_values.proofs.Globals.{global-at, global-none}

-- ---- tests of the numbers of a run

pub any-here : (f : ℕ → Bool) (m n k : ℕ) → m ≤ k → k < m + n → f k ≡ true → list_any f (count_from m n) ≡ true
any-here f m zero k low high e = absurd (omega arith)
any-here f m (suc n) k low high e = elim (cases_eq m k) [
  | inl same ↦ ap (λ b. b || list_any f (count_from (m + 1) n)) (ap f same ∙ e)
  | inr apart ↦ ap (λ b. f m || b) (any-here f (m + 1) n k (later apart) (omega arith) e) ∙ right (f m)
]
  where
    later : (m ≡ k → ⊥) → m + 1 ≤ k
    later apart = elim (cases_lt m k) [ inl l ↦ omega arith | inr h ↦ absurd (apart (omega arith)) ]

    right : (b : Bool) → (b || true) ≡ true
    right true = refl
    right false = refl

pub record AnyOf (f : ℕ → Bool) (n : ℕ) : Type 0 where
  pub k : ℕ
  pub below : k < n
  pub is : f k ≡ true

pub any-from : (f : ℕ → Bool) (m n : ℕ) → list_any f (count_from m n) ≡ true → AnyOf f (m + n)
any-from f m zero e = absurd (cc)
any-from f m (suc n) e = elim (cases_Bool (f m)) [
  | inl on ↦ record { k = m; below = omega arith; is = on }
  | inr off ↦
      let rest = any-from f (m + 1) n (sym (ap (λ b. b || list_any f (count_from (m + 1) n)) off) ∙ e) in
      record { k = rest.k; below = (let low = rest.below in omega arith); is = rest.is }
]

pub none-here : (f : ℕ → Bool) (n k : ℕ) → list_any f (count_from 0 n) ≡ false → k < n → f k ≡ false
none-here f n k none low = elim (cases_Bool (f k)) [
  | inl on ↦ let bad : list_any f (count_from 0 n) ≡ true = any-here f 0 n k (omega arith) (omega arith) on in absurd (cc)
  | inr off ↦ off
]

pub none-more : (f : ℕ → Bool) (n : ℕ) → list_any f (count_from 0 n) ≡ false → f n ≡ false → list_any f (count_from 0 (n + 1)) ≡ false
none-more f n none off = elim (cases_Bool (list_any f (count_from 0 (n + 1)))) [
  | inl on ↦ absurd (never (any-from f 0 (n + 1) on))
  | inr no_more ↦ no_more
]
  where
    never : AnyOf f (0 + (n + 1)) → ⊥
    never a = elim (cases_lt a.k n) [
      | inl low ↦ let bad : f a.k ≡ false = none-here f n a.k none low in (let on = a.is in absurd (cc))
      | inr high ↦
          let low = a.below in
          let same : a.k ≡ n = omega arith in
          let bad : f n ≡ true = sym (ap f same) ∙ a.is in
          absurd (cc)
    ]

-- ---- vectors

module _ {S : Type 0} (F : Conversions S) where
  pub row-some : (v : VectorState S) (l : ℕ) → AreDistinct v.map → l < length v.map → is_row_over F v l v.columns ≡ true → HasOver F (global_table v)
  row-some v l distinct low e =
      let a = any-from (λ j. is_over_there F (vector_table v l j)) 0 v.columns e in
      let here = local_index-from v.map (get_or v.map l 0) l distinct (slice_get-get_or v.map l 0 low) in
      (get_or v.map l 0, (a.k, ap (is_over_there F) (global-at v (get_or v.map l 0) a.k l here) ∙ a.is))

  column-none : (v : VectorState S) (l j : ℕ) → v.columns ≤ j → vector_table v l j ≡ None
  column-none v l j high = ap (λ b. cond (ltb l (length v.map) && b) (slice_get v.values (l * v.columns + j)) None) (le-ltb j v.columns high) ∙ off (ltb l (length v.map))
    where
      off : (b : Bool) → cond (b && false) (slice_get v.values (l * v.columns + j)) None ≡ None
      off true = refl
      off false = refl

  pub rows-none : (v : VectorState S) (n : ℕ) → length v.map ≤ n → ((k : ℕ) → k < n → is_row_over F v k v.columns ≡ false) → (i j : ℕ) → is_over_there F (global_table v i j) ≡ false
  rows-none v n long none i j = go (local_index v.map i) refl
    where
      go : (o : Option ℕ) → local_index v.map i ≡ o → is_over_there F (global_table v i j) ≡ false
      go None e = ap (is_over_there F) (global-none v i j e)
      go (Some l) e =
          let low : l < length v.map = slice_get_within v.map l i (global_index-from v.map i l e) in
          ap (is_over_there F) (global-at v i j l e) ∙ elim (cases_lt j v.columns) [
            | inl col ↦ none-here (λ k. is_over_there F (vector_table v l k)) v.columns j (none l (omega arith)) col
            | inr past ↦ ap (is_over_there F) (column-none v l j past)
          ]
