-- Rows that are added to the entries of their columns.
use Rattle.std.proofs.Common.{◌≡◌, ℕ, suc, ◌+◌, ◌<◌, Bool, true, false, ◌||◌, ◌==◌, cond, List, length, get_or, take, Option, Some, inl, inr, refl, sym, ap, ◌∙◌, arith}
use Rattle.std.proofs.lemmas.Bool.{cases_eq, cases_Bool, eq-eqb, ne_eqb}
use Rattle.std.proofs.lemmas.Option.{slice_get-get_or}
use Rattle.scalar_laws.specs.Semiring.{Semiring, IsSemiring}
use Rattle.tables.specs.Sums.{total_below, if_there, both_or_one}
use Rattle.tables.specs.Tables.{Table}
use Rattle.map_core.specs.Layouts.{local_index, stands, AreDistinct}
use Rattle.map_core.proofs.Members.{stands-take_more}
use Rattle.map_core.proofs.Places.{local_index-absent}
use Rattle.crs_graph.proofs.ColumnLists.{no_repeat}
use Rattle.crs_matrix.specs.Matrices.{number_at_place}
use Rattle.model_defs.specs.Operations.{times_there}
use Rattle.spmv.proofs.Rows.{join_none, joining}

module _ {S : Type 0} {R : Semiring S} (L : IsSemiring R) where
  -- one more place of a row
  pub spread-more : (t s y u : Table S) (p : ℕ → Option S) (columns : List ℕ) (at c : ℕ) → AreDistinct columns → at < length columns → get_or columns at 0 ≡ c
      → ((i k : ℕ) → t i k ≡ cond (stands i (take at columns)) (both_or_one R.plus (y i k) (u i k)) (y i k))
      → ((i k : ℕ) → s i k ≡ cond (c == i) (both_or_one R.plus (t i k) (p k)) (t i k)) → ((k : ℕ) → p k ≡ u c k)
      → (i k : ℕ) → s i k ≡ cond (stands i (take (at + 1) columns)) (both_or_one R.plus (y i k) (u i k)) (y i k)
  spread-more t s y u p columns at c distinct low here done step same i k = elim (cases_eq c i) [
    | inl e ↦
        let first : stands i (take at columns) ≡ false = no_repeat columns at i distinct (slice_get-get_or columns at 0 low ∙ ap Some (here ∙ e)) in
        let old : t i k ≡ y i k = done i k ∙ ap (λ b. cond b (both_or_one R.plus (y i k) (u i k)) (y i k)) first in
        let next : stands i (take (at + 1) columns) ≡ true = stands-take_more i columns at low ∙ (λ v. first v || eq-eqb (get_or columns at 0) i (here ∙ e) v) in
        step i k
        ∙ ap (λ b. cond b (both_or_one R.plus (t i k) (p k)) (t i k)) (eq-eqb c i e)
        ∙ (λ v. both_or_one R.plus (old v) (same k v))
        ∙ ap (λ j. both_or_one R.plus (y i k) (u j k)) e
        ∙ sym (ap (λ b. cond b (both_or_one R.plus (y i k) (u i k)) (y i k)) next)
    | inr e ↦
        let next : stands i (take (at + 1) columns) ≡ stands i (take at columns) =
        stands-take_more i columns at low ∙ ap (λ b. stands i (take at columns) || b) (ne_eqb (get_or columns at 0) i (λ d. e (sym here ∙ d))) ∙ or_none (stands i (take at columns)) in
        step i k
        ∙ ap (λ b. cond b (both_or_one R.plus (t i k) (p k)) (t i k)) (ne_eqb c i e)
        ∙ done i k
        ∙ sym (ap (λ b. cond b (both_or_one R.plus (y i k) (u i k)) (y i k)) next)
  ]
    where
      or_none : (b : Bool) → (b || false) ≡ b
      or_none true = refl
      or_none false = refl

  -- all places of a row
  pub spread-done : (columns : List ℕ) (numbers : List S) (y : Table S) (x : ℕ → Option S) (i k : ℕ)
      → cond (stands i columns) (both_or_one R.plus (y i k) (times_there R (number_at_place numbers (local_index columns i)) (x k))) (y i k)
      ≡ both_or_one R.plus (y i k) (times_there R (number_at_place numbers (local_index columns i)) (x k))
  spread-done columns numbers y x i k = elim (cases_Bool (stands i columns)) [
    | inl on ↦ ap (λ b. cond b (both_or_one R.plus (y i k) (times_there R (number_at_place numbers (local_index columns i)) (x k))) (y i k)) on
    | inr off ↦
        ap (λ b. cond b (both_or_one R.plus (y i k) (times_there R (number_at_place numbers (local_index columns i)) (x k))) (y i k)) off
        ∙ sym (join_none L (y i k))
        ∙ ap (λ p. both_or_one R.plus (y i k) (times_there R (number_at_place numbers p) (x k))) (sym (local_index-absent columns i off))
  ]

  -- one more row
  pub spread-rows : (f : ℕ → Option S) (n : ℕ) (o p q : Option S) → p ≡ both_or_one R.plus o (total_below (if_there R.plus) n f) → q ≡ both_or_one R.plus p (f n)
      → q ≡ both_or_one R.plus o (total_below (if_there R.plus) (n + 1) f)
  spread-rows f n o p q e d =
      let next : suc n ≡ n + 1 = omega arith in
      d
      ∙ ap (λ a. both_or_one R.plus a (f n)) e
      ∙ (joining L).assoc o (total_below (if_there R.plus) n f) (f n)
      ∙ ap (λ m. both_or_one R.plus o (total_below (if_there R.plus) m f)) next
