-- Sums over the places of a row.
use Rattle.std.proofs.Common.{◌≡◌, ℕ, zero, suc, ◌+◌, ◌*◌, ◌<◌, ◌≤◌, ◌⊎◌, Bool, true, false, ◌&&◌, ◌==◌, cond, nat_lt, List, [], ◌∷◌, length, get_or, take, slice_get, Option, Some, None, inl, inr, refl, sym, ap, ◌∙◌, arith}
use Rattle.std.proofs.lemmas.Bool.{cases_eq, cases_lt, eq-eqb, ne_eqb, lt-ltb, le-ltb}
use Rattle.std.proofs.lemmas.List.{take_more}
use Rattle.std.proofs.lemmas.Option.{slice_get-get_or}
use Rattle.scalar_laws.specs.Semiring.{Semiring, IsSemiring}
use Rattle.tables.specs.Indices.{AreBelow}
use Rattle.tables.specs.Sums.{total, if_there, both_or_one, IsJoining}
use Rattle.tables.specs.Tables.{Table, with_place}
use Rattle.tables.proofs.Sums.{places-IsJoining, total-all, total-push, total_below-ext, total_below-unit}
use Rattle.map_core.specs.Layouts.{local_index}
use Rattle.map_core.proofs.Places.{local_index-absent, local_index-from}
use Rattle.crs_graph.specs.Ascending.{IsAscending}
use Rattle.crs_graph.proofs.Ascending.{AreDistinct-ascending}
use Rattle.crs_matrix.specs.Matrices.{number_at_place}
use Rattle.multivector.specs.Vectors.{vector_table, VectorState}
use Rattle.model_defs.specs.Operations.{times_there}
use Rattle.spmv.specs.Applied.{row_product}

module _ {S : Type 0} {R : Semiring S} (L : IsSemiring R) where
  pub joining : IsJoining (if_there R.plus)
  joining = places-IsJoining L

  -- one more place
  pub row-more : (f : ℕ → Option S) (columns : List ℕ) (at : ℕ) (first sum p : S) → at < length columns
      → Some sum ≡ both_or_one R.plus (Some first) (total (if_there R.plus) f (take at columns)) → f (get_or columns at 0) ≡ Some p
      → Some (R.plus sum p) ≡ both_or_one R.plus (Some first) (total (if_there R.plus) f (take (at + 1) columns))
  row-more f columns at first sum p low done here =
      ap (λ o. both_or_one R.plus o (Some p)) done
      ∙ joining.assoc (Some first) (total (if_there R.plus) f (take at columns)) (Some p)
      ∙ ap (both_or_one R.plus (Some first))
      (ap (both_or_one R.plus (total (if_there R.plus) f (take at columns))) (sym here)
      ∙ sym (total-push joining f (take at columns) (get_or columns at 0))
      ∙ ap (total (if_there R.plus) f) (sym (take_more columns at 0 low)))

  -- the number of a place
  pub row-number : (columns : List ℕ) (numbers : List S) (at : ℕ) (n : S) → IsAscending columns → at < length columns → length numbers ≡ length columns
      → n ≡ get_or numbers at n → number_at_place numbers (local_index columns (get_or columns at 0)) ≡ Some n
  row-number columns numbers at n up low many is =
      let place = local_index-from columns (get_or columns at 0) at (AreDistinct-ascending columns up) (slice_get-get_or columns at 0 low) in
      ap (number_at_place numbers) place ∙ slice_get-get_or numbers at n (omega arith) ∙ ap Some (sym is)

  -- the term of a place
  pub row-term : (columns : List ℕ) (numbers : List S) (x : Table S) (k at : ℕ) (n v : S) → IsAscending columns → at < length columns → length numbers ≡ length columns
      → n ≡ get_or numbers at n → x (get_or columns at 0) k ≡ Some v
      → times_there R (number_at_place numbers (local_index columns (get_or columns at 0))) (x (get_or columns at 0) k) ≡ Some (R.times n v)
  row-term columns numbers x k at n v up low many is here =
      let c = get_or columns at 0 in
      let place = local_index-from columns c at (AreDistinct-ascending columns up) (slice_get-get_or columns at 0 low) in
      let number = ap (number_at_place numbers) place ∙ slice_get-get_or numbers at n (omega arith) ∙ ap Some (sym is) in
      (λ t. times_there R (number t) (here t))

  -- all places
  pub row-sum : (columns : List ℕ) (numbers : List S) (x : Table S) (k n : ℕ) → IsAscending columns → AreBelow n columns
      → total (if_there R.plus) (λ c. times_there R (number_at_place numbers (local_index columns c)) (x c k)) columns ≡ row_product R n columns numbers x k
  row-sum columns numbers x k n up within =
      total-all joining n (λ c. times_there R (number_at_place numbers (local_index columns c)) (x c k)) columns (AreDistinct-ascending columns up) within
      (λ q low off. ap (λ p. times_there R (number_at_place numbers p) (x q k)) (local_index-absent columns q off))

  none_there : (o : Option S) → times_there R o None ≡ None
  none_there None = refl
  none_there (Some v) = refl

  -- a column that the vector lacks
  pub row-none : (columns : List ℕ) (numbers : List S) (x : Table S) (k n : ℕ) → ((c : ℕ) → x c k ≡ None) → row_product R n columns numbers x k ≡ None
  row-none columns numbers x k n lacks =
      total_below-ext joining n (λ c. times_there R (number_at_place numbers (local_index columns c)) (x c k)) (λ c. None)
      (λ c low. ap (times_there R (number_at_place numbers (local_index columns c))) (lacks c) ∙ none_there (number_at_place numbers (local_index columns c)))
      ∙ total_below-unit joining n

  -- a row without places
  pub row-empty : (numbers : List S) (x : Table S) (k n : ℕ) → row_product R n [] numbers x k ≡ None
  row-empty numbers x k n = total_below-unit joining n

  pub join_none : (o : Option S) → both_or_one R.plus o None ≡ o
  join_none None = refl
  join_none (Some v) = refl

  -- one more column of a row
  pub columns-more : (t y : Table S) (p : ℕ → Option S) (lid col : ℕ) (first sum : S)
      → ((i k : ℕ) → t i k ≡ cond ((lid == i) && nat_lt k col) (both_or_one R.plus (y i k) (p k)) (y i k))
      → t lid col ≡ Some first → Some sum ≡ both_or_one R.plus (Some first) (p col)
      → (i k : ℕ) → with_place t lid col (Some sum) i k ≡ cond ((lid == i) && nat_lt k (col + 1)) (both_or_one R.plus (y i k) (p k)) (y i k)
  columns-more t y p lid col first sum done here new i k = elim (cases_eq lid i) [
    | inr e ↦
        ap (λ b. cond (b && (col == k)) (Some sum) (t i k)) (ne_eqb lid i e)
        ∙ done i k
        ∙ ap (λ b. cond (b && nat_lt k col) (both_or_one R.plus (y i k) (p k)) (y i k)) (ne_eqb lid i e)
        ∙ sym (ap (λ b. cond (b && nat_lt k (col + 1)) (both_or_one R.plus (y i k) (p k)) (y i k)) (ne_eqb lid i e))
    | inl e ↦ elim (cases_eq col k) [
      | inl f ↦
          let old : y i k ≡ Some first =
          sym ((λ u. cond (eq-eqb lid i e u && le-ltb k col (omega arith) u) (both_or_one R.plus (y i k) (p k)) (y i k)))
          ∙ sym (done i k) ∙ (λ u. t (sym e u) (sym f u)) ∙ here in
          (λ u. cond (eq-eqb lid i e u && eq-eqb col k f u) (Some sum) (t i k))
          ∙ new
          ∙ (λ u. both_or_one R.plus (sym old u) (p (f u)))
          ∙ sym (λ u. cond (eq-eqb lid i e u && lt-ltb k (col + 1) (omega arith) u) (both_or_one R.plus (y i k) (p k)) (y i k))
      | inr f ↦
          let same : nat_lt k col ≡ nat_lt k (col + 1) = same_lt k col f in
          (λ u. cond (eq-eqb lid i e u && ne_eqb col k f u) (Some sum) (t i k))
          ∙ done i k
          ∙ ap (λ b. cond ((lid == i) && b) (both_or_one R.plus (y i k) (p k)) (y i k)) same
    ]
  ]
    where
      same_lt : (k col : ℕ) → (col ≡ k → ⊥) → nat_lt k col ≡ nat_lt k (col + 1)
      same_lt k col other = elim (cases_lt k col) [
        | inl low ↦ lt-ltb k col low ∙ sym (lt-ltb k (col + 1) (omega arith))
        | inr high ↦ elim (cases_eq col k) [
          | inl e ↦ absurd (other e)
          | inr e ↦ le-ltb k col high ∙ sym (le-ltb k (col + 1) (omega arith))
        ]
      ]

  -- the first column of a row
  pub columns-first : (y : Table S) (p : ℕ → Option S) (lid : ℕ) (first sum : S) → y lid 0 ≡ Some first → Some sum ≡ both_or_one R.plus (Some first) (p 0)
      → (i k : ℕ) → with_place y lid 0 (Some sum) i k ≡ cond ((lid == i) && nat_lt k 1) (both_or_one R.plus (y i k) (p k)) (y i k)
  columns-first y p lid first sum here new = columns-more y y p lid 0 first sum (λ i k. by i k (lid == i)) here new
    where
      by : (i k : ℕ) (b : Bool) → y i k ≡ cond (b && nat_lt k 0) (both_or_one R.plus (y i k) (p k)) (y i k)
      by i k false = refl
      by i k true = sym (ap (λ b. cond b (both_or_one R.plus (y i k) (p k)) (y i k)) (le-ltb k 0 (omega arith)))

  -- all columns
  pub columns-done : (t y : Table S) (p : ℕ → Option S) (lid n col : ℕ) → n ≤ col
      → ((i k : ℕ) → t i k ≡ cond ((lid == i) && nat_lt k col) (both_or_one R.plus (y i k) (p k)) (y i k)) → ((k : ℕ) → n ≤ k → p k ≡ None)
      → (i k : ℕ) → t i k ≡ cond (lid == i) (both_or_one R.plus (y i k) (p k)) (y i k)
  columns-done t y p lid n col past done none i k = done i k ∙ by (lid == i) (cases_lt k col)
    where
      use_none : col ≤ k → both_or_one R.plus (y i k) (p k) ≡ y i k
      use_none high = ap (both_or_one R.plus (y i k)) (none k (omega arith)) ∙ join_none (y i k)

      by : (b : Bool) → (k < col) ⊎ (col ≤ k) → cond (b && nat_lt k col) (both_or_one R.plus (y i k) (p k)) (y i k) ≡ cond b (both_or_one R.plus (y i k) (p k)) (y i k)
      by false h = refl
      by true (inl low) = ap (λ b. cond b (both_or_one R.plus (y i k) (p k)) (y i k)) (lt-ltb k col low)
      by true (inr high) = ap (λ b. cond b (both_or_one R.plus (y i k) (p k)) (y i k)) (le-ltb k col high) ∙ sym (use_none high)

  -- one more row
  pub rows-more : (t s y u : Table S) (lid : ℕ)
      → ((i k : ℕ) → t i k ≡ cond (nat_lt i lid) (both_or_one R.plus (y i k) (u i k)) (y i k))
      → ((i k : ℕ) → s i k ≡ cond (lid == i) (both_or_one R.plus (t i k) (u lid k)) (t i k))
      → (i k : ℕ) → s i k ≡ cond (nat_lt i (lid + 1)) (both_or_one R.plus (y i k) (u i k)) (y i k)
  rows-more t s y u lid done row i k = elim (cases_eq lid i) [
    | inl e ↦
        let old : t i k ≡ y i k = done i k ∙ ap (λ b. cond b (both_or_one R.plus (y i k) (u i k)) (y i k)) (le-ltb i lid (omega arith)) in
        row i k
        ∙ ap (λ b. cond b (both_or_one R.plus (t i k) (u lid k)) (t i k)) (eq-eqb lid i e)
        ∙ (λ v. both_or_one R.plus (old v) (u (e v) k))
        ∙ sym (ap (λ b. cond b (both_or_one R.plus (y i k) (u i k)) (y i k)) (lt-ltb i (lid + 1) (omega arith)))
    | inr e ↦
        row i k
        ∙ ap (λ b. cond b (both_or_one R.plus (t i k) (u lid k)) (t i k)) (ne_eqb lid i e)
        ∙ done i k
        ∙ ap (λ b. cond b (both_or_one R.plus (y i k) (u i k)) (y i k)) (same_lt i lid e)
  ]
    where
      same_lt : (i lid : ℕ) → (lid ≡ i → ⊥) → nat_lt i lid ≡ nat_lt i (lid + 1)
      same_lt i lid other = elim (cases_lt i lid) [
        | inl low ↦ lt-ltb i lid low ∙ sym (lt-ltb i (lid + 1) (omega arith))
        | inr high ↦ elim (cases_eq lid i) [
          | inl e ↦ absurd (other e)
          | inr e ↦ le-ltb i lid high ∙ sym (le-ltb i (lid + 1) (omega arith))
        ]
      ]

-- a column of a row is below the bound
pub below-at : (n : ℕ) (xs : List ℕ) (at : ℕ) → AreBelow n xs → at < length xs → get_or xs at 0 < n
below-at n [] at h low = absurd (omega arith)
below-at n (x ∷ xs) zero h low = h.0
below-at n (x ∷ xs) (suc at) h low = below-at n xs at h.1 (omega arith)

-- a column that a vector lacks
pub vector-none : {S : Type 0} (v : VectorState S) (i k : ℕ) → v.columns ≤ k → vector_table v i k ≡ None
vector-none v i k past = by (nat_lt i (length v.map))
  where
    by : (b : Bool) → cond (b && nat_lt k v.columns) (slice_get v.values (i * v.columns + k)) None ≡ None
    by false = refl
    by true = ap (λ b. cond b (slice_get v.values (i * v.columns + k)) None) (le-ltb k v.columns past)

module _ {S : Type 0} {R : Semiring S} (L : IsSemiring R) where
  -- all rows
  pub rows-done : (t y u : Table S) (n lid : ℕ) → n ≤ lid
      → ((i k : ℕ) → t i k ≡ cond (nat_lt i lid) (both_or_one R.plus (y i k) (u i k)) (y i k)) → ((i k : ℕ) → n ≤ i → u i k ≡ None)
      → (i k : ℕ) → t i k ≡ both_or_one R.plus (y i k) (u i k)
  rows-done t y u n lid past done none i k = done i k ∙ by (cases_lt i lid)
    where
      by : (i < lid) ⊎ (lid ≤ i) → cond (nat_lt i lid) (both_or_one R.plus (y i k) (u i k)) (y i k) ≡ both_or_one R.plus (y i k) (u i k)
      by (inl low) = ap (λ b. cond b (both_or_one R.plus (y i k) (u i k)) (y i k)) (lt-ltb i lid low)
      by (inr high) =
          ap (λ b. cond b (both_or_one R.plus (y i k) (u i k)) (y i k)) (le-ltb i lid high)
          ∙ sym (ap (both_or_one R.plus (y i k)) (none i k (omega arith)) ∙ join_none L (y i k))
