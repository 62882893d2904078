-- Blocks of cells by the ranks that own their rows.
use Rattle.std.proofs.Common.{◌≡◌, ℕ, zero, suc, ◌+◌, ◌<◌, ◌≤◌, true, ltb, leb, not, inl, List, [], ◌∷◌, ◌++◌, length, get_or, set, refl, sym, ap, ◌∙◌, subst, arith}
use Rattle.std.specs.List.{list_all}
use Rattle.std.specs.List.Sorted.{IsPermutation}
use Rattle.std.specs.Global.{Vec}
use Rattle.std.proofs.lemmas.Bool.{and_parts, and_from, ltb-true, lt-ltb, leb-true, le-leb}
use Rattle.std.proofs.lemmas.List.{append_assoc, append-nil}
use Rattle.std.proofs.lemmas.List.Concat.{flat_map-append}
use Rattle.std.proofs.lemmas.List.Sorted.{IsPermutation-append_right, IsPermutation-to_front}
use Rattle.map_core.specs.Uniform.{uniform_first, uniform_count}
use Rattle.map_core.proofs.Contiguous.{first_next}
use Rattle.scalar_laws.specs.Semiring.{Semiring}
use Rattle.tables.specs.declared.Cell.{Cell}
use Rattle.tables.specs.Tables.{stands_before, AreInOrder}
use Rattle.tables.proofs.Orders.{before-from}
use Rattle.gathered_rows.specs.Sorting.{AreSorted, AreSums}
use Rattle.gathered_rows.specs.Blocks.{cells_in, owns_row, AreOwnedFrom, rows_before, AreAscending}
use Rattle.gathered_rows.proofs.Lists.{list_all-both, list_all-parts, list_all-weaker, list_all-IsPermutation}
use Rattle.gathered_rows.proofs.Sorted.{AreSorted-append, AreSorted-from_order, not_after}

pub owns_row-from : (P n q i : ℕ) → uniform_first P n q ≤ i → i < uniform_first P n q + uniform_count P n q → owns_row P n q i ≡ true
owns_row-from P n q i low high = and_from _ _ (le-leb _ i low) (lt-ltb i _ high)

owns_row-low : (P n q i : ℕ) → owns_row P n q i ≡ true → uniform_first P n q ≤ i
owns_row-low P n q i h = let both = and_parts (leb (uniform_first P n q) i) _ h in leb-true (uniform_first P n q) i both.0

owns_row-high : (P n q i : ℕ) → owns_row P n q i ≡ true → i < uniform_first P n (q + 1)
owns_row-high P n q i h =
    let both = and_parts (leb (uniform_first P n q) i) _ h in
    let high : i < uniform_first P n q + uniform_count P n q = ltb-true i (uniform_first P n q + uniform_count P n q) both.1 in
    omega (arith, first_next P n q)

module _ {S : Type 0} where
  -- One more cell in one block is one more cell in all.
  pub cells_in-push : (blocks : List (Vec (Cell S))) (p : ℕ) (d new : Vec (Cell S)) (c : Cell S) → p < length blocks → new.items ≡ (get_or blocks p d).items ++ c ∷ []
      → IsPermutation (cells_in blocks ++ c ∷ []) (cells_in (set blocks p new))
  cells_in-push [] p d new c within e = absurd (omega arith)
  cells_in-push (b ∷ bs) zero d new c within e =
      subst (λ xs. IsPermutation xs (new.items ++ cells_in bs)) (sym (append_assoc b.items (cells_in bs) (c ∷ [])))
      (subst (IsPermutation (b.items ++ (cells_in bs ++ c ∷ []))) (sym (append_assoc b.items (c ∷ []) (cells_in bs)) ∙ ap (λ xs. xs ++ cells_in bs) (sym e))
      (IsPermutation-append_right b.items (cells_in bs ++ c ∷ []) (c ∷ cells_in bs) (IsPermutation-to_front (cells_in bs) c)))
  cells_in-push (b ∷ bs) (suc p) d new c within e =
      subst (λ xs. IsPermutation xs (b.items ++ cells_in (set bs p new))) (sym (append_assoc b.items (cells_in bs) (c ∷ [])))
      (IsPermutation-append_right b.items (cells_in bs ++ c ∷ []) (cells_in (set bs p new)) (cells_in-push bs p d new c (omega arith) e))

  -- One more cell in the block of its row's owner.
  pub AreOwnedFrom-push : (P n q : ℕ) (blocks : List (Vec (Cell S))) (p o : ℕ) (d new : Vec (Cell S)) (c : Cell S) → o ≡ q + p → new.items ≡ (get_or blocks p d).items ++ c ∷ []
      → owns_row P n o c.row ≡ true → AreOwnedFrom P n q blocks → AreOwnedFrom P n q (set blocks p new)
  AreOwnedFrom-push P n q [] p o d new c same e own h = h
  AreOwnedFrom-push P n q (b ∷ bs) zero o d new c same e own h =
      let first : q ≡ o = omega arith in
      let here : owns_row P n q c.row ≡ true = ap (λ k. owns_row P n k c.row) first ∙ own in (
        ap (list_all (λ x. owns_row P n q x.row)) e ∙ list_all-both (λ x. owns_row P n q x.row) b.items (c ∷ []) h.0 (and_from _ _ here refl),
        h.1,
      )
  AreOwnedFrom-push P n q (b ∷ bs) (suc p) o d new c same e own h =
      (h.0, AreOwnedFrom-push P n (q + 1) bs p o d new c (omega arith) e own h.1)

  both_empty : (xs ys : List (Cell S)) → xs ++ ys ≡ [] → (xs ≡ []) × (ys ≡ [])
  both_empty [] ys h = (refl, h)
  both_empty (x ∷ xs) ys h = absurd (cc)

  -- Empty blocks are owned by any rank.
  pub AreOwnedFrom-empty : (P n q : ℕ) (blocks : List (Vec (Cell S))) → cells_in blocks ≡ [] → AreOwnedFrom P n q blocks
  AreOwnedFrom-empty P n q [] h = tt
  AreOwnedFrom-empty P n q (b ∷ bs) h =
      let both = both_empty b.items (cells_in bs) h in
      (ap (list_all (λ c. owns_row P n q c.row)) both.0, AreOwnedFrom-empty P n (q + 1) bs both.1)

  -- The rows of the ranks from q on are not before the first row of rank q.
  rows_from : (P n q a : ℕ) (blocks : List (Vec (Cell S))) → a ≤ uniform_first P n q → AreOwnedFrom P n q blocks → list_all (λ c. leb a c.row) (cells_in blocks) ≡ true
  rows_from P n q a [] le h = refl
  rows_from P n q a (b ∷ bs) le h =
      list_all-both (λ c. leb a c.row) b.items (cells_in bs)
      (list_all-weaker (λ c. owns_row P n q c.row) (λ c. leb a c.row) (λ c e. let low = owns_row-low P n q c.row e in le-leb a c.row (omega arith)) b.items h.0)
      (rows_from P n (q + 1) a bs (omega (arith, first_next P n q)) h.1)

  -- The owners' rows ascend.
  pub AreAscending-owned : (P n q : ℕ) (blocks : List (Vec (Cell S))) → AreOwnedFrom P n q blocks → AreAscending blocks
  AreAscending-owned P n q [] h = tt
  AreAscending-owned P n q (b ∷ bs) h = (
    list_all-weaker (λ c. owns_row P n q c.row) (λ c. list_all (λ d. ltb c.row d.row) (cells_in bs)) later b.items h.0,
    AreAscending-owned P n (q + 1) bs h.1,
  )
    where
      later : (c : Cell S) → owns_row P n q c.row ≡ true → list_all (λ d. ltb c.row d.row) (cells_in bs) ≡ true
      later c e =
          let high = owns_row-high P n q c.row e in
          list_all-weaker (λ d. leb (uniform_first P n (q + 1)) d.row) (λ d. ltb c.row d.row)
          (λ d f. let low = leb-true (uniform_first P n (q + 1)) d.row f in lt-ltb c.row d.row (omega arith))
          (cells_in bs) (rows_from P n (q + 1) (uniform_first P n (q + 1)) bs (omega arith) h.1)

  -- Rows before all of two lists are before those of each.
  pub rows_before-parts : (xs ys zs : List (Cell S)) → rows_before xs (ys ++ zs) ≡ true → (rows_before xs ys ≡ true) × (rows_before xs zs ≡ true)
  rows_before-parts xs ys zs h = (
    list_all-weaker (λ c. list_all (λ d. ltb c.row d.row) (ys ++ zs)) (λ c. list_all (λ d. ltb c.row d.row) ys) (λ c e. let both = list_all-parts (λ d. ltb c.row d.row) ys zs e in both.0) xs h,
    list_all-weaker (λ c. list_all (λ d. ltb c.row d.row) (ys ++ zs)) (λ c. list_all (λ d. ltb c.row d.row) zs) (λ c e. let both = list_all-parts (λ d. ltb c.row d.row) ys zs e in both.1) xs h,
  )

  -- Sums, and then sorted cells in later rows.
  pub AreSorted-later : (sums block sorted : List (Cell S)) → AreInOrder sums → rows_before sums block ≡ true → IsPermutation block sorted → AreSorted sorted → AreSorted (sums ++ sorted)
  AreSorted-later sums block sorted o before moved up =
      AreSorted-append sums sorted (AreSorted-from_order sums o) up
      (list_all-weaker (λ c. list_all (λ d. ltb c.row d.row) block) (λ c. list_all (λ d. not (stands_before d c)) sorted)
      (λ c e. list_all-weaker (λ d. ltb c.row d.row) (λ d. not (stands_before d c))
      (λ d f. not_after c d (before-from c d (inl (ltb-true c.row d.row f))))
      sorted (list_all-IsPermutation (λ d. ltb c.row d.row) block sorted moved ∙ e))
      sums before)

  -- The cells of some blocks and of one more.
  pub cells_in-last : (blocks : List (Vec (Cell S))) (b : Vec (Cell S)) → cells_in (blocks ++ b ∷ []) ≡ cells_in blocks ++ b.items
  cells_in-last blocks b = flat_map-append (λ x. x.items) blocks (b ∷ []) ∙ ap (λ xs. cells_in blocks ++ xs) (append-nil b.items)

  -- The sums of cells are before what the cells are before.
  pub rows_before-sums : {R : Semiring S} (cells sums later : List (Cell S)) → AreSums R cells sums → rows_before cells later ≡ true → rows_before sums later ≡ true
  rows_before-sums cells sums later f h = f.places (λ i j. list_all (λ d. ltb i d.row) later) h

  -- A block goes from those that are left to those that are done.
  pub rows_before-next : (done rest : List (Vec (Cell S))) (b : Vec (Cell S)) → rows_before (cells_in done) (cells_in (b ∷ rest)) ≡ true → AreAscending (b ∷ rest)
      → rows_before (cells_in (done ++ b ∷ [])) (cells_in rest) ≡ true
  rows_before-next done rest b h up =
      let both = rows_before-parts (cells_in done) b.items (cells_in rest) h in
      ap (λ xs. rows_before xs (cells_in rest)) (cells_in-last done b)
      ∙ list_all-both (λ c. list_all (λ d. ltb c.row d.row) (cells_in rest)) (cells_in done) b.items both.1 up.0
