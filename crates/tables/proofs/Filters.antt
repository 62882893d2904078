-- The cells of some rows.
use Rattle.std.proofs.Common.{◌≡◌, ℕ, Bool, true, false, cond, List, [], ◌∷◌, filter, map, Option, None, Some, refl, sym, ap, ◌∙◌}
use Rattle.std.specs.List.{list_all}
use Rattle.std.proofs.lemmas.Bool.{and_parts, and_from}
use Rattle.scalar_laws.specs.Semiring.{Semiring, IsSemiring}
use Rattle.tables.specs.declared.Cell.{Cell}
use Rattle.tables.specs.Sums.{IsJoining, if_there, both_or_one}
use Rattle.tables.specs.Tables.{Table, names, table_of, found, only_rows, sum_of, stands_before, AreInOrder}
use Rattle.tables.proofs.Sums.{places-IsJoining, total-map, total-cond}
use Rattle.tables.proofs.Tables.{names-place}

module _ {S : Type 0} where
  none : (b : Bool) → let absent : Option S = None in cond b absent None ≡ absent
  none true = refl
  none false = refl

  -- A look-up in the cells of the rows that pass a test.
  pub found-filter : (p : ℕ → Bool) (cs : List (Cell S)) → found (filter (λ c. p c.row) cs) ≡ only_rows p (found cs)
  found-filter p [] = λ t i j. sym (none (p i)) t
  found-filter p (c ∷ cs) = λ t i j. at i j (p c.row) refl (names i j c) refl (λ s. found-filter p cs s i j) t
    where
      at : (i j : ℕ) (b : Bool) → p c.row ≡ b → (d : Bool) → names i j c ≡ d → found (filter (λ c. p c.row) cs) i j ≡ cond (p i) (found cs i j) None
          → found (cond b (c ∷ filter (λ c. p c.row) cs) (filter (λ c. p c.row) cs)) i j ≡ cond (p i) (cond d (Some c.value) (found cs i j)) None
      at i j true e true f more =
          ap (λ d. cond d (Some c.value) (found (filter (λ c. p c.row) cs) i j)) f
          ∙ sym (ap (λ b. cond b (Some c.value) None) (ap p (sym (names-place i j c f).0) ∙ e))
      at i j true e false f more = ap (λ d. cond d (Some c.value) (found (filter (λ c. p c.row) cs) i j)) f ∙ more
      at i j false e true f more =
          let out : p i ≡ false = ap p (sym (names-place i j c f).0) ∙ e in
          more ∙ ap (λ b. cond b (found cs i j) None) out ∙ sym (ap (λ b. cond b (Some c.value) None) out)
      at i j false e false f more = more

  list_all-filter : (q p : Cell S → Bool) (cs : List (Cell S)) → list_all q cs ≡ true → list_all q (filter p cs) ≡ true
  list_all-filter q p [] h = refl
  list_all-filter q p (c ∷ cs) h = let both = and_parts (q c) _ h in go (p c) both.0 (list_all-filter q p cs both.1)
    where
      go : (b : Bool) → q c ≡ true → list_all q (filter p cs) ≡ true → list_all q (cond b (c ∷ filter p cs) (filter p cs)) ≡ true
      go true here more = and_from (q c) _ here more
      go false here more = more

  -- Some of the cells of a list in order are in order.
  pub AreInOrder-filter : (p : Cell S → Bool) (cs : List (Cell S)) → AreInOrder cs → AreInOrder (filter p cs)
  AreInOrder-filter p [] o = tt
  AreInOrder-filter p (c ∷ cs) o = go (p c) (list_all-filter (stands_before c) p cs o.0) (AreInOrder-filter p cs o.1)
    where
      go : (b : Bool) → list_all (stands_before c) (filter p cs) ≡ true → AreInOrder (filter p cs) → AreInOrder (cond b (c ∷ filter p cs) (filter p cs))
      go true h o = (h, o)
      go false h o = o

module _ {S : Type 0} {R : Semiring S} (L : IsSemiring R) where
  J : IsJoining (if_there R.plus)
  J = places-IsJoining L

  -- The matrix of the cells of the rows that pass a test.
  pub table_of-filter : (p : ℕ → Bool) (cs : List (Cell S)) → table_of R (filter (λ c. p c.row) cs) ≡ only_rows p (table_of R cs)
  table_of-filter p [] = λ t i j. sym (none (p i)) t
  table_of-filter p (c ∷ cs) = λ t i j. at i j (p c.row) refl (names i j c) refl (λ s. table_of-filter p cs s i j) t
    where
      at : (i j : ℕ) (b : Bool) → p c.row ≡ b → (d : Bool) → names i j c ≡ d → table_of R (filter (λ c. p c.row) cs) i j ≡ cond (p i) (table_of R cs i j) None
          → table_of R (cond b (c ∷ filter (λ c. p c.row) cs) (filter (λ c. p c.row) cs)) i j ≡ cond (p i) (both_or_one R.plus (cond d (Some c.value) None) (table_of R cs i j)) None
      at i j true e true f more =
          let in_rows : p i ≡ true = ap p (sym (names-place i j c f).0) ∙ e in
          (λ t. both_or_one R.plus (cond (f t) (Some c.value) None) (more t))
          ∙ ap (λ b. both_or_one R.plus (Some c.value) (cond b (table_of R cs i j) None)) in_rows
          ∙ sym (ap (λ b. cond b (both_or_one R.plus (Some c.value) (table_of R cs i j)) None) in_rows)
      at i j true e false f more = ap (λ d. both_or_one R.plus (cond d (Some c.value) None) (table_of R (filter (λ c. p c.row) cs) i j)) f ∙ more
      at i j false e true f more =
          let out : p i ≡ false = ap p (sym (names-place i j c f).0) ∙ e in
          more ∙ ap (λ b. cond b (table_of R cs i j) None) out ∙ sym (ap (λ b. cond b (both_or_one R.plus (Some c.value) (table_of R cs i j)) None) out)
      at i j false e false f more = more

  -- The rows of a sum are the sum of the rows.
  pub only_rows-sum_of : (p : ℕ → Bool) (ts : List (Table S)) → sum_of R (map (only_rows p) ts) ≡ only_rows p (sum_of R ts)
  only_rows-sum_of p ts = λ t i j. (total-map J (λ m. m i j) (only_rows p) ts ∙ total-cond J (p i) (λ m. m i j) ts) t
