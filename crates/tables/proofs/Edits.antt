-- Lists of cells that are looked up, after one cell is put in or given another number.
use Rattle.std.proofs.Common.{◌≡◌, ℕ, Bool, true, false, cond, eqb, ◌&&◌, List, [], ◌∷◌, ◌++◌, Option, None, Some, refl, sym, ap, ◌∙◌}
use Rattle.std.specs.List.{list_all}
use Rattle.std.specs.Option.{option_or}
use Rattle.std.proofs.lemmas.Bool.{and_parts, and_from, eqb-true, eq-eqb}
use Rattle.tables.specs.declared.Cell.{Cell}
use Rattle.tables.specs.Tables.{Table, names, found, with_place, stands_before, AreInOrder}
use Rattle.tables.proofs.Tables.{names-place}
use Rattle.tables.proofs.Orders.{before_all-trans, AreInOrder-append, names-earlier}
use Rattle.tables.proofs.Listed.{found-append}

module _ {S : Type 0} where
  -- A place that is given two numbers in turn has the second.
  pub with_place-twice : (t : Table S) (row col : ℕ) (v w : Option S) → with_place (with_place t row col v) row col w ≡ with_place t row col w
  with_place-twice t row col v w = λ s i j. go (eqb row i && eqb col j) (t i j) s
    where
      go : (b : Bool) (o : Option S) → cond b w (cond b v o) ≡ cond b w o
      go true o = refl
      go false o = refl

  pub with_place-here : (t : Table S) (row col : ℕ) (v : Option S) → with_place t row col v row col ≡ v
  with_place-here t row col v = ap (λ b. cond b v (t row col)) (and_from _ _ (eq-eqb row row refl) (eq-eqb col col refl))

  pub with_place-same : (t : Table S) (row col : ℕ) → with_place t row col (t row col) ≡ t
  with_place-same t row col = λ s i j. go i j (eqb row i) refl (eqb col j) refl s
    where
      go : (i j : ℕ) (b : Bool) → eqb row i ≡ b → (d : Bool) → eqb col j ≡ d → cond (b && d) (t row col) (t i j) ≡ t i j
      go i j true e true f = λ s. t (eqb-true row i e s) (eqb-true col j f s)
      go i j true e false f = refl
      go i j false e d f = refl

  -- A cell whose place stands in no cell before it.
  pub found-insert : (xs ys : List (Cell S)) (c : Cell S) → found xs c.row c.col ≡ None → found (xs ++ c ∷ ys) ≡ with_place (found (xs ++ ys)) c.row c.col (Some c.value)
  found-insert xs ys c new = λ t i j. (found-append xs (c ∷ ys) i j ∙ at i j (names i j c) refl) t
    where
      at : (i j : ℕ) (b : Bool) → names i j c ≡ b → option_or (found xs i j) (cond b (Some c.value) (found ys i j)) ≡ cond b (Some c.value) (found (xs ++ ys) i j)
      at i j true e = let p = names-place i j c e in ap (λ o. option_or o (Some c.value)) ((λ t. found xs (sym p.0 t) (sym p.1 t)) ∙ new)
      at i j false e = sym (found-append xs ys i j)

  -- A cell that is given another number.
  pub found-replace : (xs ys : List (Cell S)) (c : Cell S) (v : S) → found xs c.row c.col ≡ None → found (xs ++ record c { value = v } ∷ ys) ≡ with_place (found (xs ++ c ∷ ys)) c.row c.col (Some v)
  found-replace xs ys c v new =
      found-insert xs ys (record c { value = v }) new
      ∙ sym (with_place-twice (found (xs ++ ys)) c.row c.col (Some c.value) (Some v))
      ∙ sym (ap (λ t. with_place t c.row c.col (Some v)) (found-insert xs ys c new))

  -- Cells that stand before c do not have its place.
  pub found-earlier : (xs : List (Cell S)) (c : Cell S) → list_all (λ x. stands_before x c) xs ≡ true → found xs c.row c.col ≡ None
  found-earlier [] c h = refl
  found-earlier (x ∷ xs) c h =
      let both = and_parts (stands_before x c) _ h in
      ap (λ b. cond b (Some x.value) (found xs c.row c.col)) (names-earlier x c both.0) ∙ found-earlier xs c both.1

  -- A cell put in between.
  pub AreInOrder-insert : (xs ys : List (Cell S)) (c : Cell S) → AreInOrder xs → AreInOrder ys → list_all (λ x. stands_before x c) xs ≡ true → list_all (stands_before c) ys ≡ true → AreInOrder (xs ++ c ∷ ys)
  AreInOrder-insert xs ys c o p before after = AreInOrder-append xs (c ∷ ys) o (after, p) (all xs before)
    where
      all : (xs : List (Cell S)) → list_all (λ x. stands_before x c) xs ≡ true → list_all (λ x. list_all (stands_before x) (c ∷ ys)) xs ≡ true
      all [] h = refl
      all (x ∷ xs) h =
          let both = and_parts (stands_before x c) _ h in
          and_from _ _ (and_from (stands_before x c) _ both.0 (before_all-trans x c ys both.0 after)) (all xs both.1)

  -- A cell put at the end.
  pub AreInOrder-push : (xs : List (Cell S)) (c : Cell S) → AreInOrder xs → list_all (λ x. stands_before x c) xs ≡ true → AreInOrder (xs ++ c ∷ [])
  AreInOrder-push xs c o before = AreInOrder-insert xs [] c o tt before refl
