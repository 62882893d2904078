-- The numbers of a matrix under construction as a table.
use Rattle.std.proofs.Common.{◌≡◌, ℕ, zero, suc, ◌<◌, ◌≤◌, Bool, true, false, cond, eqb, ◌&&◌, List, [], ◌∷◌, ◌++◌, length, map, get_or, set, Option, Some, None, refl, sym, ap, subst, ◌∙◌, arith, inl, inr, length-set, get_or-set_same, get_or-set_other}
use Rattle.std.specs.Prelude.{slice_get, is_some}
use Rattle.std.specs.List.{insert}
use Rattle.std.proofs.lemmas.Bool.{cases_eq, eqb-true, eq-eqb, ne_eqb, and_parts, false≢true}
use Rattle.std.proofs.Math.ListN.{get_or-map}
use Rattle.crs_matrix.specs.declared.places.Place.{Place}
use Rattle.crs_matrix.specs.Rows.{number_at}
use Rattle.crs_matrix.specs.Stored.{cells_at, cell_before, no_place, AreWithin, ArePlaced}
use Rattle.crs_matrix.proofs.RowPlaces.{place_at, place_at-insert, placed-at, ArePlaced-within}

module _ {S : Type 0} where
  -- ---- one number of a list

  pub slice_get-there : (vs : List S) (k : ℕ) → k < length vs → is_some (slice_get vs k) ≡ true
  slice_get-there [] k l = absurd (omega arith)
  slice_get-there (v ∷ vs) zero l = refl
  slice_get-there (v ∷ vs) (suc k) l = slice_get-there vs k (omega arith)

  pub slice_get-set_same : (vs : List S) (k : ℕ) (v : S) → k < length vs → slice_get (set vs k v) k ≡ Some v
  slice_get-set_same [] k v l = absurd (omega arith)
  slice_get-set_same (w ∷ vs) zero v l = refl
  slice_get-set_same (w ∷ vs) (suc k) v l = slice_get-set_same vs k v (omega arith)

  pub slice_get-set_other : (vs : List S) (k m : ℕ) (v : S) → (k ≡ m → ⊥) → slice_get (set vs k v) m ≡ slice_get vs m
  slice_get-set_other [] k m v other = refl
  slice_get-set_other (w ∷ vs) zero zero v other = absurd (other refl)
  slice_get-set_other (w ∷ vs) zero (suc m) v other = refl
  slice_get-set_other (w ∷ vs) (suc k) zero v other = refl
  slice_get-set_other (w ∷ vs) (suc k) (suc m) v other = slice_get-set_other vs k m v (λ e. other (omega arith))

  pub slice_get-push_below : (vs : List S) (v : S) (k : ℕ) → k < length vs → slice_get (vs ++ v ∷ []) k ≡ slice_get vs k
  slice_get-push_below [] v k l = absurd (omega arith)
  slice_get-push_below (w ∷ vs) v zero l = refl
  slice_get-push_below (w ∷ vs) v (suc k) l = slice_get-push_below vs v k (omega arith)

  pub slice_get-push_end : (vs : List S) (v : S) (k : ℕ) → k ≡ length vs → slice_get (vs ++ v ∷ []) k ≡ Some v
  slice_get-push_end [] v k e = ap (λ n. slice_get (v ∷ []) n) e
  slice_get-push_end (w ∷ vs) v zero e = absurd (omega arith)
  slice_get-push_end (w ∷ vs) v (suc k) e = slice_get-push_end vs v k (omega arith)

  -- ---- the numbers of a row

  abbrev pub read : List S → Option ℕ → Option S
  read vs None = None
  read vs (Some k) = slice_get vs k

  pub number-at : (vs : List S) (ps : List Place) (j : ℕ) → AreWithin (length vs) ps → number_at (cells_at vs ps) j ≡ read vs (place_at ps j)
  number-at vs [] j h = refl
  number-at vs (p ∷ ps) j h = go (slice_get vs p.at) refl (slice_get-there vs p.at h.0) (number-at vs ps j h.1)
    where
      go : (o : Option S) → slice_get vs p.at ≡ o → is_some o ≡ true → number_at (cells_at vs ps) j ≡ read vs (place_at ps j)
          → number_at (cell_before p.col o (cells_at vs ps)) j ≡ read vs (cond (eqb p.col j) (Some p.at) (place_at ps j))
      go None e t rest = absurd (cc)
      go (Some v) e t rest = by (eqb p.col j)
        where
          by : (b : Bool) → cond b (Some v) (number_at (cells_at vs ps) j) ≡ read vs (cond b (Some p.at) (place_at ps j))
          by true = sym e
          by false = rest

  -- numbers that no place of the row names count for nothing
  pub cells_at-push : (vs : List S) (v : S) (ps : List Place) → AreWithin (length vs) ps → cells_at (vs ++ v ∷ []) ps ≡ cells_at vs ps
  cells_at-push vs v [] h = refl
  cells_at-push vs v (p ∷ ps) h = (λ t. cell_before p.col (slice_get-push_below vs v p.at h.0 t) (cells_at-push vs v ps h.1 t))

  pub length-cells_at : (vs : List S) (ps : List Place) → AreWithin (length vs) ps → length (cells_at vs ps) ≡ length ps
  length-cells_at vs [] h = refl
  length-cells_at vs (p ∷ ps) h = go (slice_get vs p.at) (slice_get-there vs p.at h.0) (length-cells_at vs ps h.1)
    where
      go : (o : Option S) → is_some o ≡ true → length (cells_at vs ps) ≡ length ps → length (cell_before p.col o (cells_at vs ps)) ≡ suc (length ps)
      go None t rest = absurd (cc)
      go (Some v) t rest = ap suc rest

  pub columns-cells_at : (vs : List S) (ps : List Place) → AreWithin (length vs) ps → map (λ c. c.0) (cells_at vs ps) ≡ map (λ p. p.col) ps
  columns-cells_at vs [] h = refl
  columns-cells_at vs (p ∷ ps) h = go (slice_get vs p.at) (slice_get-there vs p.at h.0) (columns-cells_at vs ps h.1)
    where
      go : (o : Option S) → is_some o ≡ true → map (λ c. c.0) (cells_at vs ps) ≡ map (λ q. q.col) ps → map (λ c. c.0) (cell_before p.col o (cells_at vs ps)) ≡ p.col ∷ map (λ q. q.col) ps
      go None t rest = absurd (cc)
      go (Some v) t rest = ap (λ cs. p.col ∷ cs) rest

  -- the cell at a place of the row
  pub cell-at : (vs : List S) (ps : List Place) → AreWithin (length vs) ps → (i : ℕ) (v : S) → i < length ps → slice_get vs (get_or ps i no_place).at ≡ Some v
      → slice_get (cells_at vs ps) i ≡ Some ((get_or ps i no_place).col, v)
  cell-at vs [] h i v l e = absurd (omega arith)
  cell-at vs (p ∷ ps) h zero v l e = ap (λ o. slice_get (cell_before p.col o (cells_at vs ps)) 0) e
  cell-at vs (p ∷ ps) h (suc i) v l e = go (slice_get vs p.at) (slice_get-there vs p.at h.0) (cell-at vs ps h.1 i v (omega arith) e)
    where
      go : (o : Option S) → is_some o ≡ true → slice_get (cells_at vs ps) i ≡ Some ((get_or ps i no_place).col, v)
          → slice_get (cell_before p.col o (cells_at vs ps)) (suc i) ≡ Some ((get_or ps i no_place).col, v)
      go None t rest = absurd (cc)
      go (Some w) t rest = rest

  -- ---- the table of all rows

  abbrev pub kept_number : List (List Place) → List S → ℕ → ℕ → Option S
  kept_number rows vs l j = number_at (get_or (map (cells_at vs) rows) l []) j

  pub kept-row : (rows : List (List Place)) (vs : List S) (l : ℕ) → get_or (map (cells_at vs) rows) l [] ≡ cells_at vs (get_or rows l [])
  kept-row rows vs l = get_or-map (cells_at vs) rows l []

  pub kept-number : (rows : List (List Place)) (vs : List S) (l j : ℕ) → AreWithin (length vs) (get_or rows l []) → kept_number rows vs l j ≡ read vs (place_at (get_or rows l []) j)
  kept-number rows vs l j h = ap (λ cs. number_at cs j) (kept-row rows vs l) ∙ number-at vs (get_or rows l []) j h

  -- one number is another
  module _ (rows : List (List Place)) (vs : List S) (owner : ℕ → ℕ × ℕ) (placed : (l : ℕ) → ArePlaced owner (length vs) l (get_or rows l [])) where
    within : (l : ℕ) → AreWithin (length vs) (get_or rows l [])
    within l = ArePlaced-within owner (length vs) l (get_or rows l []) (placed l)

    pub changed-number : (lid col at : ℕ) (v : S) → place_at (get_or rows lid []) col ≡ Some at
        → (l j : ℕ) → kept_number rows (set vs at v) l j ≡ cond (eqb lid l && eqb col j) (Some v) (kept_number rows vs l j)
    changed-number lid col at v here l j =
        kept-number rows (set vs at v) l j (subst (λ n. AreWithin n (get_or rows l [])) (sym (length-set vs at v)) (within l))
        ∙ go (place_at (get_or rows l []) j) (eqb lid l && eqb col j) refl refl
        ∙ ap (cond (eqb lid l && eqb col j) (Some v)) (sym (kept-number rows vs l j (within l)))
      where
        own : (at < length vs) × (owner at ≡ (lid, col))
        own = placed-at owner (length vs) lid (get_or rows lid []) (placed lid) col at here

        go : (o : Option ℕ) (b : Bool) → place_at (get_or rows l []) j ≡ o → (eqb lid l && eqb col j) ≡ b
            → read (set vs at v) o ≡ cond b (Some v) (read vs o)
        go None true e t =
            let parts = and_parts (eqb lid l) (eqb col j) t in
            let row : lid ≡ l = eqb-true lid l parts.0 in
            let column : col ≡ j = eqb-true col j parts.1 in
            let clash : Some at ≡ None = sym here ∙ (λ i. place_at (get_or rows (row i) []) (column i)) ∙ e in
            absurd (cc)
        go None false e t = refl
        go (Some k) true e t =
            let parts = and_parts (eqb lid l) (eqb col j) t in
            let row : lid ≡ l = eqb-true lid l parts.0 in
            let column : col ≡ j = eqb-true col j parts.1 in
            let one : Some at ≡ Some k = sym here ∙ (λ i. place_at (get_or rows (row i) []) (column i)) ∙ e in
            let same : at ≡ k = cc in
            ap (slice_get (set vs at v)) (sym same) ∙ slice_get-set_same vs at v own.0
        go (Some k) false e t = slice_get-set_other vs at k v (λ same.
            let there = placed-at owner (length vs) l (get_or rows l []) (placed l) j k e in
            let pair : (lid, col) ≡ (l, j) = sym own.1 ∙ ap owner same ∙ there.1 in
            let yes : (eqb lid l && eqb col j) ≡ true = (λ i. eq-eqb lid l (λ k. (pair k).0) i && eq-eqb col j (λ k. (pair k).1) i) in
            false≢true (sym t ∙ yes))

    -- a new place with the next number
    pub made-number : (lid i col : ℕ) (e : Place) (v : S) → lid < length rows → i ≤ length (get_or rows lid []) → e.col ≡ col → e.at ≡ length vs
        → ((k : ℕ) → k < i → (get_or (get_or rows lid []) k no_place).col < e.col)
        → (m : ℕ) → m ≡ length (vs ++ v ∷ []) → length vs ≤ m
        → ((l : ℕ) → AreWithin m (get_or (set rows lid (insert (get_or rows lid []) i e)) l []))
        → (l j : ℕ) → kept_number (set rows lid (insert (get_or rows lid []) i e)) (vs ++ v ∷ []) l j ≡ cond (eqb lid l && eqb col j) (Some v) (kept_number rows vs l j)
    made-number lid i col e v low le is next below m many more inside l j =
        kept-number (set rows lid new_row) (vs ++ v ∷ []) l j (subst (λ n. AreWithin n (get_or (set rows lid new_row) l [])) many (inside l))
        ∙ elim (cases_eq lid l) [
          | inl same ↦
              ap (λ ps. read (vs ++ v ∷ []) (place_at ps j)) (ap (λ k. get_or (set rows lid new_row) k []) (sym same) ∙ get_or-set_same rows lid new_row [] low)
              ∙ ap (read (vs ++ v ∷ [])) (place_at-insert (get_or rows lid []) i e j le below)
              ∙ here (eqb e.col j)
              ∙ (λ t. cond (eqb (is t) j) (Some v) (sym (kept-number rows vs lid j (within lid)) t))
              ∙ ap (λ k. cond (eqb col j) (Some v) (kept_number rows vs k j)) same
              ∙ ap (λ b. cond (b && eqb col j) (Some v) (kept_number rows vs l j)) (sym (eq-eqb lid l same))
          | inr other ↦
              ap (λ ps. read (vs ++ v ∷ []) (place_at ps j)) (get_or-set_other rows lid l new_row [] (λ d. other (sym d)))
              ∙ old l (place_at (get_or rows l []) j) refl
              ∙ sym (kept-number rows vs l j (within l))
              ∙ ap (λ b. cond (b && eqb col j) (Some v) (kept_number rows vs l j)) (sym (ne_eqb lid l other))
        ]
      where
        new_row : List Place
        new_row = insert (get_or rows lid []) i e

        old : (k : ℕ) (o : Option ℕ) → place_at (get_or rows k []) j ≡ o → read (vs ++ v ∷ []) o ≡ read vs o
        old k None f = refl
        old k (Some n) f = slice_get-push_below vs v n (placed-at owner (length vs) k (get_or rows k []) (placed k) j n f).0

        here : (b : Bool) → read (vs ++ v ∷ []) (cond b (Some e.at) (place_at (get_or rows lid []) j)) ≡ cond b (Some v) (read vs (place_at (get_or rows lid []) j))
        here true = slice_get-push_end vs v e.at next
        here false = old lid (place_at (get_or rows lid []) j) refl
