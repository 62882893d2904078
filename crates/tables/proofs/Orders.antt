-- The order of cells by row and then column.
use Rattle.std.proofs.Common.{◌≡◌, ◌<◌, ◌≤◌, ◌⊎◌, inl, inr, Bool, true, false, cond, eqb, ltb, ◌||◌, ◌&&◌, List, [], ◌∷◌, ◌++◌, None, Some, refl, sym, ap, ◌∙◌, arith}
use Rattle.std.specs.List.{list_all}
use Rattle.std.proofs.lemmas.Bool.{eqb-true, eq-eqb, ne_eqb, cases_lt, and_parts, and_from, or_left, or_right, ltb-true, lt-ltb}
use Rattle.std.proofs.lemmas.List.Folds.{list_all-append}
use Rattle.tables.specs.declared.Cell.{Cell}
use Rattle.tables.specs.Tables.{names, found, stands_before, AreInOrder}

module _ {S : Type 0} where
  -- What the test says in numbers, and back.
  pub before-from : (c d : Cell S) → (c.row < d.row) ⊎ ((c.row ≡ d.row) × (c.col < d.col)) → stands_before c d ≡ true
  before-from c d (inl l) = or_left (ltb c.row d.row) _ (lt-ltb c.row d.row l)
  before-from c d (inr l) = or_right (ltb c.row d.row) _ (and_from _ _ (eq-eqb c.row d.row l.0) (lt-ltb c.col d.col l.1))

  pub before-to : (c d : Cell S) → stands_before c d ≡ true → (c.row < d.row) ⊎ ((c.row ≡ d.row) × (c.col < d.col))
  before-to c d h = go (ltb c.row d.row) refl h
    where
      go : (b : Bool) → ltb c.row d.row ≡ b → b || (eqb c.row d.row && ltb c.col d.col) ≡ true → (c.row < d.row) ⊎ ((c.row ≡ d.row) × (c.col < d.col))
      go true e h = inl (ltb-true c.row d.row e)
      go false e h = let both = and_parts (eqb c.row d.row) (ltb c.col d.col) h in inr (eqb-true c.row d.row both.0, ltb-true c.col d.col both.1)

  pub before-trans : (c d e : Cell S) → stands_before c d ≡ true → stands_before d e ≡ true → stands_before c e ≡ true
  before-trans c d e p q = before-from c e (go (before-to c d p) (before-to d e q))
    where
      go : (c.row < d.row) ⊎ ((c.row ≡ d.row) × (c.col < d.col)) → (d.row < e.row) ⊎ ((d.row ≡ e.row) × (d.col < e.col)) → (c.row < e.row) ⊎ ((c.row ≡ e.row) × (c.col < e.col))
      go (inl l) (inl m) = inl (omega arith)
      go (inl l) (inr m) = inl (omega (arith, m.0))
      go (inr l) (inl m) = inl (omega (arith, l.0))
      go (inr l) (inr m) = inr (l.0 ∙ m.0, omega (arith, l.1, m.1))

  -- One stands before the other, or both name one place.
  pub before-cases : (c d : Cell S) → (stands_before c d ≡ true) ⊎ ((stands_before d c ≡ true) ⊎ ((c.row ≡ d.row) × (c.col ≡ d.col)))
  before-cases c d = go (cases_lt c.row d.row) (cases_lt d.row c.row) (cases_lt c.col d.col) (cases_lt d.col c.col)
    where
      go : (c.row < d.row) ⊎ (d.row ≤ c.row) → (d.row < c.row) ⊎ (c.row ≤ d.row) → (c.col < d.col) ⊎ (d.col ≤ c.col) → (d.col < c.col) ⊎ (c.col ≤ d.col) → (stands_before c d ≡ true) ⊎ ((stands_before d c ≡ true) ⊎ ((c.row ≡ d.row) × (c.col ≡ d.col)))
      go (inl l) _ _ _ = inl (before-from c d (inl l))
      go (inr p) (inl l) _ _ = inr (inl (before-from d c (inl l)))
      go (inr p) (inr q) (inl l) _ = inl (before-from c d (inr (omega arith, l)))
      go (inr p) (inr q) (inr r) (inl l) = inr (inl (before-from d c (inr (omega arith, l))))
      go (inr p) (inr q) (inr r) (inr s) = inr (inr (omega arith, omega arith))

  -- A cell stands before all that a later cell stands before.
  pub before_all-trans : (c d : Cell S) (es : List (Cell S)) → stands_before c d ≡ true → list_all (stands_before d) es ≡ true → list_all (stands_before c) es ≡ true
  before_all-trans c d [] l h = refl
  before_all-trans c d (e ∷ es) l h = let both = and_parts (stands_before d e) _ h in and_from _ _ (before-trans c d e l both.0) (before_all-trans c d es l both.1)

  pub names-own : (c : Cell S) → names c.row c.col c ≡ true
  names-own c = and_from _ _ (eq-eqb c.row c.row refl) (eq-eqb c.col c.col refl)

  -- A cell after another does not name its place.
  pub names-later : (c d : Cell S) → stands_before c d ≡ true → names c.row c.col d ≡ false
  names-later c d h = go (before-to c d h)
    where
      go : (c.row < d.row) ⊎ ((c.row ≡ d.row) × (c.col < d.col)) → eqb d.row c.row && eqb d.col c.col ≡ false
      go (inl l) = ap (λ b. b && eqb d.col c.col) (ne_eqb d.row c.row (λ e. absurd (omega arith)))
      go (inr l) =
          let more = l.1 in
          ap (λ b. b && eqb d.col c.col) (eq-eqb d.row c.row (sym l.0)) ∙ ne_eqb d.col c.col (λ e. absurd (omega arith))

  -- Nor does a cell before it.
  pub names-earlier : (c d : Cell S) → stands_before c d ≡ true → names d.row d.col c ≡ false
  names-earlier c d h = go (before-to c d h)
    where
      go : (c.row < d.row) ⊎ ((c.row ≡ d.row) × (c.col < d.col)) → eqb c.row d.row && eqb c.col d.col ≡ false
      go (inl l) = ap (λ b. b && eqb c.col d.col) (ne_eqb c.row d.row (λ e. absurd (omega arith)))
      go (inr l) =
          let more = l.1 in
          ap (λ b. b && eqb c.col d.col) (eq-eqb c.row d.row l.0) ∙ ne_eqb c.col d.col (λ e. absurd (omega arith))

  pub found-own : (c : Cell S) (cs : List (Cell S)) → found (c ∷ cs) c.row c.col ≡ Some c.value
  found-own c cs = ap (λ b. cond b (Some c.value) (found cs c.row c.col)) (names-own c)

  -- A cell that stands before all of a list has a place that the list does not have.
  pub found-later : (c : Cell S) (ds : List (Cell S)) → list_all (stands_before c) ds ≡ true → found ds c.row c.col ≡ None
  found-later c [] h = refl
  found-later c (d ∷ ds) h = let both = and_parts (stands_before c d) _ h in ap (λ b. cond b (Some d.value) (found ds c.row c.col)) (names-later c d both.0) ∙ found-later c ds both.1

  -- Lists in order, one after the other.
  pub AreInOrder-append : (xs ys : List (Cell S)) → AreInOrder xs → AreInOrder ys → list_all (λ c. list_all (stands_before c) ys) xs ≡ true → AreInOrder (xs ++ ys)
  AreInOrder-append [] ys p q h = q
  AreInOrder-append (x ∷ xs) ys p q h =
      let both = and_parts (list_all (stands_before x) ys) _ h in
      (list_all-append (stands_before x) xs ys ∙ and_from _ _ p.0 both.0, AreInOrder-append xs ys p.1 q both.1)
