-- Whether some place of a matrix passes a test, seen from its cells.
use Rattle.std.proofs.Common.{◌≡◌, ℕ, ◌<◌, ◌≤◌, ◌⊎◌, inl, inr, Bool, true, false, cond, ◌||◌, ◌↔◌, List, [], ◌∷◌, None, Some, refl, sym, ap, ◌∙◌}
use Rattle.std.specs.List.{list_any}
use Rattle.std.specs.Option.{unwrap_or}
use Rattle.std.proofs.lemmas.Bool.{cases_lt, or_left, or_right}
use Rattle.tables.specs.declared.Cell.{Cell}
use Rattle.tables.specs.Tables.{Table, names, found, only_within, cells_of, AreInOrder, HasPlace}
use Rattle.tables.proofs.Tables.{names-place}
use Rattle.tables.proofs.Orders.{found-own, found-later}
use Rattle.tables.proofs.Listed.{found-cells_of, AreInOrder-cells_of}
use Rattle.tables.proofs.Within.{only_within-in, only_within-out}

module _ {S : Type 0} (p : S → Bool) where
  -- A place that is found and passes is a cell that passes.
  pub list_any-from_found : (cs : List (Cell S)) (i j : ℕ) (v : S) → found cs i j ≡ Some v → p v ≡ true → list_any (λ c. p c.value) cs ≡ true
  list_any-from_found [] i j v e h = cc
  list_any-from_found (c ∷ cs) i j v e h = go (names i j c) e (λ e. list_any-from_found cs i j v e h)
    where
      go : (b : Bool) → cond b (Some c.value) (found cs i j) ≡ Some v → (found cs i j ≡ Some v → list_any (λ c. p c.value) cs ≡ true) → p c.value || list_any (λ c. p c.value) cs ≡ true
      go true e more = or_left (p c.value) _ (ap p (ap (λ o. unwrap_or o v) e) ∙ h)
      go false e more = or_right (p c.value) _ (more e)

  -- Of cells in order, one that passes is found at its place.
  pub found-from_list_any : (cs : List (Cell S)) → AreInOrder cs → list_any (λ c. p c.value) cs ≡ true → (i : ℕ) × (j : ℕ) × (v : S) × (found cs i j ≡ Some v) × (p v ≡ true)
  found-from_list_any [] o h = cc
  found-from_list_any (c ∷ cs) o h = go (p c.value) refl h (λ h. found-from_list_any cs o.1 h)
    where
      later : (i j : ℕ) (v : S) (b : Bool) → names i j c ≡ b → found cs i j ≡ Some v → cond b (Some c.value) (found cs i j) ≡ Some v
      later i j v true e f =
          let q = names-place i j c e in
          let gone : found cs i j ≡ None = (λ t. found cs (sym q.0 t) (sym q.1 t)) ∙ found-later c cs o.0 in
          cc
      later i j v false e f = f

      go : (b : Bool) → p c.value ≡ b → b || list_any (λ c. p c.value) cs ≡ true → (list_any (λ c. p c.value) cs ≡ true → (i : ℕ) × (j : ℕ) × (v : S) × (found cs i j ≡ Some v) × (p v ≡ true)) → (i : ℕ) × (j : ℕ) × (v : S) × (found (c ∷ cs) i j ≡ Some v) × (p v ≡ true)
      go true e h more = (c.row, c.col, c.value, found-own c cs, e)
      go false e h more = let m = more h in (m.0, m.1, m.2, later m.0 m.1 m.2 (names m.0 m.1 c) refl m.3, m.4)

  -- A cell of a matrix passes exactly where some place of it passes.
  pub list_any-cells_of : (rows cols : ℕ) (t : Table S) → (list_any (λ c. p c.value) (cells_of rows cols t) ≡ true) ↔ HasPlace rows cols p t
  list_any-cells_of rows cols t = (to, from)
    where
      place : (i j : ℕ) (v : S) → only_within rows cols t i j ≡ Some v → p v ≡ true → (i < rows) ⊎ (rows ≤ i) → (j < cols) ⊎ (cols ≤ j) → HasPlace rows cols p t
      place i j v e h (inl a) (inl b) = (i, j, v, a, b, sym (only_within-in rows cols t i j a b) ∙ e, h)
      place i j v e h (inl a) (inr b) = let gone = only_within-out rows cols t i j (inr b) in cc
      place i j v e h (inr a) b = let gone = only_within-out rows cols t i j (inl a) in cc

      to : list_any (λ c. p c.value) (cells_of rows cols t) ≡ true → HasPlace rows cols p t
      to h =
          let m = found-from_list_any (cells_of rows cols t) (AreInOrder-cells_of rows cols t) h in
          place m.0 m.1 m.2 (sym (λ s. found-cells_of rows cols t s m.0 m.1) ∙ m.3) m.4 (cases_lt m.0 rows) (cases_lt m.1 cols)

      from : HasPlace rows cols p t → list_any (λ c. p c.value) (cells_of rows cols t) ≡ true
      from h = list_any-from_found (cells_of rows cols t) h.0 h.1 h.2 ((λ s. found-cells_of rows cols t s h.0 h.1) ∙ only_within-in rows cols t h.0 h.1 h.3 h.4 ∙ h.5) h.6
