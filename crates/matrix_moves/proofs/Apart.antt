-- Cells that come for a table, no two of them for one place.
use Rattle.std.proofs.Common.{◌≡◌, ℕ, Bool, true, false, cond, ◌&&◌, eqb, List, [], ◌∷◌, ◌++◌, Some, None, refl, sym, ap, ◌∙◌}
use Rattle.std.specs.Option.{option_or}
use Rattle.std.proofs.lemmas.Bool.{eqb-true}
use Rattle.scalar_laws.specs.Semiring.{Semiring}
use Rattle.tables.specs.declared.Cell.{Cell}
use Rattle.tables.specs.Tables.{Table, found, names}
use Rattle.tables.proofs.Listed.{found-append}
use Rattle.combine_modes.specs.declared.mode.Mode.{Mode}
use Rattle.combine_modes.specs.Modes.{after_one}
use Rattle.distributor.specs.Entries.{with_cell, with_cells}

module _ {S : Type 0} where
  -- no cell names a place that a later one names
  abbrev pub AreApart : List (Cell S) → Type 0
  AreApart [] = Unit {0}
  AreApart (c ∷ cs) = (found cs c.row c.col ≡ None) × AreApart cs

  -- so it does not matter that they come one after the other
  pub after-cells : (R : Semiring S) (mode : Mode) (fixed : Bool) (t : Table S) (cells : List (Cell S)) → AreApart cells → (i j : ℕ)
      → with_cells R mode fixed t cells i j ≡ after_one R mode fixed (t i j) (found cells i j)
  after-cells R mode fixed t [] apart i j = refl
  after-cells R mode fixed t (c ∷ cs) apart i j =
      after-cells R mode fixed (with_cell R mode fixed t c.row c.col c.value) cs apart.1 i j ∙ by (eqb c.row i) (eqb c.col j) refl refl
    where
      by : (a b : Bool) → eqb c.row i ≡ a → eqb c.col j ≡ b
          → after_one R mode fixed (cond (a && b) (after_one R mode fixed (t c.row c.col) (Some c.value)) (t i j)) (found cs i j)
          ≡ after_one R mode fixed (t i j) (cond (a && b) (Some c.value) (found cs i j))
      by false b p q = refl
      by true false p q = refl
      by true true p q =
          let row : c.row ≡ i = eqb-true c.row i p in
          let col : c.col ≡ j = eqb-true c.col j q in
          let none : found cs i j ≡ None = sym (λ s. found cs (row s) (col s)) ∙ apart.0 in
          ap (λ o. after_one R mode fixed (after_one R mode fixed (t c.row c.col) (Some c.value)) o) none
          ∙ (λ s. after_one R mode fixed (t (row s) (col s)) (Some c.value))

  none-first : (xs ys : List (Cell S)) (i j : ℕ) → found (xs ++ ys) i j ≡ None → found xs i j ≡ None
  none-first [] ys i j e = refl
  none-first (x ∷ xs) ys i j e = by (names i j x) e (none-first xs ys i j)
    where
      by : (b : Bool) → cond b (Some x.value) (found (xs ++ ys) i j) ≡ None → (found (xs ++ ys) i j ≡ None → found xs i j ≡ None) → cond b (Some x.value) (found xs i j) ≡ None
      by true h rest = h
      by false h rest = rest h

  -- a first part of them
  pub apart-first : (xs ys : List (Cell S)) → AreApart (xs ++ ys) → AreApart xs
  apart-first [] ys a = tt
  apart-first (x ∷ xs) ys a = (none-first xs ys x.row x.col a.0, apart-first xs ys a.1)

  -- the cells of each of a list are for places that the others leave
  abbrev pub AreOthers : List (Cell S) → List (Cell S) → Type 0
  AreOthers [] ys = Unit {0}
  AreOthers (x ∷ xs) ys = (found ys x.row x.col ≡ None) × AreOthers xs ys

  pub apart-append : (xs ys : List (Cell S)) → AreApart xs → AreApart ys → AreOthers xs ys → AreApart (xs ++ ys)
  apart-append [] ys a b h = b
  apart-append (x ∷ xs) ys a b h =
      (found-append xs ys x.row x.col ∙ (λ s. option_or (a.0 s) (h.0 s)), apart-append xs ys a.1 b h.1)
