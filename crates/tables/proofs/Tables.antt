-- The matrix of a list of cells, as cells are added, moved and joined.
use Rattle.std.proofs.Common.{◌≡◌, ℕ, Bool, true, false, cond, eqb, List, [], ◌∷◌, ◌++◌, map, None, Some, refl, sym, ◌∙◌}
use Rattle.std.specs.List.{flat_map}
use Rattle.std.specs.List.Sorted.{IsPermutation}
use Rattle.std.proofs.lemmas.Bool.{eqb-true, and_parts}
use Rattle.scalar_laws.specs.Semiring.{Semiring, IsSemiring}
use Rattle.tables.specs.declared.Cell.{Cell}
use Rattle.tables.specs.Sums.{IsJoining, if_there, both_or_one}
use Rattle.tables.specs.Tables.{names, part_at, table_of, with_place, sum_of}
use Rattle.tables.proofs.Sums.{places-IsJoining, unit_right, total-append, total-push, total-map, total-flat_map}
use Rattle.tables.proofs.Permutations.{total-IsPermutation}

-- A cell names one place.
pub names-place : {S : Type 0} (i j : ℕ) (c : Cell S) → names i j c ≡ true → (c.row ≡ i) × (c.col ≡ j)
names-place i j c e = let both = and_parts (eqb c.row i) (eqb c.col j) e in (eqb-true c.row i both.0, eqb-true c.col j both.1)

module _ {S : Type 0} {R : Semiring S} (L : IsSemiring R) where
  J : IsJoining (if_there R.plus)
  J = places-IsJoining L

  pub table_of-append : (xs ys : List (Cell S)) (i j : ℕ) → table_of R (xs ++ ys) i j ≡ both_or_one R.plus (table_of R xs i j) (table_of R ys i j)
  table_of-append xs ys i j = total-append J (part_at i j) xs ys

  pub table_of-IsPermutation : (xs ys : List (Cell S)) → IsPermutation xs ys → table_of R ys ≡ table_of R xs
  table_of-IsPermutation xs ys h = λ t i j. total-IsPermutation J (part_at i j) xs ys h t

  pub table_of-push : (cs : List (Cell S)) (c : Cell S) → table_of R (cs ++ c ∷ []) ≡ with_place (table_of R cs) c.row c.col (both_or_one R.plus (table_of R cs c.row c.col) (Some c.value))
  table_of-push cs c = λ t i j. (total-push J (part_at i j) cs c ∙ at i j (names i j c) refl) t
    where
      at : (i j : ℕ) (b : Bool) → names i j c ≡ b → both_or_one R.plus (table_of R cs i j) (cond b (Some c.value) None) ≡ cond b (both_or_one R.plus (table_of R cs c.row c.col) (Some c.value)) (table_of R cs i j)
      at i j true e = let p = names-place i j c e in λ t. both_or_one R.plus (table_of R cs (sym p.0 t) (sym p.1 t)) (Some c.value)
      at i j false e = unit_right J (table_of R cs i j)

  -- Elements that stand for several cells each: the sum of the matrices of the elements.
  pub table_of-flat_map : {A : Type 0} (f : A → List (Cell S)) (xs : List A) → table_of R (flat_map f xs) ≡ sum_of R (map (λ x. table_of R (f x)) xs)
  table_of-flat_map f xs = λ t i j. (total-flat_map J (part_at i j) f xs ∙ sym (total-map J (λ m. m i j) (λ x. table_of R (f x)) xs)) t
