-- A sum does not depend on the order of its list.
use Rattle.std.proofs.Common.{◌≡◌, ℕ, zero, suc, ◌<◌, List, [], ◌∷◌, refl, ap, ◌∙◌, arith, length, get_or, set}
use Rattle.std.specs.List.{swap}
use Rattle.std.specs.List.Sorted.{IsPermutation}
use Rattle.std.proofs.lemmas.List.Sorted.{IsPermutation-keeps}
use Rattle.tables.specs.Sums.{Joining, IsJoining, total}
use Rattle.tables.proofs.Sums.{join_front}

get_or-default : {A : Type 0} (xs : List A) (i : ℕ) (d e : A) → i < length xs → get_or xs i d ≡ get_or xs i e
get_or-default [] i d e h = absurd (omega arith)
get_or-default (x ∷ xs) zero d e h = refl
get_or-default (x ∷ xs) (suc i) d e h = get_or-default xs i d e (omega arith)

module _ {S A : Type 0} {M : Joining S} (L : IsJoining M) (f : A → S) where
  -- What is written to a place joins in where the old element joined.
  pub total-set : (xs : List A) (i : ℕ) (x : A) → i < length xs → M.join (f (get_or xs i x)) (total M f (set xs i x)) ≡ M.join (f x) (total M f xs)
  total-set [] i x h = absurd (omega arith)
  total-set (y ∷ ys) zero x h = join_front L (f y) (f x) (total M f ys)
  total-set (y ∷ ys) (suc i) x h = join_front L _ (f y) _ ∙ ap (M.join (f y)) (total-set ys i x (omega arith)) ∙ join_front L (f y) (f x) _

  exchanged : (xs : List A) (d : A) (i j : ℕ) → i < length xs → j < length xs → total M f (set (set xs i (get_or xs j d)) j (get_or xs i d)) ≡ total M f xs
  exchanged [] d i j p q = absurd (omega arith)
  exchanged (x ∷ xs) d zero zero p q = refl
  exchanged (x ∷ xs) d zero (suc j) p q = ap (λ y. M.join (f y) (total M f (set xs j x))) (get_or-default xs j d x (omega arith)) ∙ total-set xs j x (omega arith)
  exchanged (x ∷ xs) d (suc i) zero p q = ap (λ y. M.join (f y) (total M f (set xs i x))) (get_or-default xs i d x (omega arith)) ∙ total-set xs i x (omega arith)
  exchanged (x ∷ xs) d (suc i) (suc j) p q = ap (M.join (f x)) (exchanged xs d i j (omega arith) (omega arith))

  total-swapped : (xs : List A) (i j : ℕ) → i < length xs → j < length xs → total M f (swap xs i j) ≡ total M f xs
  total-swapped [] i j p q = refl
  total-swapped (x ∷ xs) i j p q = exchanged (x ∷ xs) x i j p q

  pub total-IsPermutation : (xs ys : List A) → IsPermutation xs ys → total M f ys ≡ total M f xs
  total-IsPermutation xs ys h = IsPermutation-keeps xs (λ l. total M f l ≡ total M f xs) refl (λ l i j p q e. total-swapped l i j p q ∙ e) ys h
