-- Lists by their last element, and tests of every element.
use Rattle.std.proofs.Common.{◌≡◌, ℕ, suc, ◌+◌, ◌-◌, ◌<◌, ◌≤◌, Bool, true, false, ◌&&◌, List, [], ◌∷◌, ◌++◌, length, get_or, set, take, refl, sym, ap, ◌∙◌, arith}
use Rattle.std.specs.List.{list_all}
use Rattle.std.specs.List.Sorted.{IsPermutation}
use Rattle.std.proofs.lemmas.Bool.{and_parts, and_from}
use Rattle.std.proofs.lemmas.List.{take_more, take_all, drop_all, set_split}
use Rattle.std.proofs.lemmas.List.Folds.{list_all-append}
use Rattle.tables.specs.Sums.{Joining, IsJoining, total}
use Rattle.tables.proofs.Permutations.{total-IsPermutation}

-- Tests that both hold.
both_tests : Joining Bool
both_tests = record { unit = true; join = ◌&&◌ }

both_tests-IsJoining : IsJoining both_tests
unfolding both_tests
both_tests-IsJoining = record { comm = comm; assoc = assoc; unit_left = λ a. refl }
  where
    comm : (a b : Bool) → (a && b) ≡ (b && a)
    comm true true = refl
    comm true false = refl
    comm false true = refl
    comm false false = refl

    assoc : (a b c : Bool) → ((a && b) && c) ≡ (a && (b && c))
    assoc true b c = refl
    assoc false b c = refl

module _ {A : Type 0} where
  -- A list is its front and its last element.
  pub front_and_last : (xs : List A) (n : ℕ) (x : A) → 0 < n → length xs ≡ n → x ≡ get_or xs (n - 1) x → xs ≡ take (n - 1) xs ++ x ∷ []
  front_and_last xs n x some long is =
      let within : n - 1 < length xs = omega arith in
      let whole : length xs ≤ (n - 1) + 1 = omega arith in
      sym (take_all ((n - 1) + 1) xs whole) ∙ take_more xs (n - 1) x within ∙ ap (λ y. take (n - 1) xs ++ y ∷ []) (sym is)

  -- A write to the last place.
  pub set-last : (xs : List A) (n : ℕ) (y : A) → 0 < n → length xs ≡ n → set xs (n - 1) y ≡ take (n - 1) xs ++ y ∷ []
  set-last xs n y some long =
      let within : n - 1 < length xs = omega arith in
      let whole : length xs ≤ suc (n - 1) = omega arith in
      set_split xs (n - 1) y within ∙ ap (λ ys. take (n - 1) xs ++ y ∷ ys) (drop_all (suc (n - 1)) xs whole)

  -- A write of what stands there.
  pub set-last_same : (xs : List A) (n : ℕ) (x : A) → 0 < n → length xs ≡ n → x ≡ get_or xs (n - 1) x → set xs (n - 1) x ≡ xs
  set-last_same xs n x some long is = set-last xs n x some long ∙ sym (front_and_last xs n x some long is)

  -- All elements of two lists pass where those of each do, and back.
  pub list_all-both : (p : A → Bool) (xs ys : List A) → list_all p xs ≡ true → list_all p ys ≡ true → list_all p (xs ++ ys) ≡ true
  list_all-both p xs ys f g = list_all-append p xs ys ∙ and_from _ _ f g

  pub list_all-parts : (p : A → Bool) (xs ys : List A) → list_all p (xs ++ ys) ≡ true → (list_all p xs ≡ true) × (list_all p ys ≡ true)
  list_all-parts p xs ys h = and_parts (list_all p xs) (list_all p ys) (sym (list_all-append p xs ys) ∙ h)

  pub list_all-weaker : (p q : A → Bool) → ((x : A) → p x ≡ true → q x ≡ true) → (xs : List A) → list_all p xs ≡ true → list_all q xs ≡ true
  list_all-weaker p q f [] h = refl
  list_all-weaker p q f (x ∷ xs) h = let both = and_parts (p x) (list_all p xs) h in and_from _ _ (f x both.0) (list_all-weaker p q f xs both.1)

  pub list_all-from_get_or : (p : A → Bool) (xs : List A) (d : A) → ((k : ℕ) → k < length xs → p (get_or xs k d) ≡ true) → list_all p xs ≡ true
  list_all-from_get_or p [] d h = refl
  list_all-from_get_or p (x ∷ xs) d h = and_from _ _ (h 0 (omega arith)) (list_all-from_get_or p xs d (λ k l. h (suc k) (omega arith)))

  total-list_all : (p : A → Bool) (xs : List A) → total both_tests p xs ≡ list_all p xs
  unfolding both_tests
  total-list_all p [] = refl
  total-list_all p (x ∷ xs) = ap (λ b. p x && b) (total-list_all p xs)

  -- A test of every element does not depend on their order.
  pub list_all-IsPermutation : (p : A → Bool) (xs ys : List A) → IsPermutation xs ys → list_all p ys ≡ list_all p xs
  list_all-IsPermutation p xs ys h = sym (total-list_all p ys) ∙ total-IsPermutation both_tests-IsJoining p xs ys h ∙ total-list_all p xs
