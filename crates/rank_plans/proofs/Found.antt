-- Entries that are found by their keys, of which one is changed or a new one is added.
use Rattle.std.proofs.Common.{◌≡◌, ℕ, ◌<◌, ◌≤◌, Bool, true, false, cond, List, [], ◌∷◌, ◌++◌, length, get_or, set, Option, None, Some, inl, inr, refl, sym, ap, subst, ◌∙◌, arith}
use Rattle.std.specs.List.{find, position_or_len, slice_get}
use Rattle.std.specs.Option.{is_some, option_or}
use Rattle.std.proofs.lemmas.List.Folds.{find_at, find-set, find_past, find-append}
use Rattle.std.proofs.lemmas.List.Sums.{passes_at_first}
use Rattle.std.proofs.lemmas.Option.{slice_get-get_or, slice_get_past}
use Rattle.std.proofs.lemmas.Bool.{cases_lt}

-- the place at which an entry is found
pub place-within : {A : Type 0} (p : A → Bool) (xs : List A) → is_some (find p xs) ≡ true → position_or_len p xs < length xs
place-within p xs e = elim (cases_lt (position_or_len p xs) (length xs)) [
  | inl low ↦ low
  | inr high ↦ let none = ap is_some (find_at p xs ∙ slice_get_past xs (position_or_len p xs) high) in absurd (let bad : ⊥ = cc in bad)
]

-- and the other way round
pub within-found : {A : Type 0} (p : A → Bool) (xs : List A) → position_or_len p xs < length xs → is_some (find p xs) ≡ true
within-found p [] low = absurd (let bad : ⊥ = omega arith in bad)
within-found p (x ∷ xs) low = ap is_some (find_at p (x ∷ xs) ∙ slice_get-get_or (x ∷ xs) (position_or_len p (x ∷ xs)) x low)

pub past-none : {A : Type 0} (p : A → Bool) (xs : List A) → length xs ≤ position_or_len p xs → find p xs ≡ None
past-none p xs high = find_at p xs ∙ slice_get_past xs (position_or_len p xs) high

module _ {A K : Type 0} (key : A → K) (same : K → K → Bool) (same_is : (a b : K) → same a b ≡ true → a ≡ b) (itself : (a : K) → same a a ≡ true) where
  -- the entry of a key stands at this place
  pub record IsFound (xs : List A) (k : K) (place : ℕ) (x : A) : Type 0 where
    pub place_is : place ≡ position_or_len (λ y. same k (key y)) xs
    pub within : place < length xs
    pub entry : get_or xs place x ≡ x
    pub key_is : k ≡ key x
    pub found : find (λ y. same k (key y)) xs ≡ Some x

  pub found-at : (xs : List A) (k : K) (place : ℕ) (x d : A) → place ≡ position_or_len (λ y. same k (key y)) xs → is_some (find (λ y. same k (key y)) xs) ≡ true
      → get_or xs place d ≡ x → IsFound xs k place x
  found-at xs k place x d at there entry =
      let first : position_or_len (λ y. same k (key y)) xs < length xs = place-within (λ y. same k (key y)) xs there in
      let low : place < length xs = subst (λ n. n < length xs) (sym at) first in
      let is : slice_get xs place ≡ Some x = slice_get-get_or xs place d low ∙ ap Some entry in
      let again : Some (get_or xs place x) ≡ Some x = sym (slice_get-get_or xs place x low) ∙ is in
      let passes : same k (key (get_or xs place x)) ≡ true = subst (λ n. same k (key (get_or xs n x)) ≡ true) (sym at) (passes_at_first (λ y. same k (key y)) xs x first) in
      record {
        place_is = at;
        within = low;
        entry = cc;
        key_is = same_is k (key x) (subst (λ y. same k (key y) ≡ true) (let e : get_or xs place x ≡ x = cc in e) passes);
        found = find_at (λ y. same k (key y)) xs ∙ ap (slice_get xs) (sym at) ∙ is;
      }

  -- a change of this entry, of the same key
  pub find-put : (xs : List A) (k : K) (place : ℕ) (x y : A) → IsFound xs k place x → key y ≡ key x → find (λ z. same k (key z)) (set xs place y) ≡ Some y
  find-put xs k place x y h e = find-set (λ z. same k (key z)) xs place y h.place_is h.within (subst (λ l. same k l ≡ true) (h.key_is ∙ sym e) (itself k))

  pub find-apart : (xs : List A) (k : K) (place : ℕ) (x y : A) → IsFound xs k place x → key y ≡ key x → (o : K) → same o k ≡ false
      → find (λ z. same o (key z)) (set xs place y) ≡ find (λ z. same o (key z)) xs
  find-apart xs k place x y h e o off =
      let there : same o (key x) ≡ false = subst (λ l. same o l ≡ false) h.key_is off in
      find_past (λ z. same o (key z)) xs place y x (subst (λ z. same o (key z) ≡ false) (sym h.entry) there) (subst (λ l. same o l ≡ false) (sym e) there)

  -- what is said of an entry stays, if the change leaves it
  pub find-stays : {X : Type 0} (f : Option A → X) (xs : List A) (k : K) (place : ℕ) (x y : A) → IsFound xs k place x → key y ≡ key x → f (Some y) ≡ f (Some x)
      → (o : K) → f (find (λ z. same o (key z)) (set xs place y)) ≡ f (find (λ z. same o (key z)) xs)
  find-stays f xs k place x y h e says o = go (same o k) refl
    where
      go : (b : Bool) → same o k ≡ b → f (find (λ z. same o (key z)) (set xs place y)) ≡ f (find (λ z. same o (key z)) xs)
      go true is =
          subst (λ l. f (find (λ z. same l (key z)) (set xs place y)) ≡ f (find (λ z. same l (key z)) xs)) (sym (same_is o k is))
          (ap f (find-put xs k place x y h e) ∙ says ∙ sym (ap f h.found))
      go false off = ap f (find-apart xs k place x y h e o off)

  -- a new entry, of a key that had none
  pub find-new : (xs : List A) (y : A) → is_some (find (λ z. same (key y) (key z)) xs) ≡ false → find (λ z. same (key y) (key z)) (xs ++ y ∷ []) ≡ Some y
  find-new xs y none =
      find-append (λ z. same (key y) (key z)) xs (y ∷ [])
      ∙ ap (λ o. option_or o (find (λ z. same (key y) (key z)) (y ∷ []))) (empty (find (λ z. same (key y) (key z)) xs) none)
      ∙ ap (λ b. cond b (Some y) None) (itself (key y))
    where
      empty : (o : Option A) → is_some o ≡ false → o ≡ None
      empty None e = refl
      empty (Some z) e = cc

  pub find-old : (xs : List A) (y : A) (o : K) → same o (key y) ≡ false → find (λ z. same o (key z)) (xs ++ y ∷ []) ≡ find (λ z. same o (key z)) xs
  find-old xs y o off =
      find-append (λ z. same o (key z)) xs (y ∷ [])
      ∙ ap (λ b. option_or (find (λ z. same o (key z)) xs) (cond b (Some y) None)) off
      ∙ either (find (λ z. same o (key z)) xs)
    where
      either : (r : Option A) → option_or r None ≡ r
      either None = refl
      either (Some z) = refl
