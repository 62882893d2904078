-- Which names stand in a list.
use Rattle.std.proofs.Common.{◌≡◌, ◌∙◌, ◌+◌, ◌≤◌, Bool, true, false, cond, not, ◌&&◌, ◌||◌, List, [], ◌∷◌, ◌++◌, length, refl, sym, ap, subst, arith}
use Rattle.std.specs.List.{filter, list_all, IsDistinct, AllByRecursion}
use Rattle.std.proofs.lemmas.Bool.{and_parts, or_left, or_parts, or_right, false≢true}
use Rattle.std.proofs.lemmas.Map.Views.{any-filter_same}
use Rattle.std.proofs.lemmas.Map.Keys.{IsDistinct-head, IsDistinct-tail, IsDistinct-cons}
use Rattle.outside.specs.declared.name.Name.{Name}
use Rattle.outside.specs.Letters.{same_name}
use Rattle.outside.proofs.Names.{same_name-is, same_name-refl, same_name_equiv}
use Rattle.peers.specs.Protocols.{stands_in}
pub use Rattle.peers.proofs.Members.{stands_in-push}

-- of a name in the list the test holds that holds of all of it
pub all_at : (p : Name → Bool) (names : List Name) (n : Name) → list_all p names ≡ true → stands_in names n ≡ true → p n ≡ true
all_at p [] n all s = absurd (cc)
all_at p (x ∷ xs) n all s = go (same_name n x) refl s (all_at p xs n parts.1)
  where
    parts : (p x ≡ true) × (list_all p xs ≡ true)
    parts = and_parts (p x) (list_all p xs) all

    go : (b : Bool) → same_name n x ≡ b → (b || stands_in xs n) ≡ true → (stands_in xs n ≡ true → p n ≡ true) → p n ≡ true
    go true e s later = subst (λ m. p m ≡ true) (sym (same_name-is n x e)) parts.0
    go false e s later = later s

-- tests that agree on the names of a list
pub all_agree : (p q : Name → Bool) (names : List Name) → ((m : Name) → stands_in names m ≡ true → p m ≡ q m) →
    list_all p names ≡ list_all q names
all_agree p q [] agree = refl
all_agree p q (x ∷ xs) agree =
    ap (λ b. b && list_all p xs) (agree x (or_left (same_name x x) (stands_in xs x) (same_name-refl x)))
    ∙ ap (λ b. q x && b) (all_agree p q xs (λ m s. agree m (or_right (same_name m x) (stands_in xs m) s)))

pub filter_agree_on : (p q : Name → Bool) (names : List Name) → ((m : Name) → stands_in names m ≡ true → p m ≡ q m) →
    filter p names ≡ filter q names
filter_agree_on p q [] agree = refl
filter_agree_on p q (x ∷ xs) agree =
    ap (λ b. cond b (x ∷ filter p xs) (filter p xs)) (agree x (or_left (same_name x x) (stands_in xs x) (same_name-refl x)))
    ∙ ap (λ ys. cond (q x) (x ∷ ys) ys) (filter_agree_on p q xs (λ m s. agree m (or_right (same_name m x) (stands_in xs m) s)))

-- what stands in a filtered list
pub stands_in-filter : (p : Name → Bool) (names : List Name) (n : Name) → stands_in (filter p names) n ≡ (p n && stands_in names n)
stands_in-filter p names n = any-filter_same (same_name n) p (p n) (λ k e. ap p (sym (same_name-is n k e))) names

-- a name and its test, in either order
pub same_name-sym : (a b : Name) → same_name a b ≡ same_name b a
same_name-sym a b = same_name_equiv.symm a b

-- nothing stands in a list that is empty, and a list in which nothing stands is empty
pub empty-from_none : (names : List Name) → ((n : Name) → stands_in names n ≡ false) → names ≡ []
empty-from_none [] none = refl
empty-from_none (x ∷ xs) none =
    let here : stands_in (x ∷ xs) x ≡ true = or_left (same_name x x) (stands_in xs x) (same_name-refl x) in
    absurd (false≢true (sym (none x) ∙ here))

-- a filter keeps nothing where its test holds of nothing in the list
pub filter_none : (p : Name → Bool) (names : List Name) → ((m : Name) → stands_in names m ≡ true → p m ≡ false) → filter p names ≡ []
filter_none p names none = filter_agree_on p (λ m. false) names none ∙ all_out names
  where
    all_out : (xs : List Name) → filter (λ m. false) xs ≡ []
    all_out [] = refl
    all_out (x ∷ xs) = all_out xs

-- names that differ still differ where some are left out
pub IsDistinct-filter : (p : Name → Bool) (names : List Name) → IsDistinct same_name names → IsDistinct same_name (filter p names)
IsDistinct-filter p [] d = d
IsDistinct-filter p (x ∷ xs) d = go (p x) (IsDistinct-filter p xs (IsDistinct-tail same_name x xs d))
  where
    apart : (ys : List Name) → AllByRecursion (λ y. same_name x y ≡ false) ys → AllByRecursion (λ y. same_name x y ≡ false) (filter p ys)
    apart [] h = tt
    apart (y ∷ ys) h = step (p y) (apart ys h.1)
      where
        step : (b : Bool) → AllByRecursion (λ z. same_name x z ≡ false) (filter p ys) →
            AllByRecursion (λ z. same_name x z ≡ false) (cond b (y ∷ filter p ys) (filter p ys))
        step true rest = (h.0, rest)
        step false rest = rest

    go : (b : Bool) → IsDistinct same_name (filter p xs) → IsDistinct same_name (cond b (x ∷ filter p xs) (filter p xs))
    go true rest = IsDistinct-cons same_name x (filter p xs) (apart xs (IsDistinct-head same_name x xs d)) rest
    go false rest = rest

-- the first name of a distinct list does not stand in the rest
pub head_apart : (x : Name) (xs : List Name) (n : Name) → IsDistinct same_name (x ∷ xs) → stands_in xs n ≡ true → same_name n x ≡ false
head_apart x xs n d s = go xs (IsDistinct-head same_name x xs d) s
  where
    go : (ys : List Name) → AllByRecursion (λ y. same_name x y ≡ false) ys → stands_in ys n ≡ true → same_name n x ≡ false
    go [] h s = absurd (cc)
    go (y ∷ ys) h s = here (same_name n y) refl s (go ys h.1)
      where
        here : (b : Bool) → same_name n y ≡ b → (b || stands_in ys n) ≡ true → (stands_in ys n ≡ true → same_name n x ≡ false) →
            same_name n x ≡ false
        here true e s later = same_name-sym n x ∙ ap (same_name x) (same_name-is n y e) ∙ h.0
        here false e s later = later s

-- what holds of each name of a list
pub each_of : (R : Name → Type 0) (names : List Name) → ((n : Name) → stands_in names n ≡ true → R n) → AllByRecursion R names
each_of R [] each = tt
each_of R (x ∷ xs) each =
    (each x (or_left (same_name x x) (stands_in xs x) (same_name-refl x)), each_of R xs (λ m s. each m (or_right (same_name m x) (stands_in xs m) s)))

-- two lists of names that differ, none of the one in the other
pub IsDistinct-append : (names others : List Name) → IsDistinct same_name names → IsDistinct same_name others →
    ((n : Name) → stands_in others n ≡ true → stands_in names n ≡ false) → IsDistinct same_name (names ++ others)
IsDistinct-append [] others d e apart = e
IsDistinct-append (x ∷ xs) others d e apart =
    IsDistinct-cons same_name x (xs ++ others)
    (both xs (IsDistinct-head same_name x xs d)
    (each_of (λ y. same_name x y ≡ false) others (λ n s. same_name-sym x n ∙ (or_parts (same_name n x) (stands_in xs n) (apart n s)).0)))
    (IsDistinct-append xs others (IsDistinct-tail same_name x xs d) e (λ n s. (or_parts (same_name n x) (stands_in xs n) (apart n s)).1))
  where
    both : (ys : List Name) → AllByRecursion (λ y. same_name x y ≡ false) ys → AllByRecursion (λ y. same_name x y ≡ false) others →
        AllByRecursion (λ y. same_name x y ≡ false) (ys ++ others)
    both [] h k = k
    both (y ∷ ys) h k = (h.0, both ys h.1 k)
