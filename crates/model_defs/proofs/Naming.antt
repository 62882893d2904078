-- That texts differ can be computed.
use Rattle.std.proofs.Common.{◌≡◌, ◌<◌, ℕ, zero, suc, Bool, true, false, not, ◌&&◌, ◌==◌, List, [], ◌∷◌, All, length, get_or, refl, ap, sym, ◌∙◌, arith}
use Rattle.std.specs.List.{list_all}
use Rattle.std.proofs.lemmas.Bool.{eq-eqb}
use Rattle.std.proofs.lemmas.List.Elements.{All-nil, All-cons}
use Rattle.model_defs.specs.Naming.{AreApart}
use Rattle.model_defs.proofs.Filters.{both, and, not-true}

abbrev same_text : List ℕ → List ℕ → Bool
same_text [] [] = true
same_text (a ∷ xs) (b ∷ ys) = (a == b) && same_text xs ys
same_text _ _ = false

same_text-self : (t : List ℕ) → same_text t t ≡ true
same_text-self [] = refl
same_text-self (a ∷ xs) = and (a == a) (same_text xs xs) (eq-eqb a a refl) (same_text-self xs)

-- none of the texts is this one, and none of them stands twice
abbrev is_absent : List ℕ → List (List ℕ) → Bool
is_absent t texts = list_all (λ u. not (same_text t u)) texts

abbrev pub are_apart : List (List ℕ) → Bool
are_apart [] = true
are_apart (t ∷ ts) = is_absent t ts && are_apart ts

differs : (t : List ℕ) (ts : List (List ℕ)) (j : ℕ) → is_absent t ts ≡ true → j < length ts → t ≡ get_or ts j [] → ⊥
differs t [] j e l same = absurd (omega arith)
differs t (u ∷ us) zero e l same =
    let differ = not-true (same_text t u) (both (not (same_text t u)) (is_absent t us) e).0 in
    let equal : same_text t u ≡ true = ap (same_text t) (sym same) ∙ same_text-self t in
    cc
differs t (u ∷ us) (suc j) e l same = differs t us j (both (not (same_text t u)) (is_absent t us) e).1 (omega arith) same

pub apart-by : (texts : List (List ℕ)) → are_apart texts ≡ true → AreApart texts
apart-by [] e i j l m same = absurd (omega arith)
apart-by (t ∷ ts) e zero zero l m same = refl
apart-by (t ∷ ts) e zero (suc j) l m same = absurd (differs t ts j (both (is_absent t ts) (are_apart ts) e).0 (omega arith) same)
apart-by (t ∷ ts) e (suc i) zero l m same = absurd (differs t ts i (both (is_absent t ts) (are_apart ts) e).0 (omega arith) (sym same))
apart-by (t ∷ ts) e (suc i) (suc j) l m same = ap suc (apart-by ts (both (is_absent t ts) (are_apart ts) e).1 i j (omega arith) (omega arith) same)

-- what a test says of all elements
pub all-by : {A : Type 0} (p : A → Bool) (xs : List A) → list_all p xs ≡ true → All (λ x. p x ≡ true) xs
all-by p [] e = All-nil (λ x. p x ≡ true)
all-by p (x ∷ xs) e = let t = both (p x) (list_all p xs) e in All-cons (λ x. p x ≡ true) x xs t.0 (all-by p xs t.1)
