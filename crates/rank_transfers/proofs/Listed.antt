-- Positions of indices in lists.
use Rattle.std.proofs.Common.{◌≡◌, ℕ, zero, suc, ◌≤◌, Bool, true, false, ◌||◌, eqb, ltb, nat_le, List, [], ◌∷◌, ◌++◌, length, get_or, refl, sym, ap, subst, ◌∙◌, arith}
use Rattle.std.specs.List.{range_with_len}
use Rattle.std.proofs.lemmas.Bool.{eqb-true, eq-eqb, ltb-true}
use Rattle.std.proofs.lemmas.Bool.Decides.{nat_tests}
use Rattle.tables.specs.Indices.{stands, AreDistinct, AreBelow, count_from}
use Rattle.tables.proofs.Counting.{stands-within}
use Rattle.map_core.specs.Classes.{index_at, indices_at, is_permuted, permuted, place, places, same_count}
use Rattle.map_core.proofs.Accepted.{ArePlaced, placed}
use Rattle.map_core.proofs.Classes.{stands-index_at}
use Rattle.map_core.proofs.Members.{stands-append, stands-filter}
use Rattle.map_core.proofs.Runs.{stands_in_run}
use Rattle.model_defs.proofs.Filters.{and, later}

-- indices that stand in a list are at their places
pub all-placed : (xs gs : List ℕ) → ((g : ℕ) → stands g gs ≡ true → stands g xs ≡ true) → ArePlaced xs gs
all-placed xs [] h = record { below = tt; indices = refl }
all-placed xs (g ∷ gs) h =
    let here = placed xs g (h g (ap (λ b. b || stands g gs) (eq-eqb g g refl))) in
    let rest = all-placed xs gs (λ x e. h x (later (eqb g x) (stands x gs) e)) in
    record { below = (here.within, rest.below); indices = λ t. here.index t ∷ rest.indices t }

-- the index of a position that stands among others stands among theirs
pub stands-indices : (xs : List ℕ) (f : ℕ) (fs : List ℕ) → stands f fs ≡ true → stands (index_at xs f) (indices_at xs fs) ≡ true
stands-indices xs f [] h = absurd (let bad : ⊥ = cc in bad)
stands-indices xs f (a ∷ more) h = by (eqb a f) refl (stands-indices xs f more) h
  where
    by : (b : Bool) → eqb a f ≡ b → (stands f more ≡ true → stands (index_at xs f) (indices_at xs more) ≡ true) → (b || stands f more) ≡ true
        → (eqb (index_at xs a) (index_at xs f) || stands (index_at xs f) (indices_at xs more)) ≡ true
    by true e rest h = ap (λ b. b || stands (index_at xs f) (indices_at xs more)) (eq-eqb (index_at xs a) (index_at xs f) (ap (index_at xs) (eqb-true a f e)))
    by false e rest h = later (eqb (index_at xs a) (index_at xs f)) (stands (index_at xs f) (indices_at xs more)) (rest h)

pub distinct-positions : (xs froms : List ℕ) → AreDistinct (indices_at xs froms) → AreDistinct froms
distinct-positions xs [] h = tt
distinct-positions xs (f ∷ fs) h = (by (stands f fs) refl, distinct-positions xs fs h.1)
  where
    by : (b : Bool) → stands f fs ≡ b → stands f fs ≡ false
    by true e = let both : true ≡ false = sym (stands-indices xs f fs e) ∙ h.0 in absurd (let bad : ⊥ = cc in bad)
    by false e = e

-- distinct indices have distinct places
pub distinct-places : (xs gs : List ℕ) → ArePlaced xs gs → AreDistinct gs → AreDistinct (places xs gs)
distinct-places xs gs are d =
    let P : List ℕ → Type 0 = AreDistinct in
    distinct-positions xs (places xs gs) (subst P (sym are.indices) d)

-- what stands among the indices of positions of a list stands in the list
pub in-list : (xs : List ℕ) (g : ℕ) (fs : List ℕ) → AreBelow (length xs) fs → stands g (indices_at xs fs) ≡ true → stands g xs ≡ true
in-list xs g [] b h = absurd (let bad : ⊥ = cc in bad)
in-list xs g (f ∷ fs) b h = by (eqb (index_at xs f) g) refl (in-list xs g fs b.1) h
  where
    by : (c : Bool) → eqb (index_at xs f) g ≡ c → (stands g (indices_at xs fs) ≡ true → stands g xs ≡ true) → (c || stands g (indices_at xs fs)) ≡ true → stands g xs ≡ true
    by true e rest h = ap (λ x. stands x xs) (sym (eqb-true (index_at xs f) g e)) ∙ stands-index_at xs f b.0
    by false e rest h = rest h

-- an index of both lists is the same or permuted
pub both-kept : (held parted : List ℕ) (g : ℕ) → stands g held ≡ true → stands g parted ≡ true
    → stands g (indices_at parted (count_from 0 (same_count held parted) ++ permuted held parted)) ≡ true
both-kept held parted g in-held in-parted =
    ap (λ x. stands x (indices_at parted ls)) (sym (placed parted g in-parted).index)
    ∙ stands-indices parted l ls (stands-append l (count_from 0 n) (permuted held parted) ∙ by (ltb l n) refl)
  where
    n : ℕ
    n = same_count held parted

    l : ℕ
    l = place parted g

    ls : List ℕ
    ls = count_from 0 n ++ permuted held parted

    at : stands (index_at parted l) held ≡ true
    at = ap (λ x. stands x held) (placed parted g in-parted).index ∙ in-held

    by : (b : Bool) → ltb l n ≡ b → (stands l (count_from 0 n) || stands l (permuted held parted)) ≡ true
    by true e =
        let low = ltb-true l n e in
        ap (λ b. b || stands l (permuted held parted)) (stands-within 0 n l (omega arith) (omega (arith, low)))
    by false e =
        let past : nat_le n l ≡ true = grind (arith, nat_tests) in
        later (stands l (count_from 0 n)) (stands l (permuted held parted))
        (stands-filter l (is_permuted held parted) (range_with_len 0 (length parted))
        ∙ and (stands l (range_with_len 0 (length parted))) (is_permuted held parted l)
        (stands_in_run l 0 (length parted) (omega arith) (omega (arith, (placed parted g in-parted).within)))
        (and (nat_le n l) (stands (index_at parted l) held) past at))

-- two tests that imply each other
pub same-test : (a b : Bool) → (a ≡ true → b ≡ true) → (b ≡ true → a ≡ true) → a ≡ b
same-test true b f g = sym (f refl)
same-test false true f g = g refl
same-test false false f g = refl

pub beyond-list : {A : Type 0} (xs : List (List A)) (q : ℕ) → length xs ≤ q → get_or xs q [] ≡ []
beyond-list [] q l = refl
beyond-list (x ∷ xs) zero l = absurd (omega (arith, l))
beyond-list (x ∷ xs) (suc q) l = beyond-list xs q (omega (arith, l))
