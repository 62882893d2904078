-- The list of a column map has each column once.
use Rattle.std.proofs.Common.{◌≡◌, ℕ, zero, suc, ◌+◌, ◌<◌, ◌≤◌, Bool, true, false, ◌||◌, ◌==◌, not, cond, if◌then◌else◌, List, [], ◌∷◌, ◌++◌, map, length, get_or, take, slice_get, Some, nat_eq, inl, inr, refl, sym, ap, ◌∙◌, subst, arith}
use Rattle.std.specs.List.{filter}
use Rattle.std.specs.Cmp.{IsEquivalence}
use Rattle.std.specs.List.Sorted.{IsPermutation}
use Rattle.std.proofs.lemmas.Bool.{cases_Bool, cases_eq, eq-eqb, eqb-true, ne_eqb, or_cases}
use Rattle.std.proofs.lemmas.Bool.Decides.{nat_tests}
use Rattle.std.proofs.lemmas.List.Sorted.{Contains-permutation, IsPermutation-map, IsPermutation-sym}
use Rattle.std.proofs.lemmas.Map.Keys.{IsDistinct-IsPermutation}
use Rattle.std.proofs.lemmas.Map.Made.{length-le_from_is_member}
use Rattle.map_core.specs.Layouts.{stands, AreDistinct}
use Rattle.map_core.proofs.Members.{and_true, AreDistinct-append, AreDistinct-filter, AreDistinct-from_set, AreDistinct-to_set, both_true, stands_back, stands_front, stands-append, stands-filter, stands-list_any}
use Rattle.crs_graph.specs.ColumnMaps.{foreign}
use Rattle.crs_graph.proofs.AllColumns.{same_test, stands-from, stands-to}

-- one more column
foreign_first : (b : Bool) (p : ℕ × ℕ) (xs ys zs : List (ℕ × ℕ)) → xs ≡ ys ++ zs → cond b xs (p ∷ xs) ≡ cond b ys (p ∷ ys) ++ zs
foreign_first true p xs ys zs e = e
foreign_first false p xs ys zs e = ap (λ qs. p ∷ qs) e

foreign_suc : (domain gs os : List ℕ) (i : ℕ) → i < length gs → length os ≡ length gs
    → foreign domain (take (suc i) gs) (take (suc i) os) ≡ foreign domain (take i gs) (take i os) ++ (if stands (get_or gs i 0) domain then [] else (get_or os i 0, get_or gs i 0) ∷ [])
foreign_suc domain [] os i low same = absurd (omega arith)
foreign_suc domain (g ∷ gs) [] i low same = absurd (omega arith)
foreign_suc domain (g ∷ gs) (o ∷ os) zero low same = refl
foreign_suc domain (g ∷ gs) (o ∷ os) (suc i) low same =
    foreign_first (stands g domain) (o, g) (foreign domain (take (suc i) gs) (take (suc i) os)) (foreign domain (take i gs) (take i os))
    (if stands (get_or gs i 0) domain then [] else (get_or os i 0, get_or gs i 0) ∷ [])
    (foreign_suc domain gs os i (omega arith) (omega arith))

pub foreign_more : (domain gs os : List ℕ) (i : ℕ) (b : Bool) → i < length gs → length os ≡ length gs → stands (get_or gs i 0) domain ≡ b
    → foreign domain (take (i + 1) gs) (take (i + 1) os) ≡ foreign domain (take i gs) (take i os) ++ (if b then [] else (get_or os i 0, get_or gs i 0) ∷ [])
foreign_more domain gs os i b low same test =
    let next : i + 1 ≡ suc i = omega arith in
    ap (λ n. foreign domain (take n gs) (take n os)) next
    ∙ foreign_suc domain gs os i low same
    ∙ ap (λ b. foreign domain (take i gs) (take i os) ++ (if b then [] else (get_or os i 0, get_or gs i 0) ∷ [])) test

not_true : (b : Bool) → not b ≡ true → b ≡ false
not_true true h = absurd (cc)
not_true false h = refl

-- the columns that the domain lacks, without their owners
indices_first : (b : Bool) (o g : ℕ) (ps : List (ℕ × ℕ)) (xs : List ℕ) → map (λ x. x.1) ps ≡ xs → map (λ x. x.1) (cond b ps ((o, g) ∷ ps)) ≡ cond (not b) (g ∷ xs) xs
indices_first true o g ps xs e = e
indices_first false o g ps xs e = ap (λ ys. g ∷ ys) e

foreign_indices : (domain gs os : List ℕ) → length os ≡ length gs → map (λ x. x.1) (foreign domain gs os) ≡ filter (λ g. not (stands g domain)) gs
foreign_indices domain [] os same = refl
foreign_indices domain (g ∷ gs) [] same = absurd (omega arith)
foreign_indices domain (g ∷ gs) (o ∷ os) same =
    indices_first (stands g domain) o g (foreign domain gs os) (filter (λ g. not (stands g domain)) gs) (foreign_indices domain gs os (omega arith))

-- lists of the same indices in another order
pub AreDistinct-IsPermutation : (xs ys : List ℕ) → IsPermutation xs ys → AreDistinct xs → AreDistinct ys
AreDistinct-IsPermutation xs ys moved h = AreDistinct-from_set ys (IsDistinct-IsPermutation nat_eq (λ x y. grind (arith, nat_tests)) xs ys moved (AreDistinct-to_set xs h))

pub stands-IsPermutation : (xs ys : List ℕ) (g : ℕ) → IsPermutation xs ys → stands g ys ≡ true → stands g xs ≡ true
stands-IsPermutation xs ys g moved h = stands-from xs g (Contains-permutation ys xs g (IsPermutation-sym xs ys moved) (stands-to ys g h))

nat_eq-laws : IsEquivalence nat_eq
nat_eq-laws = record { refl = λ x. eq-eqb x x refl; symm = λ x y. grind (arith, nat_tests); congr = λ x y z h. ap (λ k. k == z) (eqb-true x y h) }

module _ (domain gs os : List ℕ) (others : List (ℕ × ℕ)) (same : length os ≡ length gs) (moved : IsPermutation (foreign domain gs os) others) where
  indices_moved : IsPermutation (filter (λ g. not (stands g domain)) gs) (map (λ x. x.1) others)
  indices_moved = subst (λ xs. IsPermutation xs (map (λ x. x.1) others)) (foreign_indices domain gs os same) (IsPermutation-map (λ x. x.1) (foreign domain gs os) others moved)

  other_is : (g : ℕ) → stands g (map (λ x. x.1) others) ≡ true → (stands g gs ≡ true) × (not (stands g domain) ≡ true)
  other_is g h = and_true (stands g gs) (not (stands g domain)) (sym (stands-filter g (λ g. not (stands g domain)) gs) ∙ stands-IsPermutation (filter (λ g. not (stands g domain)) gs) (map (λ x. x.1) others) g indices_moved h)

  own_is : (g : ℕ) → stands g (filter (λ g. stands g gs) domain) ≡ true → (stands g domain ≡ true) × (stands g gs ≡ true)
  own_is g h = and_true (stands g domain) (stands g gs) (sym (stands-filter g (λ g. stands g gs) domain) ∙ h)

  -- the list of the column map
  abbrev pub whole : List ℕ
  whole = filter (λ g. stands g gs) domain ++ map (λ x. x.1) others

  pub whole_distinct : AreDistinct domain → AreDistinct gs → AreDistinct whole
  whole_distinct one two =
      AreDistinct-append (filter (λ g. stands g gs) domain) (map (λ x. x.1) others) (AreDistinct-filter (λ g. stands g gs) domain one)
      (AreDistinct-IsPermutation (filter (λ g. not (stands g domain)) gs) (map (λ x. x.1) others) indices_moved (AreDistinct-filter (λ g. not (stands g domain)) gs two))
      (λ g h. elim (cases_Bool (stands g (map (λ x. x.1) others))) [
        | inl on ↦ let off = not_true (stands g domain) (other_is g on).1 in let here = (own_is g h).0 in absurd (cc)
        | inr off ↦ off
      ])

  whole_within : (g : ℕ) → stands g whole ≡ true → stands g gs ≡ true
  whole_within g h = elim (or_cases (stands g (filter (λ g. stands g gs) domain)) (stands g (map (λ x. x.1) others)) (sym (stands-append g (filter (λ g. stands g gs) domain) (map (λ x. x.1) others)) ∙ h)) [
    | inl here ↦ (own_is g here).1
    | inr there ↦ (other_is g there).0
  ]

  whole_has : (g : ℕ) → stands g gs ≡ true → stands g whole ≡ true
  whole_has g h = elim (cases_Bool (stands g domain)) [
    | inl on ↦ stands_front g own foreigners (stands-filter g (λ g. stands g gs) domain ∙ both_true (stands g domain) (stands g gs) on h)
    | inr off ↦
        let lacked = stands-filter g (λ g. not (stands g domain)) gs ∙ both_true (stands g gs) (not (stands g domain)) h (ap not off) in
        stands_back g own foreigners (stands-IsPermutation foreigners (filter (λ g. not (stands g domain)) gs) g (IsPermutation-sym (filter (λ g. not (stands g domain)) gs) foreigners indices_moved) lacked)
  ]
    where
      own : List ℕ
      own = filter (λ g. stands g gs) domain

      foreigners : List ℕ
      foreigners = map (λ x. x.1) others

  -- it has the columns and no others
  pub whole_same : (g : ℕ) → stands g whole ≡ stands g gs
  whole_same g = same_test (stands g whole) (stands g gs) (whole_within g) (whole_has g)

  pub whole_length : AreDistinct domain → AreDistinct gs → length whole ≤ length gs
  whole_length one two =
      length-le_from_is_member nat_eq-laws whole gs (AreDistinct-to_set whole (whole_distinct one two))
      (λ q h. stands-list_any q gs ∙ whole_within q (sym (stands-list_any q whole) ∙ h))

-- in a list of distinct indices none is a repeat
pub no_repeat : (xs : List ℕ) (p g : ℕ) → AreDistinct xs → slice_get xs p ≡ Some g → stands g (take p xs) ≡ false
no_repeat [] p g h at = absurd (cc)
no_repeat (x ∷ xs) zero g h at = refl
no_repeat (x ∷ xs) (suc p) g h at = elim (cases_eq x g) [
  | inl e ↦ let on = stands_later xs p g at in let off : stands g xs ≡ false = ap (λ y. stands y xs) (sym e) ∙ h.0 in absurd (cc)
  | inr e ↦ ap (λ b. b || stands g (take p xs)) (ne_eqb x g e) ∙ no_repeat xs p g h.1 at
]
  where
    stands_later : (xs : List ℕ) (p g : ℕ) → slice_get xs p ≡ Some g → stands g xs ≡ true
    stands_later [] p g at = absurd (cc)
    stands_later (x ∷ xs) zero g at = let same : x ≡ g = cc in ap (λ b. b || stands g xs) (eq-eqb x g same)
    stands_later (x ∷ xs) (suc p) g at = ap (λ b. x == g || b) (stands_later xs p g at) ∙ always (x == g)
      where
        always : (b : Bool) → (b || true) ≡ true
        always true = refl
        always false = refl
