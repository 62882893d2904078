-- Entries, and what is found in them.
use Rattle.std.proofs.Common.{◌≡◌, ℕ, suc, ◌<◌, Bool, true, false, ◌||◌, ◌==◌, ◌⊎◌, cond, List, [], ◌∷◌, ◌++◌, Option, None, Some, length, get_or, nat_eq, inl, inr, refl, sym, ap, ◌∙◌, arith}
use Rattle.std.specs.Option.{is_some}
use Rattle.std.proofs.lemmas.Bool.{cases_Bool, eqb-true, or_cases, or_from}
use Rattle.std.proofs.lemmas.Bool.Decides.{nat_tests}
use Rattle.map_core.specs.Layouts.{owner, stands, AreDistinct}
use Rattle.map_core.proofs.Members.{stands-append, AreDistinct-append}
use Rattle.std.specs.List.{All}
use Rattle.map_core.specs.Homes.{is_home}
use Rattle.map_core.specs.Uniform.{uniform_layout}
use Rattle.map_core.proofs.Homes.{home}
use Rattle.directory.specs.Directories.{entered, found_in, AreNew, IsDirectory}

eqb_comm : (a b : ℕ) → nat_eq a b ≡ (b == a)
eqb_comm a b = grind (arith, nat_tests)

pub found-entered : (g p : ℕ) (xs : List ℕ) → found_in (entered p xs) g ≡ cond (stands g xs) (Some p) None
found-entered g p [] = refl
found-entered g p (x ∷ xs) =
    ap (λ b. cond b (Some p) (found_in (entered p xs) g)) (eqb_comm g x)
    ∙ ap (λ o. cond (x == g) (Some p) o) (found-entered g p xs)
    ∙ both (x == g) (stands g xs)
  where
    both : (a b : Bool) → cond a (Some p) (cond b (Some p) None) ≡ cond (a || b) (Some p) None
    both true b = refl
    both false b = refl

pub found-append : (g : ℕ) (es fs : List (ℕ × ℕ)) → found_in (es ++ fs) g ≡ cond (is_some (found_in es g)) (found_in es g) (found_in fs g)
found-append g [] fs = refl
found-append g (e ∷ es) fs = elim (cases_Bool (nat_eq g e.0)) [
  | inl here ↦
      ap (λ b. cond b (Some e.1) (found_in (es ++ fs) g)) here
      ∙ sym (ap (λ b. cond (is_some (cond b (Some e.1) (found_in es g))) (cond b (Some e.1) (found_in es g)) (found_in fs g)) here)
  | inr other ↦
      ap (λ b. cond b (Some e.1) (found_in (es ++ fs) g)) other
      ∙ found-append g es fs
      ∙ sym (ap (λ b. cond (is_some (cond b (Some e.1) (found_in es g))) (cond b (Some e.1) (found_in es g)) (found_in fs g)) other)
]

-- whether an index is among the entries or those that follow
pub is_some-found : (g p : ℕ) (es : List (ℕ × ℕ)) (xs : List ℕ) → is_some (found_in (es ++ entered p xs) g) ≡ (is_some (found_in es g) || stands g xs)
is_some-found g p es xs = ap is_some (found-append g es (entered p xs)) ∙ ap (λ o. is_some (cond (is_some (found_in es g)) (found_in es g) o)) (found-entered g p xs) ∙ either (found_in es g) (stands g xs)
  where
    either : (o : Option ℕ) (b : Bool) → is_some (cond (is_some o) o (cond b (Some p) None)) ≡ (is_some o || b)
    either (Some q) b = refl
    either None true = refl
    either None false = refl

-- the owners after new indices were entered
pub found-after : (g p : ℕ) (es : List (ℕ × ℕ)) (xs : List ℕ) → AreNew (found_in es) xs → found_in (es ++ entered p xs) g ≡ cond (stands g xs) (Some p) (found_in es g)
found-after g p es xs fresh = found-append g es (entered p xs) ∙ ap (λ o. cond (is_some (found_in es g)) (found_in es g) o) (found-entered g p xs) ∙ elim (cases_Bool (stands g xs)) [
  | inl on ↦
      let none : found_in es g ≡ None = fresh.unknown g on in
      ap (λ o. cond (is_some o) o (cond (stands g xs) (Some p) None)) none
      ∙ ap (λ b. cond b (Some p) None) on
      ∙ sym (ap (λ b. cond b (Some p) (found_in es g)) on)
  | inr off ↦
      ap (λ b. cond (is_some (found_in es g)) (found_in es g) (cond b (Some p) None)) off
      ∙ same (found_in es g)
      ∙ sym (ap (λ b. cond b (Some p) (found_in es g)) off)
]
  where
    same : (o : Option ℕ) → cond (is_some o) o None ≡ o
    same (Some q) = refl
    same None = refl

-- one new index more
pub AreNew-push : (known : ℕ → Option ℕ) (xs : List ℕ) (x : ℕ) → AreNew known xs → (is_some (known x) || stands x xs) ≡ false → AreNew known (xs ++ x ∷ [])
AreNew-push known xs x fresh h = record { distinct = distinct; unknown = unknown }
  where
    neither : (o : Option ℕ) (b : Bool) → (is_some o || b) ≡ false → (o ≡ None) × (b ≡ false)
    neither (Some q) b e = absurd (cc)
    neither None b e = (refl, e)

    at_front : (g : ℕ) → stands g xs ≡ true → stands g (x ∷ []) ≡ false
    at_front g on = elim (cases_Bool (x == g)) [
      | inl here ↦
          let same : x ≡ g = eqb-true x g here in
          let off : stands g xs ≡ false = ap (λ y. stands y xs) (sym same) ∙ (neither (known x) (stands x xs) h).1 in
          absurd (cc)
      | inr other ↦ or_from (x == g) false other refl
    ]

    distinct : AreDistinct (xs ++ x ∷ [])
    distinct = AreDistinct-append xs (x ∷ []) fresh.distinct (refl, tt) at_front

    unknown : (g : ℕ) → stands g (xs ++ x ∷ []) ≡ true → known g ≡ None
    unknown g on = elim (or_cases (stands g xs) (stands g (x ∷ [])) (sym (stands-append g xs (x ∷ [])) ∙ on)) [
      | inl front ↦ fresh.unknown g front
      | inr last ↦ elim (or_cases (x == g) false last) [
        | inl here ↦ ap known (sym (eqb-true x g here)) ∙ (neither (known x) (stands x xs) h).0
        | inr never ↦ absurd (cc)
      ]
    ]

-- what stands in a list has a place there
pub record IsPlaced (g : ℕ) (xs : List ℕ) : Type 0 where
  pub place : ℕ
  pub within : place < length xs
  pub at : get_or xs place 0 ≡ g

pub placed : (g : ℕ) (xs : List ℕ) → stands g xs ≡ true → IsPlaced g xs
placed g [] h = absurd (cc)
placed g (x ∷ xs) h = elim (or_cases (x == g) (stands g xs) h) [
  | inl here ↦ record { place = 0; within = omega arith; at = eqb-true x g here }
  | inr there ↦
      let rest = placed g xs there in
      let within = rest.within in
      record { place = suc rest.place; within = omega arith; at = rest.at }
]

-- a directory after new indices of its home were entered
pub directory_after : (me ranks size : ℕ) (es : List (ℕ × ℕ)) (from : ℕ) (gids : List ℕ)
    → IsDirectory (record { me = me; ranks = ranks; size = size; entries = es }) → AreNew (found_in es) gids → from < ranks → All (λ g. is_home ranks size me g ≡ true) gids
    → IsDirectory (record { me = me; ranks = ranks; size = size; entries = es ++ entered from gids })
directory_after me ranks size es from gids was fresh known home = record {
  some_rank = was.some_rank;
  ranks_limit = was.ranks_limit;
  own_rank = was.own_rank;
  size_limit = was.size_limit;
  ranks_below = λ g p h. below g p (cases_Bool (stands g gids)) (sym (found-after g from es gids fresh) ∙ h);
  home = λ g p h. homes g p (cases_Bool (stands g gids)) (sym (found-after g from es gids fresh) ∙ h);
}
  where
    below : (g p : ℕ) → (stands g gids ≡ true) ⊎ (stands g gids ≡ false) → cond (stands g gids) (Some from) (found_in es g) ≡ Some p → p < ranks
    below g p (inl on) h =
        let own : Some from ≡ Some p = sym (ap (λ b. cond b (Some from) (found_in es g)) on) ∙ h in
        let same : from ≡ p = cc in
        omega arith
    below g p (inr off) h = was.ranks_below g p (sym (ap (λ b. cond b (Some from) (found_in es g)) off) ∙ h)

    homes : (g p : ℕ) → (stands g gids ≡ true) ⊎ (stands g gids ≡ false) → cond (stands g gids) (Some from) (found_in es g) ≡ Some p → is_home ranks size me g ≡ true
    homes g p (inl on) h =
        let at = placed g gids on in
        ap (is_home ranks size me) (sym at.at) ∙ home at.place 0 at.within
    homes g p (inr off) h = was.home g p (sym (ap (λ b. cond b (Some from) (found_in es g)) off) ∙ h)

pub none_of : (o : Option ℕ) → is_some o ≡ false → o ≡ None
none_of (Some p) h = absurd (cc)
none_of None h = refl

-- the rank that would own an index in the uniform layout is its home, and no other is
pub own_home : (P n g h : ℕ) → h < P → owner (uniform_layout P n) g ≡ Some h → is_home P n h g ≡ true
own_home P n g h known own = (home P n h g known).1 own

pub other_home : (P n g h t : ℕ) → t < P → owner (uniform_layout P n) g ≡ Some h → (h ≡ t → ⊥) → is_home P n t g ≡ false
other_home P n g h t known own other = elim (cases_Bool (is_home P n t g)) [
  | inl on ↦
      let both : Some h ≡ Some t = sym own ∙ (home P n t g known).0 on in
      let same : h ≡ t = cc in
      absurd (other same)
  | inr off ↦ off
]
