-- Names of letters: their tests and their order agree with equality.
use Rattle.std.proofs.Common.{◌≡◌, ◌≢◌, ◌∙◌, ℕ, List, Option, Some, None, length, Bool, true, false, ◌&&◌, ◌==◌, refl, sym, ap, subst, arith, is_eq, nat_cmp, Ordering}
use Rattle.std.specs.Prelude.{Contains, IsSome, is_some}
use Rattle.std.specs.Bool.{Decides}
use Rattle.std.specs.Cmp.{IsEquivalence, tied_then}
use Rattle.std.proofs.lemmas.Bool.{and_parts, eqb-true, eq-eqb, false_from_ne_true}
use Rattle.std.proofs.lemmas.Bool.Decides.{nat_tests}
use Rattle.outside.specs.declared.name.Name.{Name}
use Rattle.outside.specs.Letters.{Letters, IsCountOf, no_letters, same_name, with_letter, without_letter}
use Rattle.outside.specs.contracts.name.NameOrd.TheImpl.{cmp-value}

-- the order of names that their `cmp` computes
abbrev pub name_cmp : Name → Name → Ordering
name_cmp = cmp-value.it

is_eq-nat_cmp : (x y : ℕ) → is_eq (nat_cmp x y) ≡ (x == y)
is_eq-nat_cmp x y = grind (arith, nat_tests)

regrouped : (a b c : Bool) → (a && (b && c)) ≡ ((a && b) && c)
regrouped true b c = refl
regrouped false b c = refl

-- a name ties with itself alone
pub is_eq-name_cmp : (a b : Name) → is_eq (name_cmp a b) ≡ same_name a b
is_eq-name_cmp a b =
    rw (← tied_then (nat_cmp a.phase b.phase) _, ← tied_then (nat_cmp a.from b.from) _, is_eq-nat_cmp a.phase b.phase, is_eq-nat_cmp a.from b.from, is_eq-nat_cmp a.to b.to)
    (regrouped (a.phase == b.phase) (a.from == b.from) (a.to == b.to))

-- two names of one test are one name
pub same_name-is : (a b : Name) → same_name a b ≡ true → a ≡ b
same_name-is a b e =
    let all = and_parts ((a.phase == b.phase) && (a.from == b.from)) (a.to == b.to) e in
    let front = and_parts (a.phase == b.phase) (a.from == b.from) all.0 in
    let phase = eqb-true a.phase b.phase front.0 in
    let from = eqb-true a.from b.from front.1 in
    let to = eqb-true a.to b.to all.1 in
    λ i. record { phase = phase i; from = from i; to = to i }

-- a name is its own
pub same_name-refl : (a : Name) → same_name a a ≡ true
same_name-refl a =
    rw (eq-eqb a.phase a.phase refl, eq-eqb a.from a.from refl, eq-eqb a.to a.to refl)

pub same_name-Decides : (a b : Name) → Decides (same_name a b) (a ≡ b)
same_name-Decides a b = (same_name-is a b, λ e. subst (λ n. same_name a n ≡ true) e (same_name-refl a))

same_answers : (a b : Bool) → (a ≡ true → b ≡ true) → (b ≡ true → a ≡ true) → a ≡ b
same_answers true true f g = refl
same_answers true false f g = sym (f refl)
same_answers false true f g = g refl
same_answers false false f g = refl

-- the test is an equivalence
pub same_name_equiv : IsEquivalence same_name
same_name_equiv = record {
  refl = same_name-refl;
  symm = λ x y. same_answers (same_name x y) (same_name y x)
      (λ t. (same_name-Decides y x).1 (sym (same_name-is x y t)))
      (λ t. (same_name-Decides x y).1 (sym (same_name-is y x t)));
  congr = λ x y z t. ap (λ n. same_name n z) (same_name-is x y t);
}

not_same : (a b : Name) → a ≢ b → same_name a b ≡ false
not_same a b differs = false_from_ne_true (same_name a b) (λ t. differs (same_name-is a b t))

-- What is there after a change at one name: there, and at another name.
module _ (letters : Letters) (name : Name) where
  pub with_letter-same : (bytes : List ℕ) → with_letter letters name bytes name ≡ Some bytes
  with_letter-same bytes = rw (same_name-refl name)

  pub with_letter-other : (bytes : List ℕ) (n : Name) → n ≢ name → with_letter letters name bytes n ≡ letters n
  with_letter-other bytes n differs = rw (not_same name n (λ e. differs (sym e)))

  pub without_letter-same : without_letter letters name name ≡ None
  without_letter-same = rw (same_name-refl name)

  pub without_letter-other : (n : Name) → n ≢ name → without_letter letters name n ≡ letters n
  without_letter-other n differs = rw (not_same name n (λ e. differs (sym e)))

no_member : (names : List Name) (n : Name) → length names ≡ 0 → Contains names n → ⊥
no_member names n none has = absurd (omega arith)

is_none : (o : Option (List ℕ)) → (IsSome o → ⊥) → o ≡ None
is_none None h = refl
is_none (Some x) h = absurd (h refl)

-- where the count of letters is 0, there is none
pub none-count : (letters : Letters) → IsCountOf letters 0 → letters ≡ no_letters
none-count letters count i n =
    is_none (letters n) (λ is. no_member count.names n count.length ((count.exactly n).1 is)) i

-- a name under which a letter was posted has one
pub IsSome-posted : (old new : Letters) (name : Name) (bytes : List ℕ) → new ≡ with_letter old name bytes → IsSome (new name)
IsSome-posted old new name bytes posts = ap (λ f. is_some (f name)) posts ∙ ap is_some (with_letter-same old name bytes)
