-- The place of an index in a list of distinct indices.
use Rattle.std.proofs.Common.{◌≡◌, ◌<◌, ◌↔◌, ℕ, zero, suc, true, false, List, [], ◌∷◌, length, get_or, Option, None, Some, nat_eq, nat_lt, inl, inr, refl, sym, ap, ◌∙◌, arith}
use Rattle.std.specs.List.{position_or_len}
use Rattle.std.proofs.lemmas.Bool.{cases_Bool, eqb-true}
use Rattle.std.proofs.lemmas.Bool.Decides.{nat_tests}
use Rattle.std.proofs.lemmas.List.Folds.{list_any_at}
use Rattle.std.proofs.lemmas.List.Quantifiers.{position-Some}
use Rattle.std.proofs.lemmas.Option.{get_or_from_slice_get, slice_get-get_or, slice_get_within}
use Rattle.map_core.specs.Layouts.{stands, AreDistinct, local_index, global_index}
use Rattle.map_core.proofs.Members.{stands-list_any}

-- the first place of what stands at l is l
pub first_place : (xs : List ℕ) (l g : ℕ) → AreDistinct xs → l < length xs → get_or xs l 0 ≡ g → position_or_len (nat_eq g) xs ≡ l
first_place [] l g distinct within at = absurd (omega arith)
first_place (x ∷ xs) zero g distinct within at = let same : nat_eq g x ≡ true = grind (arith, nat_tests) in rw same
first_place (x ∷ xs) (suc l) g distinct within at =
    let same : nat_eq g (get_or xs l 0) ≡ true = grind (arith, nat_tests) in
    let later : stands g xs ≡ true = sym (stands-list_any g xs) ∙ list_any_at (nat_eq g) xs l 0 (omega arith) same in
    let other : nat_eq g x ≡ false = elim (cases_Bool (nat_eq g x)) [
      | inl e ↦
          let same : g ≡ x = eqb-true g x e in
          let here : stands x xs ≡ true = ap (λ y. stands y xs) (sym same) ∙ later in
          let none : stands x xs ≡ false = distinct.0 in
          absurd (cc)
      | inr e ↦ e
    ] in
    let rest : position_or_len (nat_eq g) xs ≡ l = first_place xs l g distinct.1 (omega arith) at in
    rw other (rw rest (omega arith))

pub local_index-from : (xs : List ℕ) (g l : ℕ) → AreDistinct xs → global_index xs l ≡ Some g → local_index xs g ≡ Some l
local_index-from xs g l distinct there =
    let within : l < length xs = slice_get_within xs l g there in
    let at : position_or_len (nat_eq g) xs ≡ l = first_place xs l g distinct within (get_or_from_slice_get xs l g 0 there) in
    let low : nat_lt l (length xs) ≡ true = grind (arith, nat_tests) in
    rw (at, low)

pub global_index-from : (xs : List ℕ) (g l : ℕ) → local_index xs g ≡ Some l → global_index xs l ≡ Some g
global_index-from xs g l there =
    let place = position-Some (nat_eq g) xs l 0 there in
    let same : get_or xs l 0 ≡ g = grind (arith, nat_tests, place.1) in
    slice_get-get_or xs l 0 place.0 ∙ ap (λ x. Some x) same

pub inverse : (xs : List ℕ) (g l : ℕ) → AreDistinct xs → (local_index xs g ≡ Some l) ↔ (global_index xs l ≡ Some g)
inverse xs g l distinct = (global_index-from xs g l, local_index-from xs g l distinct)

-- an index that does not stand in the list has no local index
pub local_index-absent : (xs : List ℕ) (g : ℕ) → stands g xs ≡ false → local_index xs g ≡ None
local_index-absent xs g h = none (local_index xs g) refl
  where
    none : (o : Option ℕ) → local_index xs g ≡ o → local_index xs g ≡ None
    none None e = e
    none (Some l) e =
        let place = position-Some (nat_eq g) xs l 0 e in
        let there : stands g xs ≡ true = sym (stands-list_any g xs) ∙ list_any_at (nat_eq g) xs l 0 place.0 place.1 in
        absurd (cc)
