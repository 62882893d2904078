-- The owner of an index is the rank whose list has it.
use Rattle.std.proofs.Common.{◌≡◌, ℕ, zero, suc, ◌+◌, ◌<◌, true, false, if◌then◌else◌, List, [], ◌∷◌, length, get_or, Option, None, Some, IsSome, ◌↔◌, inl, inr, refl, sym, ap, ◌∙◌, arith}
use Rattle.std.specs.List.{concat}
use Rattle.std.proofs.lemmas.Bool.{cases_Bool, or_from}
use Rattle.map_core.specs.Layouts.{stands, AreDistinct, rank_list, owner, owner_from, Layout, IsOneToOne, IsTotal}
use Rattle.map_core.proofs.Members.{stands-append, stands-concat, absent_front, absent_back, AreDistinct-back, apart}

-- the first rank owns what stands in its list
owner_from-here : (a : ℕ) (l : List ℕ) (ls : List (List ℕ)) (g : ℕ) → stands g l ≡ true → owner_from a (l ∷ ls) g ≡ Some a
owner_from-here a l ls g e = ap (λ b. if b then Some a else owner_from (a + 1) ls g) e

owner_from-there : (a : ℕ) (l : List ℕ) (ls : List (List ℕ)) (g : ℕ) → stands g l ≡ false → owner_from a (l ∷ ls) g ≡ owner_from (a + 1) ls g
owner_from-there a l ls g e = ap (λ b. if b then Some a else owner_from (a + 1) ls g) e

-- the owner's list has the index
pub owner_from-has : (a : ℕ) (ls : List (List ℕ)) (g p : ℕ) → owner_from a ls g ≡ Some p → (k : ℕ) × (p ≡ a + k) × (k < length ls) × (stands g (get_or ls k []) ≡ true)
owner_from-has a [] g p h = absurd (cc)
owner_from-has a (l ∷ ls) g p h = elim (cases_Bool (stands g l)) [
  | inl e ↦
      let here : Some a ≡ Some p = sym (owner_from-here a l ls g e) ∙ h in
      let same : a ≡ p = cc in
      (0, omega arith, omega arith, e)
  | inr e ↦
      let m = owner_from-has (a + 1) ls g p (sym (owner_from-there a l ls g e) ∙ h) in
      let at : p ≡ a + 1 + m.0 = m.1 in
      let within : m.0 < length ls = m.2 in
      (suc m.0, omega arith, omega arith, m.3)
]

-- where no index stands in two lists, the rank whose list has it is the owner
pub owner_from-only : (a : ℕ) (ls : List (List ℕ)) (g k : ℕ) → AreDistinct (concat ls) → stands g (get_or ls k []) ≡ true → owner_from a ls g ≡ Some (a + k)
owner_from-only a [] g k distinct h = absurd (cc)
owner_from-only a (l ∷ ls) g zero distinct h = owner_from-here a l ls g h ∙ ap Some (omega arith)
owner_from-only a (l ∷ ls) g (suc k) distinct h = elim (cases_Bool (stands g l)) [
  | inl e ↦
      let off : stands g (concat ls) ≡ false = apart g l (concat ls) distinct e in
      let on : stands g (concat ls) ≡ true = stands-concat g ls k h in
      absurd (cc)
  | inr e ↦
      owner_from-there a l ls g e
      ∙ owner_from-only (a + 1) ls g k (AreDistinct-back l (concat ls) distinct) h
      ∙ ap Some (omega arith)
]

-- an index that stands in no list has no owner
pub owner_from-absent : (a : ℕ) (ls : List (List ℕ)) (g : ℕ) → stands g (concat ls) ≡ false → owner_from a ls g ≡ None
owner_from-absent a [] g h = refl
owner_from-absent a (l ∷ ls) g h =
    owner_from-there a l ls g (absent_front g l (concat ls) h)
    ∙ owner_from-absent (a + 1) ls g (absent_back g l (concat ls) h)

-- an index with no owner stands in no list
pub owner_from-none : (a : ℕ) (ls : List (List ℕ)) (g : ℕ) → owner_from a ls g ≡ None → stands g (concat ls) ≡ false
owner_from-none a [] g h = refl
owner_from-none a (l ∷ ls) g h = elim (cases_Bool (stands g l)) [
  | inl e ↦ let here : Some a ≡ None = sym (owner_from-here a l ls g e) ∙ h in absurd (cc)
  | inr e ↦
      stands-append g l (concat ls)
      ∙ or_from (stands g l) (stands g (concat ls)) e (owner_from-none (a + 1) ls g (sym (owner_from-there a l ls g e) ∙ h))
]

pub owner-has : (m : Layout) (g p : ℕ) → owner m g ≡ Some p → stands g (rank_list m p) ≡ true
owner-has m g p h =
    let k = owner_from-has 0 m.lists g p h in
    let at : p ≡ k.0 = let same : p ≡ 0 + k.0 = k.1 in omega arith in
    ap (λ i. stands g (rank_list m i)) at ∙ k.3

pub owner-below : (m : Layout) (g p : ℕ) → owner m g ≡ Some p → p < length m.lists
owner-below m g p h =
    let k = owner_from-has 0 m.lists g p h in
    let at : p ≡ 0 + k.0 = k.1 in
    let within : k.0 < length m.lists = k.2 in
    omega arith

pub owner-only : (m : Layout) (g p : ℕ) → IsOneToOne m → stands g (rank_list m p) ≡ true → owner m g ≡ Some p
owner-only m g p distinct h = owner_from-only 0 m.lists g p distinct h ∙ ap Some (omega arith)

pub owner-none : (m : Layout) (g : ℕ) → (owner m g ≡ None) ↔ (stands g (concat m.lists) ≡ false)
owner-none m g = (owner_from-none 0 m.lists g, owner_from-absent 0 m.lists g)

pub owner-total : (m : Layout) (g : ℕ) → IsTotal m → g < m.size → IsSome (owner m g)
owner-total m g total h = there (owner m g) refl
  where
    there : (o : Option ℕ) → owner m g ≡ o → IsSome o
    there (Some p) e = refl
    there None e = let off = owner_from-none 0 m.lists g e in let on = total g h in absurd (cc)
