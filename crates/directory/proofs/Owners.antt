-- Registrations of all ranks give the owners of a layout.
use Rattle.std.proofs.Common.{◌≡◌, ℕ, ◌<◌, Bool, true, false, ◌&&◌, ◌==◌, cond, List, [], ◌∷◌, Option, None, Some, length, inl, inr, refl, sym, ap, ◌∙◌}
use Rattle.std.specs.List.{concat}
use Rattle.std.proofs.lemmas.Bool.{cases_Bool, eqb-true, or_cases}
use Rattle.map_core.specs.Layouts.{stands, rank_list, owner, Layout, IsOneToOne}
use Rattle.map_core.specs.Homes.{homed, is_home}
use Rattle.map_core.proofs.Members.{stands-concat, stands-filter}
use Rattle.map_core.proofs.Owners.{owner-below, owner-has, owner-none, owner-only}
use Rattle.directory.specs.Registrations.{registered_by, registrations}

-- an index of the home is in a rank's registration exactly where it is in its list
at_home : (m : Layout) (P h p g : ℕ) → is_home P m.size h g ≡ true → stands g (homed P m.size h (rank_list m p)) ≡ stands g (rank_list m p)
at_home m P h p g home = stands-filter g (is_home P m.size h) (rank_list m p) ∙ ap (λ b. stands g (rank_list m p) && b) home ∙ and_true_right (stands g (rank_list m p))
  where
    and_true_right : (b : Bool) → (b && true) ≡ b
    and_true_right true = refl
    and_true_right false = refl

pub elsewhere : (m : Layout) (P h : ℕ) (ranks : List ℕ) (g : ℕ) → is_home P m.size h g ≡ false → registered_by (registrations m P h ranks) g ≡ None
elsewhere m P h [] g off = refl
elsewhere m P h (p ∷ ranks) g off =
    ap (λ b. cond b (Some p) (registered_by (registrations m P h ranks) g)) (stands-filter g (is_home P m.size h) (rank_list m p) ∙ ap (λ b. stands g (rank_list m p) && b) off ∙ and_false (stands g (rank_list m p)))
    ∙ elsewhere m P h ranks g off
  where
    and_false : (b : Bool) → (b && false) ≡ false
    and_false true = refl
    and_false false = refl

-- no rank has it
none_registered : (m : Layout) (P h : ℕ) (ranks : List ℕ) (g : ℕ) → is_home P m.size h g ≡ true → stands g (concat m.lists) ≡ false → registered_by (registrations m P h ranks) g ≡ None
none_registered m P h [] g home off = refl
none_registered m P h (p ∷ ranks) g home off = elim (cases_Bool (stands g (rank_list m p))) [
  | inl on ↦ let there : stands g (concat m.lists) ≡ true = stands-concat g m.lists p on in absurd (cc)
  | inr not_here ↦
      ap (λ b. cond b (Some p) (registered_by (registrations m P h ranks) g)) (at_home m P h p g home ∙ not_here)
      ∙ none_registered m P h ranks g home off
]

-- only rank q has it, and it registered
one_registered : (m : Layout) (P h q : ℕ) (ranks : List ℕ) (g : ℕ) → IsOneToOne m → is_home P m.size h g ≡ true → owner m g ≡ Some q → stands q ranks ≡ true
    → registered_by (registrations m P h ranks) g ≡ Some q
one_registered m P h q [] g distinct home own known = absurd (cc)
one_registered m P h q (p ∷ ranks) g distinct home own known = elim (cases_Bool (stands g (rank_list m p))) [
  | inl on ↦
      let owns : owner m g ≡ Some p = owner-only m g p distinct on in
      ap (λ b. cond b (Some p) (registered_by (registrations m P h ranks) g)) (at_home m P h p g home ∙ on) ∙ sym owns ∙ own
  | inr off ↦
      ap (λ b. cond b (Some p) (registered_by (registrations m P h ranks) g)) (at_home m P h p g home ∙ off)
      ∙ elim (or_cases (p == q) (stands q ranks) known) [
        | inl here ↦
            let same : p ≡ q = eqb-true p q here in
            let on : stands g (rank_list m p) ≡ true = ap (λ r. stands g (rank_list m r)) same ∙ owner-has m g q own in
            absurd (cc)
        | inr there ↦ one_registered m P h q ranks g distinct home own there
      ]
]

pub all_registered : (m : Layout) (P h : ℕ) (ranks : List ℕ) (g : ℕ) → IsOneToOne m → ((p : ℕ) → p < length m.lists → stands p ranks ≡ true) → is_home P m.size h g ≡ true
    → registered_by (registrations m P h ranks) g ≡ owner m g
all_registered m P h ranks g distinct every home = by (owner m g) refl
  where
    by : (o : Option ℕ) → owner m g ≡ o → registered_by (registrations m P h ranks) g ≡ owner m g
    by None own = none_registered m P h ranks g home ((owner-none m g).0 own) ∙ sym own
    by (Some q) own = one_registered m P h q ranks g distinct home own (every q (owner-below m g q own)) ∙ sym own
