-- Lists of a layout that are sound, and their faults.
use Rattle.std.proofs.Common.{◌≡◌, ◌==◌, ◌<◌, ◌≤◌, ℕ, zero, suc, Bool, true, false, ◌&&◌, ◌||◌, nat_lt, List, [], ◌∷◌, length, take, get_or, slice_get, Some, refl, ap, sym, ◌∙◌, subst, arith, inl, inr}
use Rattle.std.proofs.lemmas.Bool.{cases_Bool, and_parts, false≢true}
use Rattle.std.proofs.lemmas.Bool.Decides.{Decides-ltb, nat_tests}
use Rattle.std.specs.List.{list_all}
use Rattle.map_core.specs.Layouts.{Layout, IsLayout, rank_list, stands, AreDistinct}
use Rattle.map_core.specs.Faults.{IsMapFaultOf, IsRepeatIn, IsOutsideIn}
use Rattle.map_core.specs.declared.faults.MapFault.{MapFault}
use Rattle.map_core.specs.declared.faults.MapFault.TheVariants.{Repeated, OutOfSize, NoMem}
use Rattle.job_text.specs.Layouts.{are_distinct, is_sound_list, are_sound_lists}
use Rattle.job_text.proofs.LayoutTests.{both, distinct_decides, stand_all, all_stand}

sound_list : (size : ℕ) (xs : List ℕ) → AreDistinct xs → ((g : ℕ) → stands g xs ≡ true → g < size) → is_sound_list size xs ≡ true
sound_list size xs distinct below = both _ _ ((distinct_decides xs).1 distinct) (stand_all (λ g. nat_lt g size) xs (λ g s. (Decides-ltb g size).1 (below g s)))

sound_each : (size : ℕ) (ls : List (List ℕ)) → ((p : ℕ) → AreDistinct (get_or ls p [])) → ((p g : ℕ) → stands g (get_or ls p []) ≡ true → g < size) → are_sound_lists size ls ≡ true
sound_each size [] distinct below = refl
sound_each size (l ∷ ls) distinct below = both _ _ (sound_list size l (distinct 0) (below 0)) (sound_each size ls (λ p. distinct (suc p)) (λ p. below (suc p)))

pub sound_kept : (size : ℕ) (ls : List (List ℕ)) (m : Layout) → m ≡ record { size = size; lists = ls } → IsLayout m → are_sound_lists size ls ≡ true
sound_kept size ls m e sound =
    let kept : IsLayout (record { size = size; lists = ls }) = subst IsLayout e sound in
    sound_each size ls (λ p. kept.distinct p) (λ p g. kept.below p g)

stands_at : (xs : List ℕ) (i g : ℕ) → slice_get xs i ≡ Some g → stands g xs ≡ true
stands_at [] i g e = absurd (cc)
stands_at (x ∷ xs) zero g e = let same : (x == g) ≡ true = grind (arith, nat_tests) in ap (λ b. b || stands g xs) same
stands_at (x ∷ xs) (suc i) g e =
    let later : stands g xs ≡ true = stands_at xs i g e in
    elim (cases_Bool (x == g)) [ inl here ↦ ap (λ b. b || stands g xs) here | inr other ↦ ap (λ b. b || stands g xs) other ∙ later ]

not_earlier : (xs : List ℕ) (i g : ℕ) → AreDistinct xs → slice_get xs i ≡ Some g → stands g (take i xs) ≡ true → ⊥
not_earlier [] i g d e s = absurd (cc)
not_earlier (x ∷ xs) zero g d e s = false≢true s
not_earlier (x ∷ xs) (suc i) g d e s =
    elim (cases_Bool (x == g)) [
      | inl here ↦
          let same : x ≡ g = grind (arith, nat_tests) in
          false≢true (sym (subst (λ y. stands y xs ≡ false) same d.0) ∙ stands_at xs i g e)
      | inr other ↦ not_earlier xs i g d.1 e (sym (ap (λ b. b || stands g (take i xs)) other) ∙ s)
    ]

repeat_unsound : (size : ℕ) (xs : List ℕ) (g : ℕ) → IsRepeatIn size xs g → is_sound_list size xs ≡ false
repeat_unsound size xs g r =
    elim (cases_Bool (is_sound_list size xs)) [
      | inl sound ↦ absurd (not_earlier xs r.place g ((distinct_decides xs).0 ((and_parts _ _ sound).0)) r.reached.at r.twice)
      | inr e ↦ e
    ]

outside_unsound : (size : ℕ) (xs : List ℕ) (g : ℕ) → IsOutsideIn size xs g → is_sound_list size xs ≡ false
outside_unsound size xs g r =
    elim (cases_Bool (is_sound_list size xs)) [
      | inl sound ↦
          let below : g < size = (Decides-ltb g size).0 (all_stand (λ x. nat_lt x size) xs ((and_parts _ _ sound).1) g (stands_at xs r.place g r.reached.at)) in
          absurd (let outside : size ≤ g = r.outside in omega arith)
      | inr e ↦ e
    ]

unsound : (size : ℕ) (ls : List (List ℕ)) (p : ℕ) → p < length ls → is_sound_list size (get_or ls p []) ≡ false → are_sound_lists size ls ≡ false
unsound size [] p h e = absurd (omega arith)
unsound size (l ∷ ls) zero h e = ap (λ b. b && are_sound_lists size ls) e
unsound size (l ∷ ls) (suc p) h e =
    let later : are_sound_lists size ls ≡ false = unsound size ls p (omega arith) e in
    elim (cases_Bool (is_sound_list size l)) [
      | inl here ↦ ap (λ b. b && are_sound_lists size ls) here ∙ later
      | inr other ↦ ap (λ b. b && are_sound_lists size ls) other
    ]

pub fault_unsound : (size : ℕ) (ls : List (List ℕ)) (fault : MapFault) → IsMapFaultOf size ls fault → (fault ≡ NoMem → ⊥) → are_sound_lists size ls ≡ false
fault_unsound size ls (Repeated rank gid) h other = unsound size ls rank h.0.known (repeat_unsound size (get_or ls rank []) gid h.1)
fault_unsound size ls (OutOfSize rank gid) h other = unsound size ls rank h.0.known (outside_unsound size (get_or ls rank []) gid h.1)
fault_unsound size ls NoMem h other = absurd (other refl)
