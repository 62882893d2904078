-- Lists without repeats.
use Rattle.std.proofs.Common.{◌≡◌, ℕ, zero, suc, ◌+◌, true, false, ◌||◌, eqb, List, [], ◌∷◌, ◌++◌, drop, take, slice_get, Option, Some, inl, inr, sym, ap, ◌∙◌}
use Rattle.std.specs.Option.{is_some}
use Rattle.std.proofs.lemmas.Bool.{eqb-true, or_cases}
use Rattle.std.proofs.lemmas.List.{drop_more, take_more}
use Rattle.std.proofs.lemmas.Option.{get_or_from_slice_get, slice_get_within}
use Rattle.map_core.specs.Layouts.{stands, AreDistinct}
use Rattle.map_core.proofs.Classes.{stands-index_at}
use Rattle.directory.specs.Directories.{AreNew}
use Rattle.directory.specs.Faults.{IsFirstTwice}

-- a list up to a place, and one more
pub taken-more : (xs : List ℕ) (l g : ℕ) → Some g ≡ slice_get xs l → take (l + 1) xs ≡ take l xs ++ g ∷ []
taken-more xs l g e = take_more xs l g (slice_get_within xs l g (sym e)) ∙ ap (λ y. take l xs ++ y ∷ []) (get_or_from_slice_get xs l g g (sym e))

pub stands-at : (xs : List ℕ) (k g : ℕ) → slice_get xs k ≡ Some g → stands g xs ≡ true
stands-at xs k g e = ap (λ y. stands y xs) (sym (get_or_from_slice_get xs k g 0 e)) ∙ stands-index_at xs k (slice_get_within xs k g e)

pub no_repeat : (xs : List ℕ) (k g : ℕ) → AreDistinct xs → slice_get xs k ≡ Some g → stands g (take k xs) ≡ true → ⊥
no_repeat [] k g apart at earlier = let bad : ⊥ = cc in bad
no_repeat (x ∷ xs) zero g apart at earlier = let bad : ⊥ = cc in bad
no_repeat (x ∷ xs) (suc k) g apart at earlier = elim (or_cases (eqb x g) _ earlier) [
  | inl same ↦ let both : stands x xs ≡ stands g xs = ap (λ y. stands y xs) (eqb-true x g same) in let on = stands-at xs k g at in let bad : ⊥ = cc in bad
  | inr more ↦ no_repeat xs k g apart.1 at more
]

-- new indices are never known or repeated
pub never-twice : (known : ℕ → Option ℕ) (xs : List ℕ) (g : ℕ) → AreNew known xs → IsFirstTwice known xs g → ⊥
never-twice known xs g new h =
    let none : is_some (known g) ≡ false = ap is_some (new.unknown g (stands-at xs h.place g h.at)) in
    no_repeat xs h.place g new.distinct h.at (sym (ap (λ b. b || stands g (take h.place xs)) none) ∙ h.twice)

pub drop-at : (xs : List ℕ) (l g : ℕ) → Some g ≡ slice_get xs l → drop l xs ≡ g ∷ drop (l + 1) xs
drop-at xs l g e = drop_more xs l g (slice_get_within xs l g (sym e)) ∙ ap (λ y. y ∷ drop (l + 1) xs) (get_or_from_slice_get xs l g g (sym e))
