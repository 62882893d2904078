-- Owners that are looked up by their indices.
use Rattle.std.proofs.Common.{◌≡◌, ℕ, suc, ◌+◌, ◌<◌, ◌≤◌, Bool, true, false, cond, not, nat_eq, nat_lt, ◌==◌, List, [], ◌∷◌, ◌++◌, get_or, length, take, Option, None, Some, refl, sym, ap, ◌∙◌, arith}
use Rattle.std.specs.List.{position_or_len}
use Rattle.std.specs.Prelude.{position}
use Rattle.std.specs.Option.{unwrap_or}
use Rattle.std.proofs.lemmas.Bool.Decides.{nat_tests}
use Rattle.std.proofs.lemmas.List.{get_or_past, take_more}
use Rattle.std.proofs.lemmas.Option.{slice_get-get_or}
use Rattle.indexmap.specs.IndexSet.{insert_key}
use Rattle.map_core.specs.Layouts.{stands, AreDistinct}
use Rattle.map_core.proofs.Members.{stands-list_any}
use Rattle.rank_plans.specs.Answers.{known_at, owner_by, owner_if_known}
use Rattle.rank_plans.proofs.Fresh.{no_repeat}

-- the owner that is known stands beside the first place of the index
known-at : (xs : List ℕ) (os : List (Option ℕ)) (g : ℕ) → length os ≡ length xs → known_at xs os g ≡ get_or os (position_or_len (nat_eq g) xs) None
known-at [] [] g n = refl
known-at [] (o ∷ os) g n = absurd (let bad : ⊥ = cc in bad)
known-at (x ∷ xs) [] g n = absurd (let bad : ⊥ = cc in bad)
known-at (x ∷ xs) (o ∷ os) g n = ap (λ b. cond b o (known_at xs os g)) turned ∙ go (nat_eq g x) (known-at xs os g (omega arith))
  where
    turned : (x == g) ≡ nat_eq g x
    turned = grind (arith, nat_tests)

    go : (b : Bool) → known_at xs os g ≡ get_or os (position_or_len (nat_eq g) xs) None
        → cond b o (known_at xs os g) ≡ get_or (o ∷ os) (cond (not b) (1 + position_or_len (nat_eq g) xs) 0) None
    go true more = refl
    go false more = more ∙ ap (λ k. get_or (o ∷ os) k None) (let next : suc (position_or_len (nat_eq g) xs) ≡ 1 + position_or_len (nat_eq g) xs = omega arith in next)

pub known-found : (xs : List ℕ) (os : List (Option ℕ)) (g k : ℕ) → length os ≡ length xs → Some k ≡ position (nat_eq g) xs → get_or os k None ≡ known_at xs os g
known-found xs os g k n at = ap (λ p. get_or os p None) (go (nat_lt (position_or_len (nat_eq g) xs) (length xs)) at) ∙ sym (known-at xs os g n)
  where
    go : (b : Bool) → Some k ≡ cond b (Some (position_or_len (nat_eq g) xs)) None → k ≡ position_or_len (nat_eq g) xs
    go true e = cc
    go false e = absurd (let bad : ⊥ = cc in bad)

pub known-missing : (xs : List ℕ) (os : List (Option ℕ)) (g : ℕ) → length os ≡ length xs → None ≡ position (nat_eq g) xs → None ≡ known_at xs os g
known-missing xs os g n at = sym (known-at xs os g n ∙ get_or_past os (position_or_len (nat_eq g) xs) None (go (nat_lt (position_or_len (nat_eq g) xs) (length xs)) refl at))
  where
    go : (b : Bool) → nat_lt (position_or_len (nat_eq g) xs) (length xs) ≡ b → None ≡ cond b (Some (position_or_len (nat_eq g) xs)) None → length os ≤ position_or_len (nat_eq g) xs
    go true past e = absurd (let bad : ⊥ = cc in bad)
    go false past e = let high : length xs ≤ position_or_len (nat_eq g) xs = grind (arith, nat_tests) in omega arith

-- the set of distinct indices up to a place, and one more
pub keys-more : (xs : List ℕ) (k d : ℕ) → AreDistinct xs → k < length xs → insert_key nat_eq (take k xs) (get_or xs k d) ≡ take (k + 1) xs
keys-more xs k d apart low = go (stands (get_or xs k d) (take k xs)) refl
  where
    go : (b : Bool) → stands (get_or xs k d) (take k xs) ≡ b → insert_key nat_eq (take k xs) (get_or xs k d) ≡ take (k + 1) xs
    go true earlier = absurd (no_repeat xs k (get_or xs k d) apart (slice_get-get_or xs k d low) earlier)
    go false new =
        ap (λ b. cond b (take k xs) (take k xs ++ get_or xs k d ∷ [])) (stands-list_any (get_or xs k d) (take k xs) ∙ new)
        ∙ sym (take_more xs k d low)

-- the owner, or 0 where none is known
pub owner-or-first : (me : ℕ) (own : List ℕ) (known : ℕ → Option ℕ) (g : ℕ) → unwrap_or (owner_if_known me own known g) 0 ≡ owner_by me own known g
owner-or-first me own known g = go (stands g own)
  where
    go : (b : Bool) → unwrap_or (cond b (Some me) (known g)) 0 ≡ cond b me (unwrap_or (known g) 0)
    go true = refl
    go false = refl
