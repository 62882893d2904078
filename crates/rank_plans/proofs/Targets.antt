-- The owners of a target's indices, and what an import makes of them.
use Rattle.std.proofs.Common.{◌≡◌, ℕ, zero, suc, ◌+◌, ◌<◌, ◌≤◌, Bool, true, false, cond, not, ◌&&◌, ◌==◌, List, [], ◌∷◌, ◌++◌, length, map, take, Option, None, Some, inl, inr, refl, sym, ap, subst, ◌∙◌, arith}
use Rattle.std.specs.Prelude.{filter}
use Rattle.std.specs.List.{range_with_len}
use Rattle.std.proofs.lemmas.Bool.{cases_lt, eq-eqb}
use Rattle.std.proofs.lemmas.List.{length-map, map-append, get_or-map, take_all}
use Rattle.std.proofs.lemmas.List.Elements.{filter_more}
use Rattle.std.proofs.lemmas.Option.{unwrap_or-slice_get, slice_get_past}
use Rattle.std.specs.Option.{unwrap_or}
use Rattle.map_core.specs.Layouts.{stands, AreDistinct}
use Rattle.map_core.specs.Classes.{owns, index_at, indices_at, is_lacked, lacked, owner_at, AreOwners}
use Rattle.map_core.proofs.Classes.{filter-push, stands-index_at}
use Rattle.map_core.proofs.Members.{stands-filter}
use Rattle.model_defs.proofs.Filters.{filter-filter, filter-ext}
use Rattle.rank_plans.specs.Answers.{first_owner, known_at, lacked_in, owner_if_known, rest_owners, target_owners, AreRanks}
use Rattle.rank_plans.proofs.Known.{apart, map-within, AreRanks-known}

-- the owner of an index of the target: rank me where the source has it, or else the one that is known
abbrev pub owner_by : (me : ℕ) → (source xs : List ℕ) → List (Option ℕ) → ℕ → Option ℕ
owner_by me source xs owners = owner_if_known me source (known_at xs owners)

pub target-map : (me : ℕ) (source target : List ℕ) (ks : List (Option ℕ)) → AreDistinct target → length ks ≡ length (lacked_in source target)
    → target_owners me source target ks ≡ map (owner_by me source (lacked_in source target) ks) target
target-map me source [] ks d n = refl
target-map me source (x ∷ xs) ks d n = go (stands x source) n (λ vs m. target-map me source xs vs d.1 m)
  where
    go : (b : Bool) → length ks ≡ length (cond (not b) (x ∷ lacked_in source xs) (lacked_in source xs))
        → ((vs : List (Option ℕ)) → length vs ≡ length (lacked_in source xs) → target_owners me source xs vs ≡ map (owner_by me source (lacked_in source xs) vs) xs)
        → cond b (Some me) (first_owner ks) ∷ target_owners me source xs (cond b ks (rest_owners ks))
        ≡ cond b (Some me) (known_at (cond (not b) (x ∷ lacked_in source xs) (lacked_in source xs)) ks x)
        ∷ map (owner_by me source (cond (not b) (x ∷ lacked_in source xs) (lacked_in source xs)) ks) xs
    go true n more = ap (λ r. Some me ∷ r) (more ks n)
    go false n more = by ks n
      where
        by : (ks : List (Option ℕ)) → length ks ≡ length (x ∷ lacked_in source xs)
            → first_owner ks ∷ target_owners me source xs (rest_owners ks) ≡ known_at (x ∷ lacked_in source xs) ks x ∷ map (owner_by me source (x ∷ lacked_in source xs) ks) xs
        by [] n = absurd (let bad : ⊥ = cc in bad)
        by (k ∷ vs) n =
            let head : k ≡ cond (x == x) k (known_at (lacked_in source xs) vs x) = ap (λ b. cond b k (known_at (lacked_in source xs) vs x)) (sym (eq-eqb x x refl)) in
            let tail : target_owners me source xs vs ≡ map (owner_by me source (x ∷ lacked_in source xs) (k ∷ vs)) xs =
            more vs (omega arith)
            ∙ map-within (owner_by me source (lacked_in source xs) vs) (owner_by me source (x ∷ lacked_in source xs) (k ∷ vs)) xs
            (λ g on. ap (λ b. cond (stands g source) (Some me) (cond b k (known_at (lacked_in source xs) vs g))) (sym (apart x g xs d.0 on))) in
            λ i. head i ∷ tail i

-- the indices at the positions that pass a test are those that pass it
pub picked : (t p : ℕ → Bool) (xs : List ℕ) → ((l : ℕ) → l < length xs → t l ≡ p (index_at xs l)) → indices_at xs (filter t (range_with_len 0 (length xs))) ≡ filter p xs
picked t p xs h = below (length xs) (omega arith) ∙ ap (filter p) (take_all (length xs) xs (omega arith))
  where
    one : (n : ℕ) (a b : Bool) → a ≡ b → map (index_at xs) (cond a (n ∷ []) []) ≡ cond b (index_at xs n ∷ []) []
    one n true true e = refl
    one n true false e = absurd (let bad : ⊥ = cc in bad)
    one n false true e = absurd (let bad : ⊥ = cc in bad)
    one n false false e = refl

    below : (n : ℕ) → n ≤ length xs → indices_at xs (filter t (range_with_len 0 n)) ≡ filter p (take n xs)
    below zero le = refl
    below (suc n) le =
        let low : n < length xs = omega arith in
        let is : n + 1 ≡ suc n = omega arith in
        let step : indices_at xs (filter t (range_with_len 0 (n + 1))) ≡ filter p (take (n + 1) xs) =
        ap (indices_at xs) (filter-push t n)
        ∙ map-append (index_at xs) (filter t (range_with_len 0 n)) (cond (t n) (n ∷ []) [])
        ∙ (λ i. below n (omega arith) i ++ one n (t n) (p (index_at xs n)) (h n low) i)
        ∙ sym (filter_more p xs n 0 low) in
        subst (λ m. indices_at xs (filter t (range_with_len 0 m)) ≡ filter p (take m xs)) is step

pub owner-at : (f : ℕ → Option ℕ) (xs : List ℕ) (l : ℕ) → l < length xs → owner_at (map f xs) l ≡ f (index_at xs l)
owner-at f xs l low = get_or-map f xs l 0 None low

-- what an import wants of rank q is what is lacked and known to be of q
pub lacked-known : (me : ℕ) (source target : List ℕ) (known : ℕ → Option ℕ) (q : ℕ)
    → lacked source target (map (owner_if_known me source known) target) q ≡ filter (λ g. owns (known g) q) (lacked_in source target)
lacked-known me source target known q =
    picked (is_lacked source target (map (owner_if_known me source known) target) q)
    (λ g. not (stands g source) && owns (owner_if_known me source known g) q) target
    (λ l low. ap (λ o. not (stands (index_at target l) source) && owns o q) (owner-at (owner_if_known me source known) target l low))
    ∙ filter-ext (λ g. not (stands g source) && owns (owner_if_known me source known g) q) (λ g. not (stands g source) && owns (known g) q)
    (λ g. either (stands g source) (known g)) target
    ∙ sym (filter-filter (λ g. owns (known g) q) (λ g. not (stands g source)) target)
  where
    either : (b : Bool) (o : Option ℕ) → not b && owns (cond b (Some me) o) q ≡ not b && owns o q
    either true o = refl
    either false o = refl

pub lacked-owned : (me : ℕ) (source target : List ℕ) (ks : List (Option ℕ)) (q : ℕ)
    → lacked source target (map (owner_by me source (lacked_in source target) ks) target) q ≡ filter (λ g. owns (known_at (lacked_in source target) ks g) q) (lacked_in source target)
lacked-owned me source target ks q = lacked-known me source target (known_at (lacked_in source target) ks) q

-- the conditions of an import
pub known-owners : (me P : ℕ) (source target : List ℕ) (known : ℕ → Option ℕ) → me < P → ((g q : ℕ) → known g ≡ Some q → q < P)
    → filter (λ g. owns (known g) me) (lacked_in source target) ≡ []
    → AreOwners me P source target (map (owner_if_known me source known) target)
known-owners me P source target known low_me below none =
    record { each = length-map target (owner_if_known me source known); below = ranked; mine = λ l low. (λ on. held l low on, λ is. mine l low is) }
  where
    rank : (b : Bool) (g q : ℕ) → cond b (Some me) (known g) ≡ Some q → q < P
    rank true g q e = let is : me ≡ q = cc in subst (λ n. n < P) is low_me
    rank false g q e = below g q e

    ranked : (l q : ℕ) → owner_at (map (owner_if_known me source known) target) l ≡ Some q → q < P
    ranked l q e = elim (cases_lt l (length target)) [
      | inl low ↦ rank (stands (index_at target l) source) (index_at target l) q (sym (owner-at (owner_if_known me source known) target l low) ∙ e)
      | inr high ↦
          let past : length (map (owner_if_known me source known) target) ≤ l = subst (λ n. n ≤ l) (sym (length-map target (owner_if_known me source known))) high in
          let nothing : owner_at (map (owner_if_known me source known) target) l ≡ None =
          sym (unwrap_or-slice_get (map (owner_if_known me source known) target) l None) ∙ ap (λ o. unwrap_or o None) (slice_get_past (map (owner_if_known me source known) target) l past) in
          absurd (let bad : ⊥ = cc in bad)
    ]

    held : (l : ℕ) → l < length target → stands (index_at target l) source ≡ true → owner_at (map (owner_if_known me source known) target) l ≡ Some me
    held l low on = owner-at (owner_if_known me source known) target l low ∙ ap (λ b. cond b (Some me) (known (index_at target l))) on

    mine : (l : ℕ) → l < length target → owner_at (map (owner_if_known me source known) target) l ≡ Some me → stands (index_at target l) source ≡ true
    mine l low is = by (stands (index_at target l) source) refl (sym (owner-at (owner_if_known me source known) target l low) ∙ is)
      where
        by : (b : Bool) → stands (index_at target l) source ≡ b → cond b (Some me) (known (index_at target l)) ≡ Some me → stands (index_at target l) source ≡ true
        by true e own = e
        by false e own =
            let lacks : stands (index_at target l) (lacked_in source target) ≡ true =
            stands-filter (index_at target l) (λ g. not (stands g source)) target ∙ (λ i. stands-index_at target l low i && not (e i)) in
            let is_own : owns (known (index_at target l)) me ≡ true = ap (λ o. owns o me) own ∙ eq-eqb me me refl in
            let there : stands (index_at target l) (filter (λ g. owns (known g) me) (lacked_in source target)) ≡ true =
            stands-filter (index_at target l) (λ g. owns (known g) me) (lacked_in source target) ∙ (λ i. lacks i && is_own i) in
            let nowhere : stands (index_at target l) (filter (λ g. owns (known g) me) (lacked_in source target)) ≡ false = ap (stands (index_at target l)) none in
            absurd (let bad : ⊥ = cc in bad)

pub target-owners : (me P : ℕ) (source target : List ℕ) (ks : List (Option ℕ)) → me < P → AreRanks P ks
    → filter (λ g. owns (known_at (lacked_in source target) ks g) me) (lacked_in source target) ≡ []
    → AreOwners me P source target (map (owner_by me source (lacked_in source target) ks) target)
target-owners me P source target ks low below none =
    known-owners me P source target (known_at (lacked_in source target) ks) low (λ g q e. AreRanks-known P (lacked_in source target) ks g q below e) none
