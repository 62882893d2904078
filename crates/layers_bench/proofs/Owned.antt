-- The owners of a target's indices by the map of its source.
use Rattle.std.proofs.Common.{◌≡◌, ℕ, ◌<◌, ◌≤◌, List, length, map, Option, None, Some, inl, inr, sym, ap, subst, ◌∙◌, Result, Ok, Err, IfOk}
use Rattle.std.specs.Option.{unwrap_or}
use Rattle.std.proofs.lemmas.Bool.{cases_lt}
use Rattle.std.proofs.lemmas.List.{length-map, get_or-map}
use Rattle.std.proofs.lemmas.Option.{unwrap_or-slice_get, slice_get_past}
use Rattle.map_core.specs.Layouts.{owner, rank_list, IsOneToOne, Layout}
use Rattle.map_core.specs.Classes.{index_at, owner_at, AreOwners}
use Rattle.map_core.proofs.Owners.{owner-below, owner-has, owner-only}

pub owned : (m : Layout) (me P : ℕ) (target : List ℕ) → IsOneToOne m → length m.lists ≡ P → AreOwners me P (rank_list m me) target (map (owner m) target)
owned m me P target one many =
    record {
      each = length-map target (owner m);
      below = below;
      mine = λ l low. (λ on. at l low ∙ owner-only m (index_at target l) me one on, λ is. owner-has m (index_at target l) me (sym (at l low) ∙ is));
    }
  where
    at : (l : ℕ) → l < length target → owner_at (map (owner m) target) l ≡ owner m (index_at target l)
    at l low = get_or-map (owner m) target l 0 None low

    below : (l q : ℕ) → owner_at (map (owner m) target) l ≡ Some q → q < P
    below l q e = elim (cases_lt l (length target)) [
      | inl low ↦ subst (λ n. q < n) many (owner-below m (index_at target l) q (sym (at l low) ∙ e))
      | inr high ↦
          let past : length (map (owner m) target) ≤ l = subst (λ n. n ≤ l) (sym (length-map target (owner m))) high in
          let nothing : owner_at (map (owner m) target) l ≡ None =
          sym (unwrap_or-slice_get (map (owner m) target) l None) ∙ ap (λ o. unwrap_or o None) (slice_get_past (map (owner m) target) l past) in
          absurd (let bad : ⊥ = cc in bad)
    ]

-- the owners by a map that is the source's
pub same-owners : (source target : Layout) (uniform : ℕ → Layout) (me n : ℕ) (gids : List ℕ) (owners : List (Option ℕ)) → source ≡ uniform target.size → n ≡ target.size
    → gids ≡ rank_list target me → owners ≡ map (owner (uniform n)) gids → owners ≡ map (owner source) (rank_list target me)
same-owners source target uniform me n gids owners is size list e =
    e ∙ (λ k. map (owner (uniform (size k))) (list k)) ∙ (λ k. map (owner (sym is k)) (rank_list target me))

pub then-begun : {A E : Type 0} (r : Result A E) (x y : A) → IfOk r (λ a. a ≡ x) → x ≡ y → IfOk r (λ a. a ≡ y)
then-begun (Ok a) x y e f = e ∙ f
then-begun (Err a) x y e f = tt
