-- The plan of an import, of what each rank lacks.
use Rattle.std.proofs.Common.{◌≡◌, ℕ, zero, suc, ◌<◌, List, [], ◌∷◌, length, map, get_or, slice_index_or, Option, None, Some, IsSome, refl, sym, ◌∙◌, arith}
use Rattle.std.specs.Prelude.{filter}
use Rattle.std.specs.Option.{unwrap_or}
use Rattle.std.specs.List.{range_with_len}
use Rattle.std.specs.Global.{Vec}
use Rattle.std.proofs.Math.ListN.{get_or-map}
use Rattle.std.proofs.lemmas.Simd.{map-map}
use Rattle.std.proofs.lemmas.List.{ext_get_or, length-map}
use Rattle.std.proofs.lemmas.List.FromFn.{get_or-map-range_with_len, length-map-range_with_len}
use Rattle.map_core.specs.Classes.{owns, indices_at, lacked, permuted, places, same_count}
use Rattle.import_plan.specs.Imports.{import_lists, import_start}
use Rattle.rank_plans.specs.Answers.{known_at, lacked_in, owner_if_known}
use Rattle.rank_plans.specs.Tasks.{import_of}
use Rattle.rank_plans.proofs.Targets.{lacked-known, owner_by}
use Rattle.rank_plans.proofs.Wants.{wants_of}

pub each-of : {A : Type 0} (g : List ℕ → A) (xs : List (List ℕ)) (P : ℕ) → length xs ≡ P → map g xs ≡ map (λ q. g (slice_index_or xs q [])) (range_with_len 0 P)
each-of g xs P e = ext_get_or (g []) (map g xs) (map (λ q. g (slice_index_or xs q [])) (range_with_len 0 P)) (length-map xs g ∙ e ∙ sym (length-map-range_with_len (λ q. g (slice_index_or xs q [])) 0 P))
    (λ i h.
    let n : length (map g xs) ≡ P = length-map xs g ∙ e in
    let low : i < P = omega arith in
    get_or-map g xs i [] ∙ sym (get_or-map-range_with_len (λ q. g (slice_index_or xs q [])) 0 P i i (g []) low (omega arith)))

pub imported-known : (me P : ℕ) (source target : List ℕ) (known : ℕ → Option ℕ) (told : List (Vec ℕ)) → length (map (λ v. v.items) told) ≡ P
    → import_lists (record (import_start me P source target (map (owner_if_known me source known) target)) { wants = wants_of told })
    ≡ import_of me P source target (λ q. filter (λ g. owns (known g) q) (lacked_in source target)) (λ q. slice_index_or (map (λ v. v.items) told) q [])
imported-known me P source target known told e =
    let own : ℕ → List ℕ = λ q. filter (λ g. owns (known g) q) (lacked_in source target) in
    let wanted : ℕ → List ℕ = lacked source target (map (owner_if_known me source known) target) in
    let remotes : map (places target) (map wanted (range_with_len 0 P)) ≡ map (λ q. places target (own q)) (range_with_len 0 P) =
    map-map (places target) wanted (range_with_len 0 P) ∙ (λ i. map (λ q. places target (lacked-known me source target known q i)) (range_with_len 0 P)) in
    let exports : map (λ w. places source (unwrap_or w [])) (wants_of told) ≡ map (λ q. places source (slice_index_or (map (λ v. v.items) told) q [])) (range_with_len 0 P) =
    map-map (λ w. places source (unwrap_or w [])) (λ v. Some v.items) told
    ∙ sym (map-map (places source) (λ v. v.items) told)
    ∙ each-of (places source) (map (λ v. v.items) told) P e in
    λ i. record {
      me = me;
      ranks = P;
      same = same_count source target;
      permute_to = permuted source target;
      permute_from = places source (indices_at target (permuted source target));
      exports = exports i;
      remotes = remotes i;
    }

pub imported : (me P : ℕ) (source target : List ℕ) (ks : List (Option ℕ)) (told : List (Vec ℕ)) → length (map (λ v. v.items) told) ≡ P
    → import_lists (record (import_start me P source target (map (owner_by me source (lacked_in source target) ks) target)) { wants = wants_of told })
    ≡ import_of me P source target (λ q. filter (λ g. owns (known_at (lacked_in source target) ks g) q) (lacked_in source target)) (λ q. slice_index_or (map (λ v. v.items) told) q [])
imported me P source target ks told e = imported-known me P source target (known_at (lacked_in source target) ks) told e

-- a want of each rank is accepted
pub some-want : (told : List (Vec ℕ)) (q : ℕ) → q < length told → IsSome (get_or (wants_of told) q None)
some-want [] q low = absurd (let bad : ⊥ = omega arith in bad)
some-want (v ∷ told) zero low = refl
some-want (v ∷ told) (suc q) low = some-want told q (omega arith)
