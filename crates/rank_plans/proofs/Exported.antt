-- The plan of an export, of what each rank gives.
use Rattle.std.proofs.Common.{◌≡◌, ℕ, suc, Bool, true, false, cond, eqb, List, [], ◌∷◌, length, map, slice_index_or, Option, Some, refl, sym, ◌∙◌}
use Rattle.std.specs.Prelude.{filter}
use Rattle.std.specs.Option.{unwrap_or}
use Rattle.std.specs.List.{range_with_len}
use Rattle.std.specs.Global.{Vec}
use Rattle.std.proofs.lemmas.Bool.{eqb-true, eqb-false, eq-eqb, ne_eqb}
use Rattle.std.proofs.lemmas.Simd.{map-map}
use Rattle.map_core.specs.Classes.{owns, indices_at, lacked, permuted, places, same_count}
use Rattle.export_plan.specs.Exports.{export_lists, export_start}
use Rattle.rank_plans.specs.Answers.{known_at, lacked_in}
use Rattle.rank_plans.specs.Tasks.{export_of}
use Rattle.rank_plans.proofs.Imported.{each-of}
use Rattle.rank_plans.proofs.Targets.{lacked-owned, owner_by}
use Rattle.rank_plans.proofs.Wants.{wants_of}

eqb-turned : (x y : ℕ) → eqb x y ≡ eqb y x
eqb-turned x y = by (eqb x y) refl
  where
    by : (b : Bool) → eqb x y ≡ b → b ≡ eqb y x
    by true e = sym (eq-eqb y x (sym (eqb-true x y e)))
    by false e = sym (ne_eqb y x (λ same. eqb-false x y e (sym same)))

-- two lists have as many leading positions alike as the same lists in turn
pub same-turned : (xs ys : List ℕ) → same_count xs ys ≡ same_count ys xs
same-turned [] [] = refl
same-turned [] (y ∷ ys) = refl
same-turned (x ∷ xs) [] = refl
same-turned (x ∷ xs) (y ∷ ys) = λ i. cond (eqb-turned x y i) (suc (same-turned xs ys i)) 0

pub exported : (me P : ℕ) (source target : List ℕ) (ks : List (Option ℕ)) (told : List (Vec ℕ)) → length (map (λ v. v.items) told) ≡ P
    → export_lists (record (export_start me P source target (map (owner_by me target (lacked_in target source) ks) source)) { offers = wants_of told })
    ≡ export_of me P source target (λ q. filter (λ g. owns (known_at (lacked_in target source) ks g) q) (lacked_in target source)) (λ q. slice_index_or (map (λ v. v.items) told) q [])
exported me P source target ks told e =
    let own : ℕ → List ℕ = λ q. filter (λ g. owns (known_at (lacked_in target source) ks g) q) (lacked_in target source) in
    let offered : ℕ → List ℕ = lacked target source (map (owner_by me target (lacked_in target source) ks) source) in
    let exports : map (places source) (map offered (range_with_len 0 P)) ≡ map (λ q. places source (own q)) (range_with_len 0 P) =
    map-map (places source) offered (range_with_len 0 P) ∙ (λ i. map (λ q. places source (lacked-owned me target source ks q i)) (range_with_len 0 P)) in
    let remotes : map (λ w. places target (unwrap_or w [])) (wants_of told) ≡ map (λ q. places target (slice_index_or (map (λ v. v.items) told) q [])) (range_with_len 0 P) =
    map-map (λ w. places target (unwrap_or w [])) (λ v. Some v.items) told
    ∙ sym (map-map (places target) (λ v. v.items) told)
    ∙ each-of (places target) (map (λ v. v.items) told) P e in
    λ i. record {
      me = me;
      ranks = P;
      same = same-turned target source i;
      permute_to = places target (indices_at source (permuted target source));
      permute_from = permuted target source;
      exports = exports i;
      remotes = remotes i;
    }
