-- Validity can be met: the job of the move from a uniform to a cyclic map.
use Rattle.std.proofs.Common.{◌≡◌, ◌<◌, ℕ, zero, suc, Bool, true, false, ◌||◌, eqb, List, [], ◌∷◌, length, get_or, refl, ◌⊎◌, inl, inr, arith}
use Rattle.std.proofs.lemmas.Bool.{eqb-true}
use Rattle.tables.specs.Indices.{stands, AreDistinct}
use Rattle.map_core.specs.Layouts.{IsLayout, rank_list}
use Rattle.model_defs.specs.Maps.{layout_of, size_of, map_at, is_mapped}
use Rattle.model_defs.specs.Makers.{maker_of, value_count}
use Rattle.std.proofs.lemmas.List.Elements.{All-nil}
use Rattle.model_defs.specs.Limits.{IsWithinLimits, IsSmallForm, HasFewCells}
use Rattle.model_defs.specs.Naming.{IsNamed, is_name, names_of_job}
use Rattle.model_defs.proofs.Naming.{all-by, apart-by}
use Rattle.std.specs.Prelude.{codes}
use Rattle.model_defs.specs.declared.job.MapSpec.{MapSpec}
use Rattle.model_defs.specs.declared.job.VectorSpec.{VectorSpec}
use Rattle.model_defs.specs.Valid.{IsValid, IsForm, IsValidMaker}
use Rattle.model_defs.proofs.MoveExamples.{to_cyclic}

either : (a b : Bool) → a || b ≡ true → (a ≡ true) ⊎ (b ≡ true)
either true b e = inl refl
either false b e = inr e

pub first-below : (x g n : ℕ) (xs : List ℕ) → x < n → (stands g xs ≡ true → g < n) → eqb x g || stands g xs ≡ true → g < n
first-below x g n xs l rest e = by (either (eqb x g) (stands g xs) e)
  where
    by : (eqb x g ≡ true) ⊎ (stands g xs ≡ true) → g < n
    by (inl a) = let same = eqb-true x g a in omega arith
    by (inr a) = rest a

pub layout-uniform : IsLayout (layout_of to_cyclic 0)
layout-uniform = record { distinct = distinct; below = below }
  where
    distinct : (p : ℕ) → AreDistinct (rank_list (layout_of to_cyclic 0) p)
    distinct zero = (refl, (refl, tt))
    distinct (suc zero) = (refl, tt)
    distinct (suc (suc p)) = tt

    below : (p g : ℕ) → stands g (rank_list (layout_of to_cyclic 0) p) ≡ true → g < 3
    below zero g e = first-below 0 g 3 (1 ∷ []) (omega arith) (λ f. first-below 1 g 3 [] (omega arith) (λ h. cc) f) e
    below (suc zero) g e = first-below 2 g 3 [] (omega arith) (λ h. cc) e
    below (suc (suc p)) g e = cc

pub layout-cyclic : IsLayout (layout_of to_cyclic 1)
layout-cyclic = record { distinct = distinct; below = below }
  where
    distinct : (p : ℕ) → AreDistinct (rank_list (layout_of to_cyclic 1) p)
    distinct zero = (refl, (refl, tt))
    distinct (suc zero) = (refl, tt)
    distinct (suc (suc p)) = tt

    below : (p g : ℕ) → stands g (rank_list (layout_of to_cyclic 1) p) ≡ true → g < 3
    below zero g e = first-below 0 g 3 (2 ∷ []) (omega arith) (λ f. first-below 2 g 3 [] (omega arith) (λ h. cc) f) e
    below (suc zero) g e = first-below 1 g 3 [] (omega arith) (λ h. cc) e
    below (suc (suc p)) g e = cc

pub covered : (i : ℕ) → is_mapped to_cyclic 1 i ≡ true → is_mapped to_cyclic 0 i ≡ true
covered i e = by (eqb 0 i) (eqb 1 i) (eqb 2 i) e
  where
    by : (a b c : Bool) → a || (c || (b || false)) ≡ true → a || (b || (c || false)) ≡ true
    by true b c e = refl
    by false true c e = refl
    by false false true e = refl
    by false false false e = e

limits : IsWithinLimits to_cyclic
limits = record { ranks = omega arith; maps = omega arith; given = omega arith; steps = omega arith; forms = forms; vectors = vectors; parts = All-nil _ }
  where
    forms : (k : ℕ) (d : MapSpec) → k < 2 → let m = get_or to_cyclic.maps k d in IsSmallForm m.size m.form
    forms zero d l = omega arith
    forms (suc zero) d l = omega arith
    forms (suc (suc k)) d l = absurd (omega arith)

    vectors : (k : ℕ) (d : VectorSpec) → k < 1 → let v = get_or to_cyclic.vectors k d in HasFewCells to_cyclic v.map v.columns
    vectors zero d l = record { some = omega arith; few = omega arith; cells = omega arith }
    vectors (suc k) d l = absurd (omega arith)

named : IsNamed to_cyclic
named = record { names = all-by is_name (names_of_job to_cyclic) refl; apart = apart-by (names_of_job to_cyclic) refl; files = files }
  where
    files : (k : ℕ) (d : List ℕ) → k < 1 → 0 < length (get_or (codes "x.mtx" ∷ []) k d)
    files zero d l = omega arith
    files (suc k) d l = absurd (omega arith)

pub valid : IsValid to_cyclic
valid = record {
  some = omega arith;
  limits = limits;
  named = named;
  forms = forms;
  layouts = layouts;
  values = values;
  prints = (tt, ((omega arith, λ e. let bad : ⊥ = cc in bad), tt));
}
  where
    forms : (m : ℕ) → m < length to_cyclic.maps → IsForm to_cyclic.ranks (size_of to_cyclic m) (map_at to_cyclic m).form
    forms zero l = tt
    forms (suc zero) l = tt
    forms (suc (suc m)) l = absurd (omega arith)

    layouts : (m : ℕ) → m < length to_cyclic.maps → IsLayout (layout_of to_cyclic m)
    layouts zero l = layout-uniform
    layouts (suc zero) l = layout-cyclic
    layouts (suc (suc m)) l = absurd (omega arith)

    values : (k : ℕ) → k < value_count to_cyclic → IsValidMaker to_cyclic k (maker_of to_cyclic k)
    values zero l = ((omega arith, (refl, (refl, (refl, tt)))), refl)
    values (suc zero) l = (omega arith, inl refl, refl, (omega arith, (refl, (refl, (refl, tt)))), λ e. covered)
    values (suc (suc k)) l = absurd (omega arith)
