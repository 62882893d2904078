-- The job is valid.
use Rattle.std.proofs.Common.{◌<◌, ◌≤◌, ◌*◌, ℕ, zero, suc, List, [], ◌∷◌, length, get_or, refl, inl, arith}
use Rattle.std.specs.Prelude.{codes}
use Rattle.std.proofs.lemmas.List.Elements.{All-nil}
use Rattle.map_core.specs.Layouts.{IsLayout}
use Rattle.map_core.proofs.Contiguous.{is_layout-uniform, one_to_one, total}
use Rattle.map_core.proofs.Cyclic.{is_layout-cyclic, one_to_one-cyclic}
use Rattle.model_defs.specs.declared.job.MapSpec.{MapSpec}
use Rattle.model_defs.specs.declared.job.VectorSpec.{VectorSpec}
use Rattle.model_defs.specs.Limits.{HasFewCells, IsSmallForm, IsWithinLimits, index_count, most_indices}
use Rattle.model_defs.specs.Makers.{maker_of, value_count}
use Rattle.model_defs.specs.Maps.{layout_of, map_at, size_of}
use Rattle.model_defs.specs.Naming.{IsNamed, is_name, names_of_job}
use Rattle.model_defs.specs.Valid.{IsForm, IsMatrixMap, IsOwnerMap, IsValid, IsValidMaker}
use Rattle.model_defs.proofs.Naming.{all-by, apart-by}
use Rattle.generated_job.specs.Generated.{generated_job, most_generated}
use Rattle.generated_job.proofs.Maps.{covers, few-indices}

module _ (n : ℕ) where
  some-rank : 0 < 4
  some-rank = omega arith

  on-uniform : IsOwnerMap (generated_job n) 0
  on-uniform = (omega arith, one_to_one 4 n some-rank)

  on-cyclic : IsOwnerMap (generated_job n) 1
  on-cyclic = (omega arith, one_to_one-cyclic 4 n)

  of-matrix : IsMatrixMap (generated_job n) 0
  of-matrix = (omega arith, one_to_one 4 n some-rank, total 4 n some-rank)

  layouts : (m : ℕ) → m < 2 → IsLayout (layout_of (generated_job n) m)
  layouts zero l = is_layout-uniform 4 n some-rank
  layouts (suc zero) l = is_layout-cyclic 4 n
  layouts (suc (suc m)) l = absurd (omega arith)

  limits : n ≤ most_generated → IsWithinLimits (generated_job n)
  limits few = record { ranks = omega arith; maps = omega arith; given = omega arith; steps = omega arith; forms = forms; vectors = vectors; parts = All-nil _ }
    where
      forms : (k : ℕ) (d : MapSpec) → k < 2 → let m = get_or (generated_job n).maps k d in IsSmallForm m.size m.form
      forms zero d l = omega arith
      forms (suc zero) d l = omega arith
      forms (suc (suc k)) d l = absurd (omega arith)

      cells : index_count (generated_job n) 1 * 1 ≤ most_indices
      cells = let within = few-indices (layout_of (generated_job n) 1) (layouts 1 (omega arith)) (one_to_one-cyclic 4 n) in omega arith

      vectors : (k : ℕ) (d : VectorSpec) → k < 1 → let v = get_or (generated_job n).vectors k d in HasFewCells (generated_job n) v.map v.columns
      vectors zero d l = record { some = omega arith; few = omega arith; cells = cells }
      vectors (suc k) d l = absurd (omega arith)

  named : IsNamed (generated_job n)
  named = record { names = all-by is_name (names_of_job (generated_job n)) refl; apart = apart-by (names_of_job (generated_job n)) refl; files = files }
    where
      files : (k : ℕ) (d : List ℕ) → k < 2 → 0 < length (get_or (codes "x0" ∷ codes "A" ∷ []) k d)
      files zero d l = omega arith
      files (suc zero) d l = omega arith
      files (suc (suc k)) d l = absurd (omega arith)

  forms : (m : ℕ) → m < 2 → IsForm 4 (size_of (generated_job n) m) (map_at (generated_job n) m).form
  forms zero l = tt
  forms (suc zero) l = tt
  forms (suc (suc m)) l = absurd (omega arith)

  values : (k : ℕ) → k < value_count (generated_job n) → IsValidMaker (generated_job n) k (maker_of (generated_job n) k)
  values zero l = (on-cyclic, refl)
  values (suc zero) l = (of-matrix, of-matrix)
  values (suc (suc zero)) l = (omega arith, inl refl, refl, on-uniform, λ e i. covers 4 n i some-rank)
  values (suc (suc (suc zero))) l = (omega arith, inl refl, (omega arith, refl), refl, tt)
  values (suc (suc (suc (suc zero)))) l = ((omega arith, refl), (omega arith, refl), refl)
  values (suc (suc (suc (suc (suc zero))))) l = (omega arith, inl refl, (omega arith, refl), refl, tt)
  values (suc (suc (suc (suc (suc (suc k)))))) l = absurd (omega arith)

  pub valid : n ≤ most_generated → IsValid (generated_job n)
  valid few = record {
    some = some-rank;
    limits = limits few;
    named = named;
    forms = forms;
    layouts = layouts;
    values = values;
    prints = (tt, (tt, (tt, (tt, ((omega arith, λ e. let bad : ⊥ = cc in bad), ((omega arith, λ e. let bad : ⊥ = cc in bad), ((omega arith, λ e. let bad : ⊥ = cc in bad), tt)))))));
  }
