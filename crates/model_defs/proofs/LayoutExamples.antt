-- The layout law can be used: one job on two ranks with a uniform map, and on three ranks with a cyclic one.
use Rattle.std.proofs.Common.{◌≡◌, ◌<◌, ℕ, pos, zero, suc, true, false, [], ◌∷◌, length, Some, None, refl, inl, arith}
use Rattle.std.specs.Prelude.{codes}
use Rattle.scalar_laws.specs.Weighed.{weighed_semiring, weighed_conversions}
use Rattle.tables.specs.Indices.{stands, AreDistinct}
use Rattle.map_core.specs.Layouts.{IsLayout, IsTotal, rank_list}
use Rattle.model_defs.specs.declared.job.Job.{Job}
use Rattle.model_defs.specs.declared.job.MapForm.{MapForm}
use Rattle.model_defs.specs.declared.job.MapForm.TheVariants.{Uniform, Cyclic}
use Rattle.model_defs.specs.Maps.{layout_of, size_of, map_at}
use Rattle.model_defs.specs.Makers.{maker_of, value_count}
use Rattle.model_defs.specs.Shapes.{shape, is_by_rank}
use Rattle.model_defs.specs.Eval.{Pick, eval}
use Rattle.model_defs.specs.Given.{file_count, value_file}
use Rattle.model_defs.specs.Naming.{is_name, names_of_job}
use Rattle.model_defs.proofs.Naming.{all-by, apart-by}
use Rattle.model_defs.specs.Valid.{IsValid, IsForm, IsValidMaker, IsMatrixMap}
use Rattle.model_defs.specs.Fitting.{IsFitting, IsExpected, expected_file}
use Rattle.model_defs.specs.Laws.{DifferInLayout}
use Rattle.model_defs.proofs.ExampleJobs.{a_and_x, files}
use Rattle.model_defs.proofs.ValidExamples.{layout-uniform, layout-cyclic, first-below}
use Rattle.model_defs.proofs.ValidMatrices.{x-sound, x-dense, a-sound, a-limits, a-files}
use Rattle.model_defs.proofs.LayoutLaw.{layouts_do_not_matter}
use Rattle.model_defs.specs.declared.job.Step.TheVariants as step

abbrev on : ℕ → MapForm → Job
on ranks form = a_and_x ranks form false (
    step.Apply (codes "y") 1 0 None (pos 1) (pos 0) false
    ∷ step.Transpose (codes "T") 1
    ∷ step.Multiply (codes "P") 1 3
    ∷ step.Apply (codes "z") 4 2 (Some 2) (pos 1) (pos 1) true
    ∷ step.Print 5 ∷ [])

abbrev on_two : Job
on_two = on 2 Uniform

abbrev on_three : Job
on_three = on 3 Cyclic

layout-three : IsLayout (layout_of on_three 0)
layout-three = record { distinct = distinct; below = below }
  where
    distinct : (p : ℕ) → AreDistinct (rank_list (layout_of on_three 0) p)
    distinct zero = (refl, tt)
    distinct (suc zero) = (refl, tt)
    distinct (suc (suc zero)) = (refl, tt)
    distinct (suc (suc (suc p))) = tt

    below : (p g : ℕ) → stands g (rank_list (layout_of on_three 0) p) ≡ true → g < 3
    below zero g e = first-below 0 g 3 [] (omega arith) (λ h. cc) e
    below (suc zero) g e = first-below 1 g 3 [] (omega arith) (λ h. cc) e
    below (suc (suc zero)) g e = first-below 2 g 3 [] (omega arith) (λ h. cc) e
    below (suc (suc (suc p))) g e = cc

total-on_two : (m : ℕ) → m < 2 → IsTotal (layout_of on_two m)
total-on_two zero l zero m = refl
total-on_two zero l (suc zero) m = refl
total-on_two zero l (suc (suc zero)) m = refl
total-on_two zero l (suc (suc (suc g))) m = absurd (omega arith)
total-on_two (suc zero) l zero m = refl
total-on_two (suc zero) l (suc zero) m = refl
total-on_two (suc zero) l (suc (suc zero)) m = refl
total-on_two (suc zero) l (suc (suc (suc g))) m = absurd (omega arith)
total-on_two (suc (suc n)) l g m = absurd (omega arith)

valid-on_two : IsValid on_two
valid-on_two = record {
  some = omega arith;
  limits = a-limits 2 Uniform false on_two.steps (omega arith) (omega arith) (omega arith) (omega arith);
  named = record { names = all-by is_name (names_of_job on_two) refl; apart = apart-by (names_of_job on_two) refl; files = a-files };
  forms = forms;
  layouts = layouts;
  values = values;
  prints = (tt, (tt, (tt, (tt, ((omega arith, λ e. let bad : ⊥ = cc in bad), tt)))));
}
  where
    forms : (m : ℕ) → m < length on_two.maps → IsForm on_two.ranks (size_of on_two m) (map_at on_two m).form
    forms zero l = tt
    forms (suc zero) l = tt
    forms (suc (suc m)) l = absurd (omega arith)

    layouts : (m : ℕ) → m < length on_two.maps → IsLayout (layout_of on_two m)
    layouts zero l = layout-uniform
    layouts (suc zero) l = layout-cyclic
    layouts (suc (suc m)) l = absurd (omega arith)

    matrix_map : IsMatrixMap on_two 0
    matrix_map = (omega arith, (refl, (refl, (refl, tt))), total-on_two 0 (omega arith))

    values : (k : ℕ) → k < value_count on_two → IsValidMaker on_two k (maker_of on_two k)
    values zero l = ((omega arith, (refl, (refl, (refl, tt)))), refl)
    values (suc zero) l = (matrix_map, matrix_map)
    values (suc (suc zero)) l = (omega arith, inl refl, (omega arith, refl), refl, tt)
    values (suc (suc (suc zero))) l = (omega arith, refl)
    values (suc (suc (suc (suc zero)))) l = ((omega arith, refl), (omega arith, refl), refl)
    values (suc (suc (suc (suc (suc zero))))) l = (omega arith, inl refl, (omega arith, refl), refl, ((omega arith, refl), refl, refl))
    values (suc (suc (suc (suc (suc (suc k)))))) l = absurd (omega arith)

total-on_three : (m : ℕ) → m < 2 → IsTotal (layout_of on_three m)
total-on_three zero l zero m = refl
total-on_three zero l (suc zero) m = refl
total-on_three zero l (suc (suc zero)) m = refl
total-on_three zero l (suc (suc (suc g))) m = absurd (omega arith)
total-on_three (suc zero) l zero m = refl
total-on_three (suc zero) l (suc zero) m = refl
total-on_three (suc zero) l (suc (suc zero)) m = refl
total-on_three (suc zero) l (suc (suc (suc g))) m = absurd (omega arith)
total-on_three (suc (suc n)) l g m = absurd (omega arith)

valid-on_three : IsValid on_three
valid-on_three = record {
  some = omega arith;
  limits = a-limits 3 Cyclic false on_three.steps (omega arith) (omega arith) (omega arith) (omega arith);
  named = record { names = all-by is_name (names_of_job on_three) refl; apart = apart-by (names_of_job on_three) refl; files = a-files };
  forms = forms;
  layouts = layouts;
  values = values;
  prints = (tt, (tt, (tt, (tt, ((omega arith, λ e. let bad : ⊥ = cc in bad), tt)))));
}
  where
    forms : (m : ℕ) → m < length on_three.maps → IsForm on_three.ranks (size_of on_three m) (map_at on_three m).form
    forms zero l = tt
    forms (suc zero) l = tt
    forms (suc (suc m)) l = absurd (omega arith)

    layouts : (m : ℕ) → m < length on_three.maps → IsLayout (layout_of on_three m)
    layouts zero l = layout-three
    layouts (suc zero) l = layout-three
    layouts (suc (suc m)) l = absurd (omega arith)

    matrix_map : IsMatrixMap on_three 0
    matrix_map = (omega arith, (refl, (refl, (refl, tt))), total-on_three 0 (omega arith))

    values : (k : ℕ) → k < value_count on_three → IsValidMaker on_three k (maker_of on_three k)
    values zero l = ((omega arith, (refl, (refl, (refl, tt)))), refl)
    values (suc zero) l = (matrix_map, matrix_map)
    values (suc (suc zero)) l = (omega arith, inl refl, (omega arith, refl), refl, tt)
    values (suc (suc (suc zero))) l = (omega arith, refl)
    values (suc (suc (suc (suc zero)))) l = ((omega arith, refl), (omega arith, refl), refl)
    values (suc (suc (suc (suc (suc zero))))) l = (omega arith, inl refl, (omega arith, refl), refl, ((omega arith, refl), refl, refl))
    values (suc (suc (suc (suc (suc (suc k)))))) l = absurd (omega arith)

fitting : IsFitting on_two files
fitting = record { count = refl; each = each }
  where
    each : (k part : ℕ) → k < value_count on_two → part < file_count (maker_of on_two k) → IsExpected (expected_file on_two (maker_of on_two k) part) (value_file on_two files k part)
    each zero zero l m = record { rows_are = refl; cols_are = refl; sound = x-sound; dense = λ e. x-dense }
    each zero (suc part) l m = absurd (omega arith)
    each (suc zero) zero l m = record { rows_are = refl; cols_are = refl; sound = a-sound; dense = λ e. let bad : ⊥ = cc in absurd bad }
    each (suc zero) (suc part) l m = absurd (omega arith)
    each (suc (suc zero)) part l m = absurd (omega arith)
    each (suc (suc (suc zero))) part l m = absurd (omega arith)
    each (suc (suc (suc (suc zero)))) part l m = absurd (omega arith)
    each (suc (suc (suc (suc (suc zero))))) part l m = absurd (omega arith)
    each (suc (suc (suc (suc (suc (suc k)))))) part l m = absurd (omega arith)

differ : DifferInLayout on_two on_three
differ = record { vectors = refl; parts = (refl, refl); matrices = refl; steps = refl; sizes = refl; total = λ m l. (total-on_two m l, total-on_three m l); whole = whole }
  where
    whole : (k : ℕ) → k < value_count on_two → is_by_rank (shape on_two k).sort ≡ false
    whole zero l = refl
    whole (suc zero) l = refl
    whole (suc (suc zero)) l = refl
    whole (suc (suc (suc zero))) l = refl
    whole (suc (suc (suc (suc zero)))) l = refl
    whole (suc (suc (suc (suc (suc zero))))) l = refl
    whole (suc (suc (suc (suc (suc (suc k)))))) l = absurd (omega arith)

same-values : (pick other : Pick) (v : ℕ) → v < value_count on_two → eval weighed_semiring weighed_conversions on_two files pick v ≡ eval weighed_semiring weighed_conversions on_three files other v
same-values pick other v l = layouts_do_not_matter weighed_semiring weighed_conversions on_two on_three files pick other valid-on_two valid-on_three fitting differ v l
