-- Validity can be met with matrices: a split matrix with both of its applies, and an assembled one with each statement.
use Rattle.std.proofs.Common.{◌<◌, ℕ, pos, negsuc, zero, suc, true, false, [], ◌∷◌, length, get_or, Some, None, refl, inl, inr, arith}
use Rattle.std.specs.Prelude.{codes}
use Rattle.map_core.specs.Layouts.{IsLayout, IsTotal}
use Rattle.mm_text.specs.declared.file_data.Line.{Line}
use Rattle.combine_modes.specs.declared.mode.Mode.TheVariants.{Insert}
use Rattle.model_defs.specs.declared.job.Job.{Job}
use Rattle.model_defs.specs.declared.job.MapForm.TheVariants.{Uniform}
use Rattle.model_defs.specs.Maps.{layout_of, size_of, map_at}
use Rattle.model_defs.specs.Makers.{maker_of, value_count}
use Rattle.std.specs.Prelude.{◌≡◌, ◌≤◌, ◌%◌, ◌/◌, unsigned_abs, List, Bool}
use Rattle.std.proofs.lemmas.List.Elements.{All-nil}
use Rattle.mm_text.specs.Limits.{widest}
use Rattle.mm_text.specs.Sound.{IsSound, IsDense}
use Rattle.model_defs.specs.declared.job.MapForm.{MapForm}
use Rattle.model_defs.specs.declared.job.Step.{Step}
use Rattle.model_defs.specs.declared.job.MapSpec.{MapSpec}
use Rattle.model_defs.specs.declared.job.VectorSpec.{VectorSpec}
use Rattle.model_defs.specs.Given.{file_count, value_file}
use Rattle.model_defs.specs.Limits.{IsWithinLimits, IsSmallForm, HasFewCells, index_count}
use Rattle.model_defs.specs.Naming.{is_name, names_of_job}
use Rattle.model_defs.proofs.Naming.{all-by, apart-by}
use Rattle.model_defs.specs.Valid.{IsValid, IsForm, IsValidMaker, IsMatrixMap}
use Rattle.model_defs.specs.Fitting.{IsFitting, IsExpected, expected_file}
use Rattle.model_defs.proofs.ExampleJobs.{a_and_x, files, a_file, x_file}
use Rattle.model_defs.proofs.ValidExamples.{layout-uniform, layout-cyclic, covered}
use Rattle.model_defs.specs.declared.job.Step.TheVariants as step

abbrev pub all_rows : Job
all_rows = a_and_x 2 Uniform true (
    step.Apply (codes "y") 1 0 None (pos 1) (pos 0) false
    ∷ step.Apply (codes "z") 1 0 (Some 2) (pos 2) (negsuc 0) true
    ∷ step.Assemble (codes "M") 1 None Insert
    ∷ step.Transpose (codes "T") 4
    ∷ step.Multiply (codes "P") 4 5
    ∷ step.Add (codes "D") 4 5 (pos 1) (negsuc 0)
    ∷ step.Apply (codes "w") 7 3 None (pos 1) (pos 0) false
    ∷ step.Apply (codes "v") 6 0 (Some 8) (pos 1) (pos 1) true
    ∷ step.Move (codes "N") 6 1
    ∷ step.Scale (codes "S") 10 (pos 3)
    ∷ step.Print 11 ∷ [])

total : (m : ℕ) → m < 2 → IsTotal (layout_of all_rows m)
total zero l zero m = refl
total zero l (suc zero) m = refl
total zero l (suc (suc zero)) m = refl
total zero l (suc (suc (suc g))) m = absurd (omega arith)
total (suc zero) l zero m = refl
total (suc zero) l (suc zero) m = refl
total (suc zero) l (suc (suc zero)) m = refl
total (suc zero) l (suc (suc (suc g))) m = absurd (omega arith)
total (suc (suc n)) l g m = absurd (omega arith)

uniform_map : IsMatrixMap all_rows 0
uniform_map = (omega arith, (refl, (refl, (refl, tt))), total 0 (omega arith))

-- the limits of each job of this kind
pub a-limits : (ranks : ℕ) (form : MapForm) (split : Bool) (steps : List Step) → ranks ≤ 32 → length steps ≤ 200 → IsSmallForm 3 form → index_count (a_and_x ranks form split steps) 0 ≤ 16777216
    → IsWithinLimits (a_and_x ranks form split steps)
a-limits ranks form split steps few short small cells =
    record { ranks = few; maps = omega arith; given = omega arith; steps = short; forms = forms; vectors = vectors; parts = All-nil _ }
  where
    forms : (k : ℕ) (d : MapSpec) → k < 2 → let m = get_or (a_and_x ranks form split steps).maps k d in IsSmallForm m.size m.form
    forms zero d l = small
    forms (suc zero) d l = omega arith
    forms (suc (suc k)) d l = absurd (omega arith)

    vectors : (k : ℕ) (d : VectorSpec) → k < 1 → let v = get_or (a_and_x ranks form split steps).vectors k d in HasFewCells (a_and_x ranks form split steps) v.map v.columns
    vectors zero d l = record { some = omega arith; few = omega arith; cells = omega (arith, cells) }
    vectors (suc k) d l = absurd (omega arith)

pub a-files : (k : ℕ) (d : List ℕ) → k < 2 → 0 < length (get_or (codes "x.mtx" ∷ codes "a.mtx" ∷ []) k d)
a-files zero d l = omega arith
a-files (suc zero) d l = omega arith
a-files (suc (suc k)) d l = absurd (omega arith)

pub valid : IsValid all_rows
valid = record {
  some = omega arith;
  limits = a-limits 2 Uniform true all_rows.steps (omega arith) (omega arith) (omega arith) (omega arith);
  named = record { names = all-by is_name (names_of_job all_rows) refl; apart = apart-by (names_of_job all_rows) refl; files = a-files };
  forms = forms;
  layouts = layouts;
  values = values;
  prints = (tt, (tt, (tt, (tt, (tt, (tt, (tt, (tt, (tt, (tt, ((omega arith, λ e. let bad : ⊥ = cc in bad), tt)))))))))));
}
  where
    forms : (m : ℕ) → m < length all_rows.maps → IsForm all_rows.ranks (size_of all_rows m) (map_at all_rows m).form
    forms zero l = tt
    forms (suc zero) l = tt
    forms (suc (suc m)) l = absurd (omega arith)

    layouts : (m : ℕ) → m < length all_rows.maps → IsLayout (layout_of all_rows m)
    layouts zero l = layout-uniform
    layouts (suc zero) l = layout-cyclic
    layouts (suc (suc m)) l = absurd (omega arith)

    values : (k : ℕ) → k < value_count all_rows → IsValidMaker all_rows k (maker_of all_rows k)
    values zero l = ((omega arith, (refl, (refl, (refl, tt)))), refl)
    values (suc zero) l = (uniform_map, uniform_map)
    values (suc (suc zero)) l = (omega arith, inr refl, (omega arith, refl), refl, tt)
    values (suc (suc (suc zero))) l = (omega arith, inr refl, (omega arith, refl), refl, ((omega arith, refl), refl, refl))
    values (suc (suc (suc (suc zero)))) l = ((omega arith, refl), tt)
    values (suc (suc (suc (suc (suc zero))))) l = (omega arith, refl)
    values (suc (suc (suc (suc (suc (suc zero)))))) l = ((omega arith, refl), (omega arith, refl), refl)
    values (suc (suc (suc (suc (suc (suc (suc zero))))))) l = ((omega arith, refl), (omega arith, refl), refl, refl)
    values (suc (suc (suc (suc (suc (suc (suc (suc zero)))))))) l = (omega arith, inl refl, (omega arith, refl), refl, tt)
    values (suc (suc (suc (suc (suc (suc (suc (suc (suc zero))))))))) l = (omega arith, inl refl, (omega arith, refl), refl, ((omega arith, refl), refl, refl))
    values (suc (suc (suc (suc (suc (suc (suc (suc (suc (suc zero)))))))))) l = (omega arith, inr (refl, total 1 (omega arith)), refl, (omega arith, (refl, (refl, (refl, tt)))), λ e. covered)
    values (suc (suc (suc (suc (suc (suc (suc (suc (suc (suc (suc zero))))))))))) l = omega arith
    values (suc (suc (suc (suc (suc (suc (suc (suc (suc (suc (suc (suc k)))))))))))) l = absurd (omega arith)

pub x-sound : IsSound x_file
x-sound = record { places = places; values = values; square = λ e. absurd (e refl); diagonal = λ e. let bad : ⊥ = cc in absurd bad }
  where
    places : (k : ℕ) (d : Line) → k < 3 → let l = get_or x_file.lines k d in (l.row < 3) × (l.col < 1)
    places zero d m = (omega arith, omega arith)
    places (suc zero) d m = (omega arith, omega arith)
    places (suc (suc zero)) d m = (omega arith, omega arith)
    places (suc (suc (suc k))) d m = absurd (omega arith)

    values : (k : ℕ) (d : Line) → k < 3 → unsigned_abs (get_or x_file.lines k d).value ≤ widest
    values zero d m = omega arith
    values (suc zero) d m = omega arith
    values (suc (suc zero)) d m = omega arith
    values (suc (suc (suc k))) d m = absurd (omega arith)

pub x-dense : IsDense x_file
x-dense = record { plain = refl; count = refl; places = places }
  where
    places : (k : ℕ) (d : Line) → k < 3 → let l = get_or x_file.lines k d in (l.row ≡ k % 3) × (l.col ≡ k / 3)
    places zero d m = (refl, refl)
    places (suc zero) d m = (refl, refl)
    places (suc (suc zero)) d m = (refl, refl)
    places (suc (suc (suc k))) d m = absurd (omega arith)

pub a-sound : IsSound a_file
a-sound = record { places = places; values = values; square = λ e. absurd (e refl); diagonal = λ e. let bad : ⊥ = cc in absurd bad }
  where
    places : (k : ℕ) (d : Line) → k < 4 → let l = get_or a_file.lines k d in (l.row < 3) × (l.col < 3)
    places zero d m = (omega arith, omega arith)
    places (suc zero) d m = (omega arith, omega arith)
    places (suc (suc zero)) d m = (omega arith, omega arith)
    places (suc (suc (suc zero))) d m = (omega arith, omega arith)
    places (suc (suc (suc (suc k)))) d m = absurd (omega arith)

    values : (k : ℕ) (d : Line) → k < 4 → unsigned_abs (get_or a_file.lines k d).value ≤ widest
    values zero d m = omega arith
    values (suc zero) d m = omega arith
    values (suc (suc zero)) d m = omega arith
    values (suc (suc (suc zero))) d m = omega arith
    values (suc (suc (suc (suc k)))) d m = absurd (omega arith)

pub fitting : IsFitting all_rows files
fitting = record { count = refl; each = each }
  where
    each : (k part : ℕ) → k < value_count all_rows → part < file_count (maker_of all_rows k) → IsExpected (expected_file all_rows (maker_of all_rows k) part) (value_file all_rows files k part)
    each zero zero l m = record { rows_are = refl; cols_are = refl; sound = x-sound; dense = λ e. x-dense }
    each zero (suc part) l m = absurd (omega arith)
    each (suc zero) zero l m = record { rows_are = refl; cols_are = refl; sound = a-sound; dense = λ e. let bad : ⊥ = cc in absurd bad }
    each (suc zero) (suc part) l m = absurd (omega arith)
    each (suc (suc zero)) part l m = absurd (omega arith)
    each (suc (suc (suc zero))) part l m = absurd (omega arith)
    each (suc (suc (suc (suc zero)))) part l m = absurd (omega arith)
    each (suc (suc (suc (suc (suc zero))))) part l m = absurd (omega arith)
    each (suc (suc (suc (suc (suc (suc zero)))))) part l m = absurd (omega arith)
    each (suc (suc (suc (suc (suc (suc (suc zero))))))) part l m = absurd (omega arith)
    each (suc (suc (suc (suc (suc (suc (suc (suc zero)))))))) part l m = absurd (omega arith)
    each (suc (suc (suc (suc (suc (suc (suc (suc (suc zero))))))))) part l m = absurd (omega arith)
    each (suc (suc (suc (suc (suc (suc (suc (suc (suc (suc zero)))))))))) part l m = absurd (omega arith)
    each (suc (suc (suc (suc (suc (suc (suc (suc (suc (suc (suc zero))))))))))) part l m = absurd (omega arith)
    each (suc (suc (suc (suc (suc (suc (suc (suc (suc (suc (suc (suc k)))))))))))) part l m = absurd (omega arith)
