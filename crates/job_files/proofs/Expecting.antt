-- The files of a job are as many as it names, and sound in the form in which they are read.
use Rattle.std.proofs.Common.{◌≡◌, ◌<◌, ◌+◌, ℕ, zero, suc, Bool, true, false, cond, leb, sum, List, [], ◌∷◌, length, get_or, map, take, Ok, refl, sym, ap, ◌∙◌, arith}
use Rattle.std.specs.List.{flat_map}
use Rattle.std.proofs.lemmas.List.{length-append, length-map}
use Rattle.std.proofs.lemmas.List.Concat.{get_or-flat_map}
use Rattle.std.proofs.lemmas.List.Folds.{length-flat_map-take}
use Rattle.std.proofs.lemmas.List.Sums.{sum-map, sum_by-cons}
use Rattle.outside.specs.Reads.{Source}
use Rattle.mm_text.specs.declared.file_data.Form.TheVariants as form
use Rattle.mm_text.specs.Reading.{File}
use Rattle.mm_text.specs.Sound.{IsDense, IsSound}
use Rattle.mm_text.proofs.SoundLemmas.{reading_kept}
use Rattle.model_defs.specs.declared.job.Job.{Job}
use Rattle.model_defs.specs.declared.job.Step.TheVariants as step
use Rattle.model_defs.specs.Fitting.{expected_file, file_total, vector_form}
use Rattle.model_defs.specs.Given.{file_count, no_file, origin_files, value_file}
use Rattle.model_defs.specs.Limits.{most_indices}
use Rattle.model_defs.specs.Makers.{Maker, GivenVector, GivenParts, GivenMatrix, Made, maker_of, makers, value_count}
use Rattle.model_defs.specs.Maps.{size_of}
use Rattle.job_files.specs.declared.wanted.FileKind.{FileKind}
use Rattle.job_files.specs.declared.wanted.FileKind.TheVariants.{Array, LargeCoordinate}
use Rattle.job_files.specs.Steps.{IsRead}
use Rattle.job_files.specs.Walk.{files_of, most_entries}
use Rattle.job_files.specs.Wanted.{Wanted, form_of, profile_for, vector_kind, wanted, wanted_as, wanted_by}
use Rattle.job_files.proofs.Walking.{are_read, as_many}

-- as many are wanted as a value has
wanted_many : (job : Job) (m : Maker) → length (wanted_by job m) ≡ file_count m
wanted_many job (GivenVector spec) = length-map (origin_files spec.from) (wanted_as (vector_kind (size_of job spec.map)))
wanted_many job (GivenParts spec) = length-map (origin_files spec.from) (wanted_as Array)
wanted_many job (GivenMatrix spec) = refl
wanted_many job (Made step) = refl

wanted_total : (job : Job) (ms : List Maker) → length (flat_map (wanted_by job) ms) ≡ sum (map file_count ms)
wanted_total job [] = refl
wanted_total job (m ∷ ms) =
    length-append (wanted_by job m) (flat_map (wanted_by job) ms)
    ∙ ap (λ n. n + length (flat_map (wanted_by job) ms)) (wanted_many job m)
    ∙ ap (λ n. file_count m + n) (wanted_total job ms ∙ sum-map file_count ms)
    ∙ sym (sum_by-cons file_count m ms) ∙ sym (sum-map file_count (m ∷ ms))

-- each in the form that is expected
kind_at : (kind : FileKind) (names : List (List ℕ)) (part : ℕ) (d : Wanted) → part < length names → (get_or (map (wanted_as kind) names) part d).kind ≡ kind
kind_at kind [] part d h = absurd (omega arith)
kind_at kind (name ∷ names) zero d h = refl
kind_at kind (name ∷ names) (suc part) d h = kind_at kind names part d (omega arith)

vector_form_is : (size : ℕ) → form_of (vector_kind size) ≡ vector_form size
vector_form_is size = by (leb size most_indices)
  where
    by : (b : Bool) → form_of (cond b Array LargeCoordinate) ≡ cond b form.Array form.Coordinate
    by true = refl
    by false = refl

form_at : (job : Job) (m : Maker) (part : ℕ) (d : Wanted) → part < file_count m → form_of (get_or (wanted_by job m) part d).kind ≡ (expected_file job m part).form
form_at job (GivenVector spec) part d h =
    ap form_of (kind_at (vector_kind (size_of job spec.map)) (origin_files spec.from) part d h) ∙ vector_form_is (size_of job spec.map)
form_at job (GivenParts spec) part d h = ap form_of (kind_at Array (origin_files spec.from) part d h)
form_at job (GivenMatrix spec) zero d h = refl
form_at job (GivenMatrix spec) (suc part) d h = absurd (omega arith)
form_at job (Made step) part d h = absurd (omega arith)

-- a file that was read is sound
read_sound : (source : Source) (w : Wanted) (file : File) → IsRead source w file → IsSound file × (form_of w.kind ≡ form.Array → IsDense file)
read_sound source w file read =
    let kept = reading_kept (profile_for read.room w.kind) read.text file read.is in (kept.sound, kept.limits.array)

-- the place of a value's file among all
file_at : (job : Job) (ms : List Maker) (k part : ℕ) (e : Maker) (d : Wanted) → k < length ms → part < file_count (get_or ms k e)
    → (get_or (flat_map (wanted_by job) ms) (sum (map file_count (take k ms)) + part) d ≡ get_or (wanted_by job (get_or ms k e)) part d)
    × (sum (map file_count (take k ms)) + part < length (flat_map (wanted_by job) ms))
file_at job ms k part e d h within =
    let many = wanted_many job (get_or ms k e) in
    let before = wanted_total job (take k ms) in
    let inside : part < length (wanted_by job (get_or ms k e)) = omega arith in (
      ap (λ n. get_or (flat_map (wanted_by job) ms) (n + part) d) (sym before) ∙ get_or-flat_map (wanted_by job) ms k part e d h inside,
      omega (arith, length-flat_map-take (wanted_by job) ms k e h),
    )

pub files-are_sound : (job : Job) (source : Source) (files : List File) → files_of job source ≡ Ok files
    → (length files ≡ file_total job)
    × ((k part : ℕ) → k < value_count job → part < file_count (maker_of job k)
    → IsSound (value_file job files k part) × ((expected_file job (maker_of job k) part).form ≡ form.Array → IsDense (value_file job files k part)))
files-are_sound job source files e =
    let many = as_many source (wanted job) most_entries files e in (
      many ∙ wanted_total job (makers job),
      λ k part h within.
          let d = wanted_as Array [] in
          let at = file_at job (makers job) k part (Made (step.Print 0)) d h within in
          let read = read_sound source _ _ (are_read source (wanted job) most_entries files e (sum (map file_count (take k (makers job))) + part) d no_file (omega (arith, many, at.1))) in
          (read.0, λ array. read.1 (ap (λ (w : Wanted). form_of w.kind) at.0 ∙ form_at job (maker_of job k) part d within ∙ array)),
    )
