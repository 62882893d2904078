-- Files that were read, and have the sizes that a job states, fit it.
use Rattle.std.proofs.Common.{◌≡◌, ℕ, ◌<◌, Bool, true, false, not, ◌&&◌, eqb, List, None, refl, arith}
use Rattle.std.proofs.lemmas.Bool.Decides.{nat_tests}
use Rattle.model_defs.specs.declared.job.Job.{Job}
use Rattle.mm_text.specs.Reading.{File}
use Rattle.model_defs.specs.Fitting.{Expected, expected_file, has_sizes, is_sized, first_unfit}
use Rattle.model_defs.specs.Given.{file_count, value_file}
use Rattle.model_defs.specs.Makers.{maker_of, value_count}
use Rattle.job_files.proofs.Expecting.{files-are_sound}
use Rattle.job_fit.specs.Laws.{ReadFilesFit}
use Rattle.job_fit.proofs.Numbers.{find-absent, all-each}

same-sizes : (want : Expected) (file : File) → has_sizes want file ≡ true → (file.rows ≡ want.rows) × (file.cols ≡ want.cols)
same-sizes want file e = by (eqb file.rows want.rows) (eqb file.cols want.cols) (λ h. is file.rows want.rows h) (λ h. is file.cols want.cols h) e
  where
    is : (m n : ℕ) → eqb m n ≡ true → m ≡ n
    is m n h = grind (arith, nat_tests)

    by : (a b : Bool) → (a ≡ true → file.rows ≡ want.rows) → (b ≡ true → file.cols ≡ want.cols) → (a && b) ≡ true → (file.rows ≡ want.rows) × (file.cols ≡ want.cols)
    by true b h k e = (h refl, k e)
    by false b h k e = absurd (cc)

was-true : (b : Bool) → not b ≡ false → b ≡ true
was-true true e = refl
was-true false e = absurd (cc)

-- where no value is unfit, each part of each value has its sizes
sizes-are : (job : Job) (files : List File) → first_unfit job files ≡ None → (k part : ℕ) → k < value_count job → part < file_count (maker_of job k)
    → has_sizes (expected_file job (maker_of job k) part) (value_file job files k part) ≡ true
sizes-are job files none k part l below =
    let sized = was-true (is_sized job files k) (find-absent (λ v. not (is_sized job files v)) (value_count job) 0 none k (omega arith) (omega arith)) in
    all-each (λ p. has_sizes (expected_file job (maker_of job k) p) (value_file job files k p)) (file_count (maker_of job k)) 0 sized part (omega arith) (omega arith)

pub read-files-fit : ReadFilesFit
read-files-fit job source files read none =
    let sound = files-are_sound job source files read in
    record {
      count = sound.0;
      each = λ k part l below.
          let sizes = same-sizes (expected_file job (maker_of job k) part) (value_file job files k part) (sizes-are job files none k part l below) in
          let well = sound.1 k part l below in
          record { rows_are = sizes.0; cols_are = sizes.1; sound = well.0; dense = well.1 };
    }
