-- What was found of one value's files, and of the values before it.
use Rattle.std.proofs.Common.{◌≡◌, ℕ, ◌+◌, ◌<◌, ◌≤◌, Bool, true, false, ◌&&◌, eqb, List, Some, length, get_or, map, sym, ap, ◌∙◌, subst, arith}
use Rattle.std.proofs.lemmas.List.{get_or-map}
use Rattle.mm_text.specs.declared.file_data.FileData.{FileData}
use Rattle.mm_text.specs.Reading.{File, file_of}
use Rattle.model_defs.specs.declared.job.Job.{Job}
use Rattle.model_defs.specs.declared.job.Origin.{Origin}
use Rattle.model_defs.specs.declared.job.Origin.TheVariants.{Files, Fill}
use Rattle.model_defs.specs.declared.job.VectorSpec.{VectorSpec}
use Rattle.model_defs.specs.declared.job.PartsSpec.{PartsSpec}
use Rattle.model_defs.specs.declared.job.MatrixSpec.{MatrixSpec}
use Rattle.model_defs.specs.Fitting.{expected_file, has_sizes, first_unfit}
use Rattle.model_defs.specs.Given.{no_file, origin_files}
use Rattle.model_defs.specs.Makers.{Maker, GivenVector, GivenParts, GivenMatrix, maker_of, value_count}
use Rattle.model_defs.specs.Valid.{IsValid, IsValidMaker, ArePartFiles}
use Rattle.job_fit.specs.Walk.{files_before, part_fits, parts_fit, unfit_from}
use Rattle.job_fit.proofs.Positions.{given-before, maker-vector, maker-parts, maker-matrix, sized-at, fits-next, unfit-here}

-- the file of a part that was read and compared
pub part-read : (job : Job) (all : List FileData) (at part : ℕ) (m : Maker) (d : FileData) (rows cols : ℕ) (b c : Bool) → at + part < length all → d ≡ get_or all (at + part) d
    → rows ≡ (expected_file job m part).rows → cols ≡ (expected_file job m part).cols → b ≡ (eqb d.rows rows && eqb d.cols cols) → b ≡ c
    → part_fits job (map file_of all) at m part ≡ c
part-read job all at part m d rows cols b c l read r s test is =
    ap (has_sizes (expected_file job m part)) (get_or-map file_of all (at + part) d no_file l ∙ ap file_of (sym read))
    ∙ sym ((λ t. eqb d.rows (r t) && eqb d.cols (s t)))
    ∙ sym test ∙ is

module _ (job : Job) where
  pub is-vector : (k : ℕ) (specs : List VectorSpec) (spec : VectorSpec) → k < length specs → specs ≡ job.vectors → spec ≡ get_or specs k spec
      → (k < value_count job) × (maker_of job k ≡ GivenVector spec)
  is-vector k specs spec l same read =
      let many = ap length same in
      let all = given-before job in
      (omega arith, maker-vector job k spec (omega arith) ∙ ap GivenVector (ap (λ xs. get_or xs k spec) (sym same) ∙ sym read))

  pub is-parts : (m : ℕ) (specs : List PartsSpec) (spec : PartsSpec) → m < length specs → specs ≡ job.parts → spec ≡ get_or specs m spec
      → (length job.vectors + m < value_count job) × (maker_of job (length job.vectors + m) ≡ GivenParts spec)
  is-parts m specs spec l same read =
      let many = ap length same in
      let all = given-before job in
      (omega arith, maker-parts job m spec (omega arith) ∙ ap GivenParts (ap (λ xs. get_or xs m spec) (sym same) ∙ sym read))

  pub is-matrix : (m : ℕ) (specs : List MatrixSpec) (spec : MatrixSpec) → m < length specs → specs ≡ job.matrices → spec ≡ get_or specs m spec
      → (length job.vectors + length job.parts + m < value_count job) × (maker_of job (length job.vectors + length job.parts + m) ≡ GivenMatrix spec)
  is-matrix m specs spec l same read =
      let many = ap length same in
      let all = given-before job in
      (omega arith, maker-matrix job m spec (omega arith) ∙ ap GivenMatrix (ap (λ xs. get_or xs m spec) (sym same) ∙ sym read))

  -- parts have a map, and a file for each rank, or none
  pub parts-known : IsValid job → (k : ℕ) (spec : PartsSpec) → k < value_count job → maker_of job k ≡ GivenParts spec → spec.map < length job.maps
  parts-known valid k spec l maker = (subst (IsValidMaker job k) maker (valid.values k l)).0

  pub parts-few : IsValid job → (k : ℕ) (spec : PartsSpec) → k < value_count job → maker_of job k ≡ GivenParts spec → length (origin_files spec.from) ≤ job.ranks
  parts-few valid k spec l maker = by spec.from (subst (IsValidMaker job k) maker (valid.values k l)).1
    where
      by : (from : Origin) → ArePartFiles job.ranks from → length (origin_files from) ≤ job.ranks
      by (Files names) e = omega arith
      by (Fill v) e = omega arith

  module _ (files : List File) where
    -- the value whose files do not fit is the first one
    pub misfit : (k at value : ℕ) (m : Maker) (b : Bool) → k < value_count job → maker_of job k ≡ m → at ≡ files_before job k → first_unfit job files ≡ unfit_from job files k
        → b ≡ parts_fit job files at m → b ≡ false → k ≡ value → first_unfit job files ≡ Some value
    misfit k at value m b l maker is before found test same = before ∙ unfit-here job files k l (sized-at job files k at m false b maker is found test) ∙ ap Some same

    -- one value more
    pub fits : (k at : ℕ) (m : Maker) (b : Bool) → k < value_count job → maker_of job k ≡ m → at ≡ files_before job k → first_unfit job files ≡ unfit_from job files k
        → b ≡ parts_fit job files at m → b ≡ true → first_unfit job files ≡ unfit_from job files (k + 1)
    fits k at m b l maker is before found test = before ∙ fits-next job files k l (sized-at job files k at m true b maker is found test)
