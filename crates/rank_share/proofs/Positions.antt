-- Where the values of a job and their files stand.
use Rattle.std.proofs.Common.{◌≡◌, ℕ, zero, suc, false, ◌+◌, ◌-◌, ◌<◌, ◌≤◌, List, [], ◌∷◌, ◌++◌, length, get_or, take, map, refl, sym, ap, ◌∙◌, subst, arith, length-append}
use Rattle.std.specs.Prelude.{sum}
use Rattle.std.proofs.lemmas.List.{length-map, map-append, get_or_append_left, get_or-append-add, get_or-map, take-map, take_all}
use Rattle.map_core.proofs.Blocks.{sum-more}
use Rattle.tables.specs.Indices.{count_from}
use Rattle.tables.proofs.Counting.{count_from-append}
use Rattle.mm_text.specs.declared.file_data.FileData.{FileData}
use Rattle.mm_text.specs.Sound.{IsSound}
use Rattle.mm_text.specs.Reading.{File, file_of}
use Rattle.model_defs.specs.declared.job.Job.{Job}
use Rattle.model_defs.specs.declared.job.Origin.{Origin}
use Rattle.model_defs.specs.declared.job.Origin.TheVariants.{Files, Fill}
use Rattle.model_defs.specs.declared.job.Step.TheVariants as step
use Rattle.model_defs.specs.declared.job.VectorSpec.{VectorSpec}
use Rattle.model_defs.specs.declared.job.PartsSpec.{PartsSpec}
use Rattle.model_defs.specs.declared.job.MatrixSpec.{MatrixSpec}
use Rattle.model_defs.specs.Fitting.{IsFitting, IsExpected, expected_file, file_total}
use Rattle.model_defs.specs.Given.{file_count, origin_files, value_file, no_file}
use Rattle.model_defs.specs.Makers.{Maker, GivenVector, GivenParts, GivenMatrix, Made, makers, maker_of, value_count, gives_value}
use Rattle.model_defs.specs.Valid.{IsValid, IsValidMaker, IsVectorFile, ArePartFiles}
use Rattle.std.proofs.Common.{filter}
use Rattle.rank_share.specs.Conditions.{HasFile, file_at, files_before}
use Rattle.model_defs.specs.Maps.{list_of}
use Rattle.rank_share.specs.Shares.{cell_count, lines_by, value_lines, origin_lines, place_in}

module _ (job : Job) where
  vectors : List Maker
  vectors = map GivenVector job.vectors

  parts : List Maker
  parts = map GivenParts job.parts

  matrices : List Maker
  matrices = map GivenMatrix job.matrices

  steps : List Maker
  steps = map Made (filter gives_value job.steps)

  makers-are : makers job ≡ ((vectors ++ parts) ++ matrices) ++ steps
  unfolding vectors parts matrices steps
  makers-are = refl

  vector-count : length vectors ≡ length job.vectors
  unfolding vectors
  vector-count = length-map job.vectors GivenVector

  parts-count : length parts ≡ length job.parts
  unfolding parts
  parts-count = length-map job.parts GivenParts

  matrix-count : length matrices ≡ length job.matrices
  unfolding matrices
  matrix-count = length-map job.matrices GivenMatrix

  no_maker : Maker
  no_maker = Made (step.Print 0)

  maker-is : (k : ℕ) → maker_of job k ≡ get_or (((vectors ++ parts) ++ matrices) ++ steps) k no_maker
  unfolding no_maker
  maker-is k = ap (λ ms. get_or ms k (Made (step.Print 0))) makers-are

  pub cells-before : cell_count job ≤ value_count job
  cells-before =
      let a = ap length makers-are in
      let b = length-append ((vectors ++ parts) ++ matrices) steps in
      let c = length-append (vectors ++ parts) matrices in
      let d = length-append vectors parts in
      let e = vector-count in
      let f = parts-count in
      omega arith

  pub matrices-before : (m : ℕ) → m < length job.matrices → cell_count job + m < value_count job
  matrices-before m l =
      let a = ap length makers-are in
      let b = length-append ((vectors ++ parts) ++ matrices) steps in
      let c = length-append (vectors ++ parts) matrices in
      let d = length-append vectors parts in
      let e = vector-count in
      let f = parts-count in
      let g = matrix-count in
      omega arith

  pub maker-vector : (k : ℕ) (d : VectorSpec) → k < length job.vectors → maker_of job k ≡ GivenVector (get_or job.vectors k d)
  unfolding vectors
  maker-vector k d l =
      let b = length-append (vectors ++ parts) matrices in
      let c = length-append vectors parts in
      let e = vector-count in
      maker-is k
      ∙ get_or_append_left ((vectors ++ parts) ++ matrices) steps no_maker k (omega arith)
      ∙ get_or_append_left (vectors ++ parts) matrices no_maker k (omega arith)
      ∙ get_or_append_left vectors parts no_maker k (omega arith)
      ∙ get_or-map GivenVector job.vectors k d no_maker l

  pub maker-parts : (m : ℕ) (d : PartsSpec) → m < length job.parts → maker_of job (length job.vectors + m) ≡ GivenParts (get_or job.parts m d)
  unfolding parts
  maker-parts m d l =
      let b = length-append (vectors ++ parts) matrices in
      let c = length-append vectors parts in
      let e = vector-count in
      let f = parts-count in
      maker-is (length job.vectors + m)
      ∙ get_or_append_left ((vectors ++ parts) ++ matrices) steps no_maker (length job.vectors + m) (omega arith)
      ∙ get_or_append_left (vectors ++ parts) matrices no_maker (length job.vectors + m) (omega arith)
      ∙ ap (λ n. get_or (vectors ++ parts) (n + m) no_maker) (sym e)
      ∙ get_or-append-add vectors parts m no_maker
      ∙ get_or-map GivenParts job.parts m d no_maker l

  pub maker-matrix : (m : ℕ) (d : MatrixSpec) → m < length job.matrices → maker_of job (cell_count job + m) ≡ GivenMatrix (get_or job.matrices m d)
  unfolding matrices
  maker-matrix m d l =
      let b = length-append (vectors ++ parts) matrices in
      let c = length-append vectors parts in
      let e = vector-count in
      let f = parts-count in
      let g = matrix-count in
      maker-is (cell_count job + m)
      ∙ get_or_append_left ((vectors ++ parts) ++ matrices) steps no_maker (cell_count job + m) (omega arith)
      ∙ ap (λ n. get_or ((vectors ++ parts) ++ matrices) n no_maker) (let h : cell_count job + m ≡ length (vectors ++ parts) + m = omega arith in h)
      ∙ get_or-append-add (vectors ++ parts) matrices m no_maker
      ∙ get_or-map GivenMatrix job.matrices m d no_maker l

  -- the files of one more value
  pub files-more : (k : ℕ) → k < value_count job → files_before job (k + 1) ≡ files_before job k + file_count (maker_of job k)
  files-more k l =
      ap sum (sym (take-map file_count (k + 1) (makers job)))
      ∙ ap (λ n. sum (take n (map file_count (makers job)))) (let h : k + 1 ≡ suc k = omega arith in h)
      ∙ sum-more (map file_count (makers job)) k
      ∙ (λ t. sum (take-map file_count k (makers job) t) + get_or-map file_count (makers job) k (Made (step.Print 0)) 0 l t)

  -- no file of a value stands beyond all
  files-upto : (n k : ℕ) → k + n ≡ value_count job → files_before job k ≤ file_total job
  files-upto zero k e = let all = ap (λ ms. sum (map file_count ms)) (take_all k (makers job) (omega arith)) in omega arith
  files-upto (suc n) k e =
      let rest = files-upto n (k + 1) (omega arith) in
      let more = files-more k (omega arith) in
      omega arith

  pub files-below : (k : ℕ) → k < value_count job → files_before job k + file_count (maker_of job k) ≤ file_total job
  files-below k l =
      let more = files-more k l in
      let rest = files-upto (value_count job - (k + 1)) (k + 1) (omega arith) in
      omega arith

no_matrix : MatrixSpec
no_matrix = record { name = []; split = false; rows = 0; domain = 0; file = [] }

module _ (job : Job) (files : List File) (valid : IsValid job) (fitting : IsFitting job files) where
  -- the file of a part of a value is there, and is as the job states it
  file-there : (k part : ℕ) → k < value_count job → part < file_count (maker_of job k)
      → (files_before job k + part < length files) × IsExpected (expected_file job (maker_of job k) part) (file_at files (files_before job k + part))
  file-there k part l below = (let within = files-below job k l in let count = fitting.count in omega arith, fitting.each k part l below)

  pub vector-file : (k at : ℕ) (spec : VectorSpec) → k < value_count job → maker_of job k ≡ GivenVector spec → at ≡ files_before job k → HasFile (expected_file job (GivenVector spec) 0) files at spec.from
  vector-file k at spec l maker is = by spec.from refl
    where
      by : (from : Origin) → spec.from ≡ from → HasFile (expected_file job (GivenVector spec) 0) files at from
      by (Fill v) e = tt
      by (Files names) e =
          let one : length names ≡ 1 = subst IsVectorFile e (subst (IsValidMaker job k) maker (valid.values k l)).1 in
          let count : file_count (maker_of job k) ≡ length names = ap file_count maker ∙ ap (λ o. length (origin_files o)) e in
          let there = file-there k 0 l (omega arith) in (
            let w = there.0 in omega arith,
            subst (λ n. IsExpected (expected_file job (GivenVector spec) 0) (file_at files n)) (let h : files_before job k + 0 ≡ at = omega arith in h)
                (subst (λ m. IsExpected (expected_file job m 0) (file_at files (files_before job k + 0))) maker there.1),
          )

  pub parts-file : (k at p : ℕ) (spec : PartsSpec) → k < value_count job → maker_of job k ≡ GivenParts spec → at ≡ files_before job k → p < job.ranks → HasFile (expected_file job (GivenParts spec) p) files (at + p) spec.from
  parts-file k at p spec l maker is rank = by spec.from refl
    where
      by : (from : Origin) → spec.from ≡ from → HasFile (expected_file job (GivenParts spec) p) files (at + p) from
      by (Fill v) e = tt
      by (Files names) e =
          let all : length names ≡ job.ranks = subst (ArePartFiles job.ranks) e (subst (IsValidMaker job k) maker (valid.values k l)).1 in
          let count : file_count (maker_of job k) ≡ length names = ap file_count maker ∙ ap (λ o. length (origin_files o)) e in
          let there = file-there k p l (omega arith) in (
            let w = there.0 in omega arith,
            subst (λ n. IsExpected (expected_file job (GivenParts spec) p) (file_at files (n + p))) (sym is)
                (subst (λ m. IsExpected (expected_file job m p) (file_at files (files_before job k + p))) maker there.1),
          )

  pub is_vector : (k : ℕ) (specs : List VectorSpec) (spec : VectorSpec) → k < length specs → specs ≡ job.vectors → spec ≡ get_or specs k spec → maker_of job k ≡ GivenVector spec
  is_vector k specs spec l same read =
      maker-vector job k spec (subst (λ xs. k < length xs) same l) ∙ ap GivenVector (ap (λ xs. get_or xs k spec) (sym same) ∙ sym read)

  pub is_parts : (m : ℕ) (specs : List PartsSpec) (spec : PartsSpec) → m < length specs → specs ≡ job.parts → spec ≡ get_or specs m spec → maker_of job (length job.vectors + m) ≡ GivenParts spec
  is_parts m specs spec l same read =
      maker-parts job m spec (subst (λ xs. m < length xs) same l) ∙ ap GivenParts (ap (λ xs. get_or xs m spec) (sym same) ∙ sym read)

  -- a vector, the number of its map, and its place
  pub vector-map : (k : ℕ) (spec : VectorSpec) → k < value_count job → maker_of job k ≡ GivenVector spec → spec.map < length job.maps
  vector-map k spec l maker = (subst (IsValidMaker job k) maker (valid.values k l)).0.0

  pub parts-map : (k : ℕ) (spec : PartsSpec) → k < value_count job → maker_of job k ≡ GivenParts spec → spec.map < length job.maps
  parts-map k spec l maker = (subst (IsValidMaker job k) maker (valid.values k l)).0

  pub vector-lines : (p k at : ℕ) (spec : VectorSpec) → maker_of job k ≡ GivenVector spec → at ≡ files_before job k
      → origin_lines (λ g. g) (list_of job spec.map p) spec.columns spec.from (file_at files at) ≡ value_lines job files p k
  vector-lines p k at spec maker is =
      ap (λ n. origin_lines (λ g. g) (list_of job spec.map p) spec.columns spec.from (file_at files n)) (let h : at ≡ files_before job k + 0 = omega arith in h)
      ∙ ap (lines_by job files p k) (sym maker)

  pub parts-lines : (p k at : ℕ) (spec : PartsSpec) → maker_of job k ≡ GivenParts spec → at ≡ files_before job k
      → origin_lines (place_in (list_of job spec.map p)) (list_of job spec.map p) spec.columns spec.from (file_at files (at + p)) ≡ value_lines job files p k
  parts-lines p k at spec maker is =
      ap (λ n. origin_lines (place_in (list_of job spec.map p)) (list_of job spec.map p) spec.columns spec.from (file_at files (n + p))) is
      ∙ ap (lines_by job files p k) (sym maker)

  pub next-file : (k at count : ℕ) (m : Maker) → k < value_count job → maker_of job k ≡ m → at ≡ files_before job k → count ≡ file_count m → at + count ≡ files_before job (k + 1)
  next-file k at count m l maker is many = let more = files-more job k l in let same = ap file_count maker in omega arith

  pub next-below : (k at count : ℕ) (m : Maker) → k < value_count job → maker_of job k ≡ m → at ≡ files_before job k → count ≡ file_count m → at + count ≤ length files
  next-below k at count m l maker is many = let within = files-below job k l in let same = ap file_count maker in let all = fitting.count in omega arith

  -- the files of the matrices, one each
  pub matrix-files : (m : ℕ) → m ≤ length job.matrices → files_before job (cell_count job + m) ≡ files_before job (cell_count job) + m
  matrix-files zero l = let h : files_before job (cell_count job + 0) ≡ files_before job (cell_count job) = ap (files_before job) (omega arith) in omega arith
  matrix-files (suc m) l =
      let rest = matrix-files m (omega arith) in
      let known = matrices-before job m (omega arith) in
      let more = files-more job (cell_count job + m) known in
      let one : file_count (maker_of job (cell_count job + m)) ≡ 1 = ap file_count (maker-matrix job m no_matrix (omega arith)) in
      let same : files_before job (cell_count job + suc m) ≡ files_before job (cell_count job + m + 1) = ap (files_before job) (omega arith) in
      omega arith

  pub matrix-there : (m first : ℕ) → m < length job.matrices → first ≡ files_before job (cell_count job) → first + m < length files
  matrix-there m first l is =
      let known = matrices-before job m l in
      let one : file_count (maker_of job (cell_count job + m)) ≡ 1 = ap file_count (maker-matrix job m no_matrix l) in
      let there = (file-there (cell_count job + m) 0 known (omega arith)).0 in
      let at = matrix-files m (omega arith) in
      omega arith

  pub matrix-file : (m first : ℕ) → m < length job.matrices → first ≡ files_before job (cell_count job) → file_at files (first + m) ≡ value_file job files (cell_count job + m) 0
  matrix-file m first l is = let at = matrix-files m (omega arith) in ap (file_at files) (let h : first + m ≡ files_before job (cell_count job + m) + 0 = omega arith in h)

  pub matrix-sound : (m first : ℕ) → m < length job.matrices → first ≡ files_before job (cell_count job) → IsSound (file_at files (first + m))
  matrix-sound m first l is =
      let known = matrices-before job m l in
      let one : file_count (maker_of job (cell_count job + m)) ≡ 1 = ap file_count (maker-matrix job m no_matrix l) in
      subst IsSound (sym (matrix-file m first l is)) (fitting.each (cell_count job + m) 0 known (omega arith)).sound

-- One more of what each number from n on has.
pub map-more : {A : Type 0} (f : ℕ → A) (n k : ℕ) (done : List A) (x : A) → done ≡ map f (count_from n k) → x ≡ f (n + k) → done ++ x ∷ [] ≡ map f (count_from n (k + 1))
map-more f n k done x is next =
    (λ t. is t ++ next t ∷ []) ∙ sym (ap (map f) (count_from-append n k 1) ∙ map-append f (count_from n k) (count_from (n + k) 1))

-- the file of a list that was read
pub file-read : (all : List FileData) (i : ℕ) (d : FileData) → i < length all → d ≡ get_or all i d → file_of d ≡ file_at (map file_of all) i
file-read all i d l read = ap file_of read ∙ sym (get_or-map file_of all i d no_file l)

pub vector-known : (job : Job) (k : ℕ) (specs : List VectorSpec) → k < length specs → specs ≡ job.vectors → k < value_count job
vector-known job k specs l same = let a = ap length same in let b = cells-before job in omega arith

pub parts-known : (job : Job) (m : ℕ) (specs : List PartsSpec) → m < length specs → specs ≡ job.parts → length job.vectors + m < value_count job
parts-known job m specs l same = let a = ap length same in let b = cells-before job in omega arith
