-- Where the values of a job and their files stand.
use Rattle.std.proofs.Common.{◌≡◌, ℕ, zero, suc, true, false, Bool, not, ◌+◌, ◌-◌, ◌<◌, ◌≤◌, List, [], ◌∷◌, ◌++◌, None, Some, length, get_or, take, map, filter, refl, sym, ap, ◌∙◌, arith, length-append}
use Rattle.std.specs.Prelude.{sum}
use Rattle.std.specs.List.{list_all, find}
use Rattle.std.proofs.lemmas.List.{length-map, get_or_append_left, get_or-append-add, get_or-map, take-map, take_all}
use Rattle.map_core.proofs.Blocks.{sum-more}
use Rattle.tables.specs.Indices.{count_from}
use Rattle.mm_text.specs.Reading.{File}
use Rattle.model_defs.specs.declared.job.Job.{Job}
use Rattle.model_defs.specs.declared.job.Step.{Step}
use Rattle.model_defs.specs.declared.job.Step.TheVariants as step
use Rattle.model_defs.specs.declared.job.VectorSpec.{VectorSpec}
use Rattle.model_defs.specs.declared.job.PartsSpec.{PartsSpec}
use Rattle.model_defs.specs.declared.job.MatrixSpec.{MatrixSpec}
use Rattle.model_defs.specs.Fitting.{expected_file, has_sizes, is_sized, first_unfit, file_total}
use Rattle.model_defs.specs.Given.{file_count, value_file}
use Rattle.model_defs.specs.Makers.{Maker, GivenVector, GivenParts, GivenMatrix, Made, makers, maker_of, value_count, gives_value}
use Rattle.job_fit.specs.Walk.{files_before, parts_fit, unfit_from}
use Rattle.job_fit.proofs.Numbers.{find-next, find-here, find-none}

-- a statement has no file
made-none : (steps : List Step) (j : ℕ) → file_count (get_or (map Made steps) j (Made (step.Print 0))) ≡ 0
made-none [] j = refl
made-none (s ∷ ss) zero = refl
made-none (s ∷ ss) (suc j) = made-none ss j

module _ (job : Job) where
  vectors : List Maker
  vectors = map GivenVector job.vectors

  parts : List Maker
  parts = map GivenParts job.parts

  matrices : List Maker
  matrices = map GivenMatrix job.matrices

  steps : List Maker
  steps = map Made (filter gives_value job.steps)

  makers-are : makers job ≡ ((vectors ++ parts) ++ matrices) ++ steps
  unfolding vectors parts matrices steps
  makers-are = refl

  vector-count : length vectors ≡ length job.vectors
  unfolding vectors
  vector-count = length-map job.vectors GivenVector

  parts-count : length parts ≡ length job.parts
  unfolding parts
  parts-count = length-map job.parts GivenParts

  matrix-count : length matrices ≡ length job.matrices
  unfolding matrices
  matrix-count = length-map job.matrices GivenMatrix

  no_maker : Maker
  no_maker = Made (step.Print 0)

  maker-is : (k : ℕ) → maker_of job k ≡ get_or (((vectors ++ parts) ++ matrices) ++ steps) k no_maker
  unfolding no_maker
  maker-is k = ap (λ ms. get_or ms k (Made (step.Print 0))) makers-are

  -- the given values come first
  pub given-before : length job.vectors + length job.parts + length job.matrices ≤ value_count job
  given-before =
      let a = ap length makers-are in
      let b = length-append ((vectors ++ parts) ++ matrices) steps in
      let c = length-append (vectors ++ parts) matrices in
      let d = length-append vectors parts in
      let e = vector-count in
      let f = parts-count in
      let g = matrix-count in
      omega arith

  pub maker-vector : (k : ℕ) (d : VectorSpec) → k < length job.vectors → maker_of job k ≡ GivenVector (get_or job.vectors k d)
  unfolding vectors
  maker-vector k d l =
      let b = length-append (vectors ++ parts) matrices in
      let c = length-append vectors parts in
      let e = vector-count in
      maker-is k
      ∙ get_or_append_left ((vectors ++ parts) ++ matrices) steps no_maker k (omega arith)
      ∙ get_or_append_left (vectors ++ parts) matrices no_maker k (omega arith)
      ∙ get_or_append_left vectors parts no_maker k (omega arith)
      ∙ get_or-map GivenVector job.vectors k d no_maker l

  pub maker-parts : (m : ℕ) (d : PartsSpec) → m < length job.parts → maker_of job (length job.vectors + m) ≡ GivenParts (get_or job.parts m d)
  unfolding parts
  maker-parts m d l =
      let b = length-append (vectors ++ parts) matrices in
      let c = length-append vectors parts in
      let e = vector-count in
      let f = parts-count in
      maker-is (length job.vectors + m)
      ∙ get_or_append_left ((vectors ++ parts) ++ matrices) steps no_maker (length job.vectors + m) (omega arith)
      ∙ get_or_append_left (vectors ++ parts) matrices no_maker (length job.vectors + m) (omega arith)
      ∙ ap (λ n. get_or (vectors ++ parts) (n + m) no_maker) (sym e)
      ∙ get_or-append-add vectors parts m no_maker
      ∙ get_or-map GivenParts job.parts m d no_maker l

  pub maker-matrix : (m : ℕ) (d : MatrixSpec) → m < length job.matrices → maker_of job (length job.vectors + length job.parts + m) ≡ GivenMatrix (get_or job.matrices m d)
  unfolding matrices
  maker-matrix m d l =
      let b = length-append (vectors ++ parts) matrices in
      let c = length-append vectors parts in
      let e = vector-count in
      let f = parts-count in
      let g = matrix-count in
      maker-is (length job.vectors + length job.parts + m)
      ∙ get_or_append_left ((vectors ++ parts) ++ matrices) steps no_maker (length job.vectors + length job.parts + m) (omega arith)
      ∙ ap (λ n. get_or ((vectors ++ parts) ++ matrices) n no_maker) (let h : length job.vectors + length job.parts + m ≡ length (vectors ++ parts) + m = omega arith in h)
      ∙ get_or-append-add (vectors ++ parts) matrices m no_maker
      ∙ get_or-map GivenMatrix job.matrices m d no_maker l

  -- the values behind the given ones have no files
  no-files : (k : ℕ) → length job.vectors + length job.parts + length job.matrices ≤ k → file_count (maker_of job k) ≡ 0
  unfolding steps no_maker
  no-files k l =
      let b = length-append (vectors ++ parts) matrices in
      let c = length-append vectors parts in
      let e = vector-count in
      let f = parts-count in
      let g = matrix-count in
      let n : ℕ = length ((vectors ++ parts) ++ matrices) in
      let at : k ≡ n + (k - n) = omega arith in
      ap file_count (maker-is k ∙ ap (λ i. get_or (((vectors ++ parts) ++ matrices) ++ steps) i no_maker) at ∙ get_or-append-add ((vectors ++ parts) ++ matrices) steps (k - n) no_maker)
      ∙ made-none (filter gives_value job.steps) (k - n)

  -- the files of one more value
  pub files-more : (k : ℕ) → k < value_count job → files_before job (k + 1) ≡ files_before job k + file_count (maker_of job k)
  files-more k l =
      ap sum (sym (take-map file_count (k + 1) (makers job)))
      ∙ ap (λ n. sum (take n (map file_count (makers job)))) (let h : k + 1 ≡ suc k = omega arith in h)
      ∙ sum-more (map file_count (makers job)) k
      ∙ (λ t. sum (take-map file_count k (makers job) t) + get_or-map file_count (makers job) k (Made (step.Print 0)) 0 l t)

  -- no file of a value stands beyond all
  files-upto : (n k : ℕ) → k + n ≡ value_count job → files_before job k ≤ file_total job
  files-upto zero k e = let all = ap (λ ms. sum (map file_count ms)) (take_all k (makers job) (omega arith)) in omega arith
  files-upto (suc n) k e =
      let rest = files-upto n (k + 1) (omega arith) in
      let more = files-more k (omega arith) in
      omega arith

  files-below : (k : ℕ) → k < value_count job → files_before job k + file_count (maker_of job k) ≤ file_total job
  files-below k l =
      let more = files-more k l in
      let rest = files-upto (value_count job - (k + 1)) (k + 1) (omega arith) in
      omega arith

module _ (job : Job) (files : List File) where
  unfit : ℕ → Bool
  unfit v = not (is_sized job files v)

  -- the files of a value are there, and the next value's stand behind them
  pub files-there : (k at count : ℕ) (m : Maker) → length files ≡ file_total job → k < value_count job → maker_of job k ≡ m → at ≡ files_before job k → count ≡ file_count m → at + count ≤ length files
  files-there k at count m all l maker is many = let within = files-below job k l in let same = ap file_count maker in omega arith

  pub files-next : (k at count : ℕ) (m : Maker) → k < value_count job → maker_of job k ≡ m → at ≡ files_before job k → count ≡ file_count m → at + count ≡ files_before job (k + 1)
  files-next k at count m l maker is many = let more = files-more job k l in let same = ap file_count maker in omega arith

  -- what was found of the files from a place on, and of the value whose files they are
  pub sized-at : (k at : ℕ) (m : Maker) (b c : Bool) → maker_of job k ≡ m → at ≡ files_before job k → c ≡ parts_fit job files at m → c ≡ b → is_sized job files k ≡ b
  sized-at k at m b c maker is found test =
      sym (sym test ∙ found ∙ ap (λ n. parts_fit job files n m) is ∙ ap (parts_fit job files (files_before job k)) (sym maker))

  pub first-from : first_unfit job files ≡ unfit_from job files 0
  first-from = ap (λ n. find (λ v. not (is_sized job files v)) (count_from 0 n)) (let h : value_count job ≡ value_count job - 0 = omega arith in h)

  -- the next value
  pub fits-next : (k : ℕ) → k < value_count job → is_sized job files k ≡ true → unfit_from job files k ≡ unfit_from job files (k + 1)
  fits-next k l e = find-next (λ v. not (is_sized job files v)) (value_count job) k l (ap not e)

  pub unfit-here : (k : ℕ) → k < value_count job → is_sized job files k ≡ false → unfit_from job files k ≡ Some k
  unfit-here k l e = find-here (λ v. not (is_sized job files v)) (value_count job) k l (ap not e)

  -- behind the given values all fit
  pub fits-all : unfit_from job files (length job.vectors + length job.parts + length job.matrices) ≡ None
  fits-all = find-none (λ v. not (is_sized job files v)) _ _ (λ v a b. ap not (ap (λ n. list_all (λ part. has_sizes (expected_file job (maker_of job v) part) (value_file job files v part)) (count_from 0 n)) (no-files job v a)))
