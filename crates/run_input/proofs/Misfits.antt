-- The first value of which a file has other sizes than the job states.
use Rattle.std.proofs.Common.{◌≡◌, ◌<◌, ◌≤◌, ◌+◌, ℕ, Bool, true, false, not, cond, zero, suc, List, [], ◌∷◌, ◌++◌, ◌-◌, length, get_or, map, filter, length-append, Some, refl, sym, ap, ◌∙◌, inl, inr, arith}
use Rattle.std.specs.List.{list_all, find}
use Rattle.std.proofs.lemmas.Bool.{cases_lt}
use Rattle.std.proofs.lemmas.List.{length-map, get_or-append-add}
use Rattle.tables.specs.Indices.{count_from}
use Rattle.mm_text.specs.Reading.{File}
use Rattle.model_defs.specs.declared.job.Job.{Job}
use Rattle.model_defs.specs.Fitting.{expected_file, first_unfit, has_sizes, is_sized}
use Rattle.model_defs.specs.declared.job.Step.{Step}
use Rattle.model_defs.specs.declared.job.Step.TheVariants as step
use Rattle.model_defs.specs.Given.{file_count, value_file}
use Rattle.model_defs.specs.Makers.{Maker, GivenVector, GivenParts, GivenMatrix, Made, gives_value, maker_of, value_count}

passes_at : (p : ℕ → Bool) (x : ℕ) (xs : List ℕ) (k : ℕ) (b : Bool) → p x ≡ b → (find p xs ≡ Some k → p k ≡ true) → cond b (Some x) (find p xs) ≡ Some k → p k ≡ true
passes_at p x xs k true is later e = let same : x ≡ k = cc in ap p (sym same) ∙ is
passes_at p x xs k false is later e = later e

-- what is found passes the test
found_passes : (p : ℕ → Bool) (xs : List ℕ) (k : ℕ) → find p xs ≡ Some k → p k ≡ true
found_passes p [] k e = absurd (cc)
found_passes p (x ∷ xs) k e = passes_at p x xs k (p x) refl (λ h. found_passes p xs k h) e

-- the values behind the given ones have no files
made-none : (steps : List Step) (j : ℕ) → file_count (get_or (map Made steps) j (Made (step.Print 0))) ≡ 0
made-none [] j = refl
made-none (s ∷ ss) zero = refl
made-none (s ∷ ss) (suc j) = made-none ss j

no-files : (job : Job) (k : ℕ) → length job.vectors + length job.parts + length job.matrices ≤ k → file_count (maker_of job k) ≡ 0
no-files job k l =
    let given : List Maker = (map GivenVector job.vectors ++ map GivenParts job.parts) ++ map GivenMatrix job.matrices in
    let a = length-append (map GivenVector job.vectors ++ map GivenParts job.parts) (map GivenMatrix job.matrices) in
    let b = length-append (map GivenVector job.vectors) (map GivenParts job.parts) in
    let c = length-map job.vectors GivenVector in
    let d = length-map job.parts GivenParts in
    let e = length-map job.matrices GivenMatrix in
    let at : k ≡ length given + (k - length given) = omega arith in
    ap (λ i. file_count (get_or (given ++ map Made (filter gives_value job.steps)) i (Made (step.Print 0)))) at
    ∙ ap file_count (get_or-append-add given (map Made (filter gives_value job.steps)) (k - length given) (Made (step.Print 0)))
    ∙ made-none (filter gives_value job.steps) (k - length given)

-- it is a given one, since the others have no files
pub unfit-given : (job : Job) (files : List File) (k : ℕ) → first_unfit job files ≡ Some k → k < length job.vectors + length job.parts + length job.matrices
unfit-given job files k e = elim (cases_lt k (length job.vectors + length job.parts + length job.matrices)) [
  | inl given ↦ given
  | inr beyond ↦
      let unfit : not (is_sized job files k) ≡ true = found_passes (λ v. not (is_sized job files v)) (count_from 0 (value_count job)) k e in
      let fits : is_sized job files k ≡ true =
      ap (λ n. list_all (λ part. has_sizes (expected_file job (maker_of job k) part) (value_file job files k part)) (count_from 0 n)) (no-files job k beyond) in
      absurd (let both : not true ≡ true = sym (ap not fits) ∙ unfit in cc)
]
