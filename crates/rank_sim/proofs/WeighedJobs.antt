-- The integers of a job and of files that fit it have weighed numbers.
use Rattle.std.proofs.Common.{◌≡◌, ℕ, ℤ, suc, ◌+◌, ◌-◌, ◌<◌, ◌≤◌, inl, inr, List, [], ◌∷◌, ◌++◌, map, filter, length, get_or, sum, take, All, nat_le, true, refl, sym, ap, ◌∙◌, subst, arith, unsigned_abs}
use Rattle.std.specs.Prelude.{IsSome, neg_ℤ}
use Rattle.std.specs.List.{flat_map}
use Rattle.std.proofs.lemmas.Bool.{cases_lt, le-leb}
use Rattle.std.proofs.lemmas.Int.{ints}
use Rattle.std.proofs.lemmas.List.{get_or_default}
use Rattle.std.proofs.lemmas.List.Concat.{flat_map-append}
use Rattle.std.proofs.lemmas.List.Elements.{All-append, All-weaker}
use Rattle.std.proofs.lemmas.List.Sums.{sum_by-cons}
use Rattle.scalar_laws.specs.Number.{max_weight}
use Rattle.scalar_laws.specs.Weighed.{weighed_conversions}
use Rattle.mm_text.specs.declared.file_data.Line.{Line}
use Rattle.mm_text.specs.declared.file_data.Mirror.{Mirror}
use Rattle.mm_text.specs.declared.file_data.Mirror.TheVariants.{Plain, Same, Negated}
use Rattle.mm_text.specs.Limits.{widest}
use Rattle.mm_text.specs.Reading.{File}
use Rattle.mm_text.specs.Sound.{IsSound}
use Rattle.model_defs.specs.declared.job.Job.{Job}
use Rattle.model_defs.specs.declared.job.MatrixSpec.{MatrixSpec}
use Rattle.model_defs.specs.declared.job.PartsSpec.{PartsSpec}
use Rattle.model_defs.specs.declared.job.Step.{Step}
use Rattle.model_defs.specs.declared.job.Step.TheVariants as step
use Rattle.model_defs.specs.declared.job.VectorSpec.{VectorSpec}
use Rattle.model_defs.specs.FileMatrix.{HasNumbers}
use Rattle.model_defs.specs.Fitting.{IsFitting, file_total}
use Rattle.model_defs.specs.Given.{file_count, no_file}
use Rattle.model_defs.specs.Makers.{Maker, GivenVector, GivenParts, GivenMatrix, Made, gives_value, makers}
use Rattle.model_defs.specs.Numbers.{maker_integers, origin_integers, step_integers}
use Rattle.rank_sim.specs.Stated.{AreWeighed}

-- ---- what is stated

of-vectors : (xs : List VectorSpec) → flat_map maker_integers (map GivenVector xs) ≡ flat_map (λ spec. origin_integers spec.from) xs
of-vectors [] = refl
of-vectors (x ∷ xs) = ap (λ vs. origin_integers x.from ++ vs) (of-vectors xs)

of-parts : (xs : List PartsSpec) → flat_map maker_integers (map GivenParts xs) ≡ flat_map (λ spec. origin_integers spec.from) xs
of-parts [] = refl
of-parts (x ∷ xs) = ap (λ vs. origin_integers x.from ++ vs) (of-parts xs)

of-matrices : (xs : List MatrixSpec) → flat_map maker_integers (map GivenMatrix xs) ≡ []
of-matrices [] = refl
of-matrices (x ∷ xs) = of-matrices xs

of-steps : (xs : List Step) → flat_map maker_integers (map Made (filter gives_value xs)) ≡ flat_map step_integers xs
of-steps [] = refl
of-steps (step.Print v ∷ xs) = of-steps xs
of-steps (step.Update name x y alpha beta ∷ xs) = ap (λ vs. step_integers (step.Update name x y alpha beta) ++ vs) (of-steps xs)
of-steps (step.Scale name value alpha ∷ xs) = ap (λ vs. step_integers (step.Scale name value alpha) ++ vs) (of-steps xs)
of-steps (step.Move name source m ∷ xs) = of-steps xs
of-steps (step.Import name source onto mode ∷ xs) = of-steps xs
of-steps (step.Export name source onto mode ∷ xs) = of-steps xs
of-steps (step.Spread name source m ∷ xs) = of-steps xs
of-steps (step.Apply name a x y alpha beta transposed ∷ xs) = ap (λ vs. step_integers (step.Apply name a x y alpha beta transposed) ++ vs) (of-steps xs)
of-steps (step.Transpose name a ∷ xs) = of-steps xs
of-steps (step.Multiply name a b ∷ xs) = of-steps xs
of-steps (step.Add name a b alpha beta ∷ xs) = ap (λ vs. step_integers (step.Add name a b alpha beta) ++ vs) (of-steps xs)
of-steps (step.Assemble name source onto mode ∷ xs) = of-steps xs

pub all-stated : (job : Job) → AreWeighed (flat_map (λ spec. origin_integers spec.from) job.vectors) → AreWeighed (flat_map (λ spec. origin_integers spec.from) job.parts) → AreWeighed (flat_map step_integers job.steps)
    → AreWeighed (flat_map maker_integers (makers job))
all-stated job vectors parts steps =
    subst AreWeighed
    (sym (flat_map-append maker_integers (map GivenVector job.vectors ++ map GivenParts job.parts ++ map GivenMatrix job.matrices) (map Made (filter gives_value job.steps))
    ∙ (λ t. flat_map-append maker_integers (map GivenVector job.vectors ++ map GivenParts job.parts) (map GivenMatrix job.matrices) t ++ of-steps job.steps t)
    ∙ (λ t. (flat_map-append maker_integers (map GivenVector job.vectors) (map GivenParts job.parts) t ++ of-matrices job.matrices t) ++ flat_map step_integers job.steps)
    ∙ (λ t. ((of-vectors job.vectors t ++ of-parts job.parts t) ++ []) ++ flat_map step_integers job.steps)))
    (All-append (λ v. IsSome (weighed_conversions.of_file v)) ((flat_map (λ spec. origin_integers spec.from) job.vectors ++ flat_map (λ spec. origin_integers spec.from) job.parts) ++ []) (flat_map step_integers job.steps)
    (All-append (λ v. IsSome (weighed_conversions.of_file v)) (flat_map (λ spec. origin_integers spec.from) job.vectors ++ flat_map (λ spec. origin_integers spec.from) job.parts) []
    (All-append (λ v. IsSome (weighed_conversions.of_file v)) (flat_map (λ spec. origin_integers spec.from) job.vectors) (flat_map (λ spec. origin_integers spec.from) job.parts) vectors parts) (λ k d l. absurd (omega arith))) steps)

-- ---- what is read

-- the value and the part whose file stands at this place
find-file : (ms : List Maker) (d : Maker) (n : ℕ) → n < sum (map file_count ms)
    → (k : ℕ) × (part : ℕ) × (k < length ms) × (part < file_count (get_or ms k d)) × (n ≡ sum (map file_count (take k ms)) + part)
find-file [] d n l = absurd (omega arith)
find-file (m ∷ ms) d n l = elim (cases_lt n (file_count m)) [
  | inl here ↦ (0, n, omega arith, here, omega arith)
  | inr later ↦
      let whole : sum (map file_count (m ∷ ms)) ≡ file_count m + sum (map file_count ms) = sum_by-cons (λ n. n) (file_count m) (map file_count ms) in
      let rest = find-file ms d (n - file_count m) (omega arith) in
      let upto : sum (map file_count (take (suc rest.0) (m ∷ ms))) ≡ file_count m + sum (map file_count (take rest.0 ms)) = sum_by-cons (λ n. n) (file_count m) (map file_count (take rest.0 ms)) in
      (suc rest.0, rest.1, omega (arith, rest.2), rest.3, omega (arith, rest.4, later))
]

weighed-within : (v : ℤ) → unsigned_abs v ≤ widest → IsSome (weighed_conversions.of_file v)
weighed-within v h = let t : nat_le (unsigned_abs v) max_weight ≡ true = le-leb (unsigned_abs v) max_weight h in rw t refl

mirrored-within : (mirror : Mirror) (v : ℤ) → unsigned_abs v ≤ widest → HasNumbers weighed_conversions mirror v
mirrored-within Plain v h = weighed-within v h
mirrored-within Same v h = weighed-within v h
mirrored-within Negated v h = (weighed-within v h, weighed-within (neg_ℤ v) (let same : unsigned_abs (neg_ℤ v) ≡ unsigned_abs v = grind (arith, ints) in omega arith))

all-sound : (job : Job) (files : List File) → IsFitting job files → (n : ℕ) → n < length files → IsSound (get_or files n no_file)
all-sound job files fit n l =
    let low : n < file_total job = (let count = fit.count in omega arith) in
    let at = find-file (makers job) (Made (step.Print 0)) n low in
    subst (λ i. IsSound (get_or files i no_file)) (sym at.4) (fit.each at.0 at.1 at.2 at.3).sound

pub all-read : (job : Job) (files : List File) → IsFitting job files → All (λ file. All (λ l. HasNumbers weighed_conversions file.mirror l.value) file.lines) files
all-read job files fit n d l =
    subst (λ (file : File). All (λ (l : Line). HasNumbers weighed_conversions file.mirror l.value) file.lines) (get_or_default files n no_file d l)
    (All-weaker (λ (l : Line). unsigned_abs l.value ≤ widest) (λ (l : Line). HasNumbers weighed_conversions (get_or files n no_file).mirror l.value) (λ l h. mirrored-within (get_or files n no_file).mirror l.value h)
    (get_or files n no_file).lines (all-sound job files fit n l).values)
