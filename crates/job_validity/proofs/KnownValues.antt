-- The values that are named are the first ones of the job, and each is made as it may be.
use Rattle.std.proofs.Common.{◌≡◌, ◌+◌, ◌<◌, ℕ, zero, suc, Bool, true, false, cond, List, [], ◌∷◌, ◌++◌, map, filter, length, get_or, refl, ap, sym, subst, ◌∙◌, arith, length-append}
use Rattle.std.proofs.lemmas.List.{length-map, map-append, get_or_append_left}
use Rattle.std.proofs.Math.ListN.{get_or-map}
use Rattle.std.proofs.Math.Seq.{get_or-append_seam}
use Rattle.model_defs.specs.declared.job.Job.{Job}
use Rattle.model_defs.specs.declared.job.Step.{Step}
use Rattle.model_defs.specs.declared.shape.Shape.{Shape}
use Rattle.model_defs.specs.Makers.{Maker, GivenVector, GivenParts, GivenMatrix, Made, gives_value, makers}
use Rattle.model_defs.specs.Shapes.{shape, shape_by, no_shape}
use Rattle.model_defs.specs.ShapeLists.{at_list, next_shape, shapes_from}
use Rattle.model_defs.specs.Valid.{IsValidMaker, IsPrintable, ArePrintable, given_count}
use Rattle.model_defs.proofs.ShapeLists.{shapes-are}
use Rattle.job_text.specs.declared.known.KnownValue.{KnownValue}
use Rattle.job_text.specs.Known.{Known, no_value, shape_at, with_maker, with_step}
use Rattle.job_validity.proofs.Seen.{IsMapped, IsSeen}
use Rattle.job_validity.proofs.KnownMaps.{mapped-first, mapped-next, no-values}
use Rattle.job_validity.proofs.MakersRead.{AreMade, step_makers, step-printable, given_makers, after-given, all-made}
use Rattle.job_validity.proofs.StepFacts.{IsStepFor}
use Rattle.job_validity.proofs.Traces.{all_next, AreFor}
use Rattle.job_validity.proofs.Reading.{after_maps, after_matrices, IsOfTables}

abbrev shapes_of : Known → List Shape
shapes_of known = map (λ v. v.shape) known.values

-- what follows does not change the first shapes
shapes-stay : (rest : List Maker) (shapes : List Shape) (v : ℕ) → v < length shapes → at_list (shapes_from shapes rest) v ≡ at_list shapes v
shapes-stay [] shapes v l = refl
shapes-stay (m ∷ ms) shapes v l =
    shapes-stay ms (shapes ++ next_shape shapes m ∷ []) v (let n = length-append shapes (next_shape shapes m ∷ []) in omega arith)
    ∙ get_or_append_left shapes (next_shape shapes m ∷ []) no_shape v l

at-shapes : (known : Known) → at_list (shapes_of known) ≡ shape_at known
at-shapes known = λ i v. get_or-map (λ v. v.shape) known.values v no_value i

shapes-next : (known : Known) (m : Maker) → shapes_of (with_maker known m) ≡ shapes_of known ++ next_shape (shapes_of known) m ∷ []
shapes-next known m =
    map-append (λ v. v.shape) known.values _
    ∙ ap (λ s. shapes_of known ++ s ∷ []) (λ i. shape_by (sym (length-map known.values (λ (v : KnownValue). v.shape)) i) (sym (at-shapes known) i) m)

module _ (job : Job) where
  -- What is named is of this job, and these makers make its further values.
  record IsOnWay (known : Known) (rest : List Maker) : Type 0 where
    mapped : IsMapped job known
    final : at_list (shapes_from (shapes_of known) rest) ≡ shape job

  seen : (known : Known) (rest : List Maker) → IsOnWay known rest → IsSeen job known
  seen known rest way = record { maps = way.mapped; shapes = shapes }
    where
      shapes : (v : ℕ) → v < length known.values → shape_at known v ≡ shape job v
      shapes v l =
          sym (ap (λ f. f v) (at-shapes known))
          ∙ sym (shapes-stay rest (shapes_of known) v (let n = length-map known.values (λ (v : KnownValue). v.shape) in omega arith))
          ∙ ap (λ f. f v) way.final

  next : (known : Known) (m : Maker) (ms : List Maker) → IsOnWay known (m ∷ ms) → IsOnWay (with_maker known m) ms
  next known m ms way = record {
    mapped = mapped-next job known m way.mapped;
    final = ap (λ s. at_list (shapes_from s ms)) (shapes-next known m) ∙ way.final;
  }

  longer : (known : Known) (m : Maker) → length (with_maker known m).values ≡ length known.values + 1
  longer known m = length-append known.values _

  -- the shape of the next value
  next-shape : (known : Known) (m : Maker) (ms : List Maker) → IsOnWay known (m ∷ ms) → shape job (length known.values) ≡ shape_by (length known.values) (shape_at known) m
  next-shape known m ms way =
      sym ((seen (with_maker known m) ms (next known m ms way)).shapes (length known.values) (let n = longer known m in omega arith))
      ∙ ap (λ v. v.shape) (get_or-append_seam known.values _ [] no_value)

  valid-makers : (rest : List Maker) (known : Known) → IsOnWay known rest → AreMade known rest → (k : ℕ) (d : Maker) → k < length rest → IsValidMaker job (length known.values + k) (get_or rest k d)
  valid-makers [] known way made k d l = absurd (omega arith)
  valid-makers (m ∷ ms) known way made zero d l =
      subst (λ n. IsValidMaker job n m) same (made.0.valid job (seen known (m ∷ ms) way) (next-shape known m ms way))
    where
      same : length known.values ≡ length known.values + 0
      same = omega arith
  valid-makers (m ∷ ms) known way made (suc k) d l =
      subst (λ n. IsValidMaker job n (get_or ms k d)) same (valid-makers ms (with_maker known m) (next known m ms way) made.1 k d (omega arith))
    where
      same : length (with_maker known m).values + k ≡ length known.values + suc k
      same = let n = longer known m in omega arith

  printable : (steps : List Step) (known : Known) (n : ℕ) → n ≡ length known.values → IsOnWay known (step_makers steps) → AreFor with_step IsStepFor known steps → ArePrintable job n steps
  printable [] known n e way h = tt
  printable (s ∷ ss) known n e way h =
      (subst (λ k. IsPrintable job k s) (sym e) (step-printable job known s h.0 (seen known (step_makers (s ∷ ss)) way)), by (gives_value s) (printable ss) way h.1)
    where
      by : (b : Bool) → ((k : Known) (m : ℕ) → m ≡ length k.values → IsOnWay k (step_makers ss) → AreFor with_step IsStepFor k ss → ArePrintable job m ss)
          → IsOnWay known (map Made (cond b (s ∷ filter gives_value ss) (filter gives_value ss))) → AreFor with_step IsStepFor (cond b (with_maker known (Made s)) known) ss
          → ArePrintable job (cond b (n + 1) n) ss
      by true rest w g = rest (with_maker known (Made s)) (n + 1) (let l = longer known (Made s) in omega arith) (next known (Made s) (step_makers ss) w) g
      by false rest w g = rest known n e w g

  -- from the maps on
  first : IsOnWay (after_maps job) (makers job)
  first = record {
    mapped = mapped-first job;
    final = ap (λ vs. at_list (shapes_from (map (λ v. v.shape) vs) (makers job))) (no-values job) ∙ (shapes-are job).0;
  }

  after : (xs ys : List Maker) (known : Known) → IsOnWay known (xs ++ ys) → IsOnWay (all_next with_maker known xs) ys
  after [] ys known way = way
  after (x ∷ xs) ys known way = after xs ys (with_maker known x) (next known x (xs ++ ys) way)

  count-after : (xs : List Maker) (known : Known) → length (all_next with_maker known xs).values ≡ length known.values + length xs
  count-after [] known = omega arith
  count-after (x ∷ xs) known = let n = longer known x in let rest = count-after xs (with_maker known x) in omega arith

  pub makers-valid : IsOfTables job → (k : ℕ) (d : Maker) → k < length (makers job) → IsValidMaker job k (get_or (makers job) k d)
  makers-valid h k d l =
      subst (λ n. IsValidMaker job n (get_or (makers job) k d)) (let none = ap length (no-values job) in omega arith)
      (valid-makers (makers job) (after_maps job) first (all-made job h) k d l)

  given-many : length (given_makers job) ≡ given_count job
  given-many =
      length-append (map GivenVector job.vectors ++ map GivenParts job.parts) (map GivenMatrix job.matrices)
      ∙ sum-of (length-append (map GivenVector job.vectors) (map GivenParts job.parts)) (length-map job.vectors GivenVector) (length-map job.parts GivenParts) (length-map job.matrices GivenMatrix)
    where
      sum-of : {a b c d e f g : ℕ} → d ≡ e + f → e ≡ a → f ≡ b → g ≡ c → d + g ≡ a + b + c
      sum-of h i j k = omega arith

  pub steps-printable : IsOfTables job → ArePrintable job (given_count job) job.steps
  steps-printable h =
      printable job.steps (after_matrices job) (given_count job) many
      (subst (λ k. IsOnWay k (step_makers job.steps)) (sym (after-given job)) (after (given_makers job) (step_makers job.steps) (after_maps job) first)) h.steps
    where
      many : given_count job ≡ length (after_matrices job).values
      many =
          let none = ap length (no-values job) in
          let all = count-after (given_makers job) (after_maps job) in
          let here = ap (λ k. length k.values) (after-given job) in
          let given = given-many in
          omega arith
