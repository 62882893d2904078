-- The list of shapes has the shapes of the values.
use Rattle.std.proofs.Common.{◌≡◌, ℕ, zero, suc, ◌<◌, ◌+◌, Bool, true, false, cond, eqb, List, [], ◌∷◌, ◌++◌, map, filter, length, take, get_or, refl, sym, ap, ◌∙◌, arith, append_assoc, append-nil, length-append}
use Rattle.std.proofs.lemmas.Bool.Decides.{nat_tests}
use Rattle.model_defs.specs.declared.job.Job.{Job}
use Rattle.model_defs.specs.declared.job.Step.TheVariants as step
use Rattle.model_defs.specs.Makers.{Maker, GivenVector, GivenParts, GivenMatrix, Made, gives_value, makers, value_count}
use Rattle.model_defs.specs.Turns.{Each, in_turn}
use Rattle.model_defs.specs.Shapes.{Shape, shape, shape_by, no_shape}
use Rattle.model_defs.specs.ShapeLists.{at_list, next_shape, shapes_from}

pub shapes_from-append : (shapes : List Shape) (ms ns : List Maker) → shapes_from shapes (ms ++ ns) ≡ shapes_from (shapes_from shapes ms) ns
shapes_from-append shapes [] ns = refl
shapes_from-append shapes (m ∷ ms) ns = shapes_from-append (shapes ++ next_shape shapes m ∷ []) ms ns

-- one more maker
pub shapes_from-push : (start now more : List Shape) (ms : List Maker) (m : Maker) (made : Shape) → now ≡ shapes_from start ms → more ≡ now ++ made ∷ [] → made ≡ next_shape now m
    → more ≡ shapes_from start (ms ++ m ∷ [])
shapes_from-push start now more ms m made e f g =
    f ∙ ap (λ s. now ++ s ∷ []) g ∙ ap (λ xs. xs ++ next_shape xs m ∷ []) e ∙ sym (shapes_from-append start ms (m ∷ []))

-- the last of a list, and those before it
at-push : (shapes : List Shape) (s : Shape) (v : ℕ) → at_list (shapes ++ s ∷ []) v ≡ cond (eqb v (length shapes)) s (at_list shapes v)
at-push [] s zero = refl
at-push [] s (suc v) = sym (ap (λ b. cond b s no_shape) (low v))
  where
    low : (v : ℕ) → eqb (suc v) 0 ≡ false
    low v = grind (arith, nat_tests)
at-push (x ∷ xs) s zero = sym (ap (λ b. cond b s x) (low (length xs)))
  where
    low : (n : ℕ) → eqb 0 (suc n) ≡ false
    low n = grind (arith, nat_tests)
at-push (x ∷ xs) s (suc v) = at-push xs s v ∙ ap (λ b. cond b s (at_list xs v)) (both v (length xs))
  where
    both : (v n : ℕ) → eqb v n ≡ eqb (suc v) (suc n)
    both v n = grind (arith, nat_tests)

module _ (all : List Maker) where
  abbrev rule : ℕ → Each Shape → Shape
  rule k shapes = shape_by k shapes (get_or all k (Made (step.Print 0)))

  get-after : (ms : List Maker) (m : Maker) (ns : List Maker) (d : Maker) → get_or (ms ++ m ∷ ns) (length ms) d ≡ m
  get-after [] m ns d = refl
  get-after (x ∷ xs) m ns d = get-after xs m ns d

  turns : (ms ns : List Maker) (shapes : List Shape) → all ≡ ms ++ ns → length shapes ≡ length ms → at_list shapes ≡ in_turn no_shape rule (length ms)
      → (at_list (shapes_from shapes ns) ≡ in_turn no_shape rule (length (ms ++ ns))) × (length (shapes_from shapes ns) ≡ length (ms ++ ns))
  turns ms [] shapes e l h = (h ∙ ap (λ xs. in_turn no_shape rule (length xs)) (sym (append-nil ms)), l ∙ ap length (sym (append-nil ms)))
  turns ms (n ∷ ns) shapes e l h = by (turns (ms ++ n ∷ []) ns (shapes ++ next_shape shapes n ∷ []) (e ∙ sym (append_assoc ms (n ∷ []) ns)) longer next)
    where
      same : ms ++ n ∷ ns ≡ (ms ++ n ∷ []) ++ ns
      same = sym (append_assoc ms (n ∷ []) ns)

      longer : length (shapes ++ next_shape shapes n ∷ []) ≡ length (ms ++ n ∷ [])
      longer = length-append shapes (next_shape shapes n ∷ []) ∙ ap (λ k. k + 1) l ∙ sym (length-append ms (n ∷ []))

      maker : get_or all (length ms) (Made (step.Print 0)) ≡ n
      maker = ap (λ xs. get_or xs (length ms) (Made (step.Print 0))) e ∙ get-after ms n ns (Made (step.Print 0))

      count : length (ms ++ n ∷ []) ≡ suc (length ms)
      count = length-append ms (n ∷ []) ∙ plus (length ms)
        where
          plus : (k : ℕ) → k + 1 ≡ suc k
          plus k = omega arith

      next : at_list (shapes ++ next_shape shapes n ∷ []) ≡ in_turn no_shape rule (length (ms ++ n ∷ []))
      next =
          (λ i v. at-push shapes (next_shape shapes n) v i)
          ∙ (λ i v. cond (eqb v (l i)) (shape_by (l i) (h i) n) (h i v))
          ∙ (λ i v. cond (eqb v (length ms)) (shape_by (length ms) (in_turn no_shape rule (length ms)) (sym maker i)) (in_turn no_shape rule (length ms) v))
          ∙ sym (ap (in_turn no_shape rule) count)

      by : (at_list (shapes_from (shapes ++ next_shape shapes n ∷ []) ns) ≡ in_turn no_shape rule (length ((ms ++ n ∷ []) ++ ns))) × (length (shapes_from (shapes ++ next_shape shapes n ∷ []) ns) ≡ length ((ms ++ n ∷ []) ++ ns))
          → (at_list (shapes_from (shapes ++ next_shape shapes n ∷ []) ns) ≡ in_turn no_shape rule (length (ms ++ n ∷ ns))) × (length (shapes_from (shapes ++ next_shape shapes n ∷ []) ns) ≡ length (ms ++ n ∷ ns))
      by t = (t.0 ∙ ap (λ xs. in_turn no_shape rule (length xs)) (sym same), t.1 ∙ ap length (sym same))

-- the whole list has the shapes of all values
pub shapes-are : (job : Job) → (at_list (shapes_from [] (makers job)) ≡ shape job) × (length (shapes_from [] (makers job)) ≡ value_count job)
shapes-are job = turns (makers job) [] (makers job) [] refl refl refl

-- vectors, parts, matrices and statements, one after the other
pub four-lists : (job : Job) → shapes_from (shapes_from (shapes_from (shapes_from [] (map GivenVector job.vectors)) (map GivenParts job.parts)) (map GivenMatrix job.matrices)) (map Made (filter gives_value job.steps))
    ≡ shapes_from [] (makers job)
four-lists job =
    ap (λ xs. shapes_from (shapes_from xs (map GivenMatrix job.matrices)) (map Made (filter gives_value job.steps))) (sym (shapes_from-append [] (map GivenVector job.vectors) (map GivenParts job.parts)))
    ∙ ap (λ xs. shapes_from xs (map Made (filter gives_value job.steps))) (sym (shapes_from-append [] (map GivenVector job.vectors ++ map GivenParts job.parts) (map GivenMatrix job.matrices)))
    ∙ sym (shapes_from-append [] (map GivenVector job.vectors ++ map GivenParts job.parts ++ map GivenMatrix job.matrices) (map Made (filter gives_value job.steps)))

-- the elements that pass among the first ones
pub filter-take : {A : Type 0} (p : A → Bool) (xs : List A) (at : ℕ) (d : A) → at < length xs → filter p (take (at + 1) xs) ≡ filter p (take at xs) ++ cond (p (get_or xs at d)) (get_or xs at d ∷ []) []
filter-take p xs at d l = ap (λ n. filter p (take n xs)) (plus at) ∙ go xs at l
  where
    plus : (k : ℕ) → k + 1 ≡ suc k
    plus k = omega arith

    go : (xs : List _) (at : ℕ) → at < length xs → filter p (take (suc at) xs) ≡ filter p (take at xs) ++ cond (p (get_or xs at d)) (get_or xs at d ∷ []) []
    go [] at l = absurd (omega arith)
    go (x ∷ xs) zero l = refl
    go (x ∷ xs) (suc at) l = by (p x) (go xs at (omega arith))
      where
        by : (b : Bool) → filter p (take (suc at) xs) ≡ filter p (take at xs) ++ cond (p (get_or xs at d)) (get_or xs at d ∷ []) []
            → cond b (x ∷ filter p (take (suc at) xs)) (filter p (take (suc at) xs)) ≡ cond b (x ∷ filter p (take at xs)) (filter p (take at xs)) ++ cond (p (get_or xs at d)) (get_or xs at d ∷ []) []
        by true e = ap (λ ys. x ∷ ys) e
        by false e = e
