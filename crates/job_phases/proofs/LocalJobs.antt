-- Jobs whose statements go cell by cell have no phases.
use Rattle.std.proofs.Common.{◌≡◌, ℕ, zero, suc, Bool, true, false, cond, eqb, List, [], ◌∷◌, ◌++◌, map, filter, length, get_or, refl, ap, ◌∙◌, arith}
use Rattle.std.specs.Prelude.{All}
use Rattle.std.specs.List.{flat_map}
use Rattle.std.proofs.lemmas.List.Elements.{All-append}
use Rattle.tables.specs.Indices.{count_from}
use Rattle.model_defs.specs.declared.job.Job.{Job}
use Rattle.model_defs.specs.declared.job.Step.{Step}
use Rattle.model_defs.specs.declared.job.Step.TheVariants as step
use Rattle.model_defs.specs.Local.{IsLocalStep, IsLocalJob}
use Rattle.model_defs.specs.Makers.{Maker, GivenVector, GivenParts, GivenMatrix, Made, gives_value, makers, maker_of, value_count}
use Rattle.model_defs.specs.Phases.{Act, transfer_acts, plan_acts, structure_plans, value_acts, phases_from}
use Rattle.model_defs.specs.declared.shape.Shape.{Shape}
use Rattle.model_defs.specs.declared.shape.Sort.{Sort}
use Rattle.model_defs.specs.declared.shape.Sort.TheVariants.{Vector, Parts, Matrix, Split}
use Rattle.model_defs.specs.Shapes.{is_dense, shape, shape_by, no_shape}
use Rattle.model_defs.specs.Transfers.{transfers_by}
use Rattle.model_defs.specs.Turns.{Each, in_turn}
use Rattle.job_phases.specs.Laws.{LocalJobsHaveNoPhases}

-- vectors, parts and local statements
abbrev IsLocalMaker : Maker → Type 0
IsLocalMaker (GivenVector spec) = Unit {0}
IsLocalMaker (GivenParts spec) = Unit {0}
IsLocalMaker (GivenMatrix spec) = ⊥
IsLocalMaker (Made step) = IsLocalStep step

each-map : {A : Type 0} (f : A → Maker) → ((x : A) → IsLocalMaker (f x)) → (xs : List A) → All IsLocalMaker (map f xs)
each-map f h [] k d l = absurd (omega arith)
each-map f h (x ∷ xs) zero d l = h x
each-map f h (x ∷ xs) (suc k) d l = each-map f h xs k d (omega arith)

made-each : (steps : List Step) → All IsLocalStep steps → All IsLocalMaker (map Made (filter gives_value steps))
made-each [] h = λ k d l. absurd (omega arith)
made-each (s ∷ ss) h = by (gives_value s) (made-each ss (λ k d l. h (suc k) d (omega arith))) (h 0 s (omega arith))
  where
    with_first : (ms : List Maker) → All IsLocalMaker ms → IsLocalStep s → All IsLocalMaker (Made s ∷ ms)
    with_first ms rest here zero d l = here
    with_first ms rest here (suc k) d l = rest k d (omega arith)

    by : (b : Bool) → All IsLocalMaker (map Made (filter gives_value ss)) → IsLocalStep s → All IsLocalMaker (map Made (cond b (s ∷ filter gives_value ss) (filter gives_value ss)))
    by true rest here = with_first (map Made (filter gives_value ss)) rest here
    by false rest here = rest

no_matrix : (job : Job) → IsLocalJob job → All IsLocalMaker (map GivenMatrix job.matrices)
no_matrix job h k d l = absurd (let none : length (map GivenMatrix job.matrices) ≡ 0 = ap (λ ms. length (map GivenMatrix ms)) h.matrices in omega arith)

all-makers : (job : Job) → IsLocalJob job → All IsLocalMaker (makers job)
all-makers job h =
    All-append IsLocalMaker (map GivenVector job.vectors ++ map GivenParts job.parts ++ map GivenMatrix job.matrices) (map Made (filter gives_value job.steps))
    (All-append IsLocalMaker (map GivenVector job.vectors ++ map GivenParts job.parts) (map GivenMatrix job.matrices)
    (All-append IsLocalMaker (map GivenVector job.vectors) (map GivenParts job.parts) (each-map GivenVector (λ x. tt) job.vectors) (each-map GivenParts (λ x. tt) job.parts))
    (no_matrix job h))
    (made-each job.steps h.steps)

-- what is behind the values counts as one that prints
or-default : (ms : List Maker) (d : Maker) → IsLocalMaker d → All IsLocalMaker ms → (k : ℕ) → IsLocalMaker (get_or ms k d)
or-default [] d here h k = here
or-default (m ∷ ms) d here h zero = h 0 m (omega arith)
or-default (m ∷ ms) d here h (suc k) = or-default ms d here (λ j e l. h (suc j) e (omega arith)) k

pub local-maker : (job : Job) → IsLocalJob job → (k : ℕ) → IsLocalMaker (maker_of job k)
local-maker job h k = or-default (makers job) (Made (step.Print 0)) tt (all-makers job h) k

-- no transfer
pub no-transfers : (job : Job) (k : ℕ) (m : Maker) → IsLocalMaker m → transfers_by job k m ≡ []
no-transfers job k (GivenVector spec) h = refl
no-transfers job k (GivenParts spec) h = refl
no-transfers job k (GivenMatrix spec) h = absurd h
no-transfers job k (Made (step.Move name source m)) h = absurd h
no-transfers job k (Made (step.Import name source onto mode)) h = absurd h
no-transfers job k (Made (step.Export name source onto mode)) h = absurd h
no-transfers job k (Made (step.Spread name source m)) h = absurd h
no-transfers job k (Made (step.Update name x y alpha beta)) h = refl
no-transfers job k (Made (step.Scale name value alpha)) h = refl
no-transfers job k (Made (step.Apply name a x y alpha beta transposed)) h = absurd h
no-transfers job k (Made (step.Transpose name a)) h = absurd h
no-transfers job k (Made (step.Multiply name a b)) h = absurd h
no-transfers job k (Made (step.Add name a b alpha beta)) h = absurd h
no-transfers job k (Made (step.Assemble name source onto mode)) h = absurd h
no-transfers job k (Made (step.Print value)) h = refl

-- no matrix
dense-by : (k : ℕ) (shapes : Each Shape) → ((v : ℕ) → is_dense (shapes v).sort ≡ true) → (m : Maker) → IsLocalMaker m → is_dense (shape_by k shapes m).sort ≡ true
dense-by k shapes each (GivenVector spec) h = refl
dense-by k shapes each (GivenParts spec) h = refl
dense-by k shapes each (GivenMatrix spec) h = absurd h
dense-by k shapes each (Made (step.Move name source m)) h = absurd h
dense-by k shapes each (Made (step.Import name source onto mode)) h = absurd h
dense-by k shapes each (Made (step.Export name source onto mode)) h = absurd h
dense-by k shapes each (Made (step.Spread name source m)) h = absurd h
dense-by k shapes each (Made (step.Update name x y alpha beta)) h = each x
dense-by k shapes each (Made (step.Scale name value alpha)) h = each value
dense-by k shapes each (Made (step.Apply name a x y alpha beta transposed)) h = absurd h
dense-by k shapes each (Made (step.Transpose name a)) h = absurd h
dense-by k shapes each (Made (step.Multiply name a b)) h = absurd h
dense-by k shapes each (Made (step.Add name a b alpha beta)) h = absurd h
dense-by k shapes each (Made (step.Assemble name source onto mode)) h = absurd h
dense-by k shapes each (Made (step.Print value)) h = each value

dense-turns : (job : Job) → IsLocalJob job → (n v : ℕ) → is_dense (in_turn no_shape (λ k shapes. shape_by k shapes (maker_of job k)) n v).sort ≡ true
dense-turns job h zero v = refl
dense-turns job h (suc n) v =
    let before = in_turn no_shape (λ k shapes. shape_by k shapes (maker_of job k)) n in
    by (eqb v n) (shape_by n before (maker_of job n)) (before v) (dense-by n before (dense-turns job h n) (maker_of job n) (local-maker job h n)) (dense-turns job h n v)
  where
    by : (b : Bool) (now old : Shape) → is_dense now.sort ≡ true → is_dense old.sort ≡ true → is_dense (cond b now old).sort ≡ true
    by true now old e f = e
    by false now old e f = f

no-plans : (k : ℕ) (sort : Sort) → is_dense sort ≡ true → structure_plans k sort ≡ []
no-plans k Vector e = refl
no-plans k Parts e = refl
no-plans k Matrix e = absurd (cc)
no-plans k Split e = absurd (cc)

abbrev nothing : List Act
nothing = []

-- no act, and so no phase
no-acts : (job : Job) → IsLocalJob job → (k : ℕ) → value_acts job k ≡ []
no-acts job h k =
    ap (λ ts. transfer_acts k 0 ts ++ cond (eqb (shape job k).structure k) (plan_acts k (structure_plans k (shape job k).sort)) []) (no-transfers job k (maker_of job k) (local-maker job h k))
    ∙ ap (λ ps. cond (eqb (shape job k).structure k) (plan_acts k ps) []) (no-plans k (shape job k).sort (dense-turns job h (value_count job) k))
    ∙ none (eqb (shape job k).structure k)
  where
    none : (b : Bool) → cond b nothing nothing ≡ []
    none true = refl
    none false = refl

all-none : {A : Type 0} (f : ℕ → List A) → ((k : ℕ) → f k ≡ []) → (ks : List ℕ) → flat_map f ks ≡ []
all-none f h [] = refl
all-none f h (k ∷ ks) = ap (λ xs. xs ++ flat_map f ks) (h k) ∙ all-none f h ks

pub no-phases : LocalJobsHaveNoPhases
no-phases job h = ap (phases_from job []) (all-none (value_acts job) (no-acts job h) (count_from 0 (value_count job)))
