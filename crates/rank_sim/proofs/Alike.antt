-- What is shown of values depends on their parts below the number of ranks alone.
use Rattle.std.proofs.Common.{◌≡◌, ℕ, zero, suc, ◌+◌, ◌<◌, ◌≤◌, Bool, true, false, cond, ◌||◌, List, [], ◌∷◌, ◌++◌, map, filter, length, Result, Ok, Err, None, Some, All, if◌then◌else◌, refl, sym, ap, ◌∙◌, arith, length-append}
use Rattle.std.specs.List.{flat_map, list_any}
use Rattle.std.proofs.lemmas.List.{length-map}
use Rattle.scalar_laws.specs.Conversions.{Conversions}
use Rattle.tables.specs.Indices.{count_from}
use Rattle.mm_text.specs.Reading.{File}
use Rattle.model_defs.specs.declared.job.Job.{Job}
use Rattle.model_defs.specs.declared.job.Step.{Step}
use Rattle.model_defs.specs.declared.job.Step.TheVariants as step
use Rattle.model_defs.specs.Makers.{GivenVector, GivenParts, GivenMatrix, Made, gives_value, value_count}
use Rattle.model_defs.specs.Maps.{size_of}
use Rattle.model_defs.specs.Pieces.{Value}
use Rattle.model_defs.specs.Plans.{width_of}
use Rattle.model_defs.specs.declared.shape.Shape.{Shape}
use Rattle.model_defs.specs.declared.shape.Sort.{Sort}
use Rattle.model_defs.specs.declared.shape.Sort.TheVariants.{Vector, Parts, Matrix, Split}
use Rattle.model_defs.specs.Shapes.{is_by_rank, shape}
use Rattle.model_defs.specs.Sheets.{coordinate_sheet, is_any_over, is_total, is_value_over, part_count, sheets_by, sheets_of, step_sheets, array_sheet}
use Rattle.model_defs.specs.ShowText.{any_over}
use Rattle.model_defs.specs.Turns.{Each}
use Rattle.model_defs.specs.Valid.{ArePrintable, IsPrintable, IsValid, given_count}
use Rattle.rank_sim.specs.declared.ends.End.{End}
use Rattle.rank_sim.specs.declared.ends.End.TheVariants as end
use Rattle.rank_sim.specs.declared.ends.RunFault.{RunFault}
use Rattle.rank_sim.specs.Ranks.{PrintsBelow}
use Rattle.rank_sim.specs.Runs.{Shows}

-- ---- lists of numbers

map-below : {A : Type 0} (f g : ℕ → A) (n k m : ℕ) → n + k ≤ m → ((p : ℕ) → p < m → f p ≡ g p) → map f (count_from n k) ≡ map g (count_from n k)
map-below f g n zero m l h = refl
map-below f g n (suc k) m l h = λ t. h n (omega arith) t ∷ map-below f g (n + 1) k m (omega arith) h t

any-below : (f g : ℕ → Bool) (n k m : ℕ) → n + k ≤ m → ((p : ℕ) → p < m → f p ≡ g p) → list_any f (count_from n k) ≡ list_any g (count_from n k)
any-below f g n zero m l h = refl
any-below f g n (suc k) m l h = λ t. h n (omega arith) t || any-below f g (n + 1) k m (omega arith) h t

-- ---- which values are printed

prints-low : (job : Job) (k n : ℕ) (s : Step) → IsPrintable job k s → k ≤ n → PrintsBelow n s
prints-low job k n (step.Print v) h l = let low = h.0 in omega arith
prints-low job k n (step.Update name x y alpha beta) h l = tt
prints-low job k n (step.Scale name value alpha) h l = tt
prints-low job k n (step.Move name source m) h l = tt
prints-low job k n (step.Import name source onto mode) h l = tt
prints-low job k n (step.Export name source onto mode) h l = tt
prints-low job k n (step.Spread name source m) h l = tt
prints-low job k n (step.Apply name a x y alpha beta transposed) h l = tt
prints-low job k n (step.Transpose name a) h l = tt
prints-low job k n (step.Multiply name a b) h l = tt
prints-low job k n (step.Add name a b alpha beta) h l = tt
prints-low job k n (step.Assemble name source onto mode) h l = tt

prints-from : (job : Job) (steps : List Step) (k n : ℕ) → ArePrintable job k steps → k + length (filter gives_value steps) ≤ n → All (PrintsBelow n) steps
prints-from job [] k n h l at d low = absurd (omega arith)
prints-from job (s ∷ ss) k n h l zero d low = prints-low job k n s h.0 (omega arith)
prints-from job (s ∷ ss) k n h l (suc at) d low = by (gives_value s) (prints-from job ss (k + 1) n) (prints-from job ss k n) h.1 l at d (omega arith)
  where
    by : (b : Bool) → (ArePrintable job (k + 1) ss → k + 1 + length (filter gives_value ss) ≤ n → All (PrintsBelow n) ss) → (ArePrintable job k ss → k + length (filter gives_value ss) ≤ n → All (PrintsBelow n) ss)
        → ArePrintable job (cond b (k + 1) k) ss → k + length (cond b (s ∷ filter gives_value ss) (filter gives_value ss)) ≤ n → All (PrintsBelow n) ss
    by true next same h l = next h (omega arith)
    by false next same h l = same h l

value-total : (job : Job) → value_count job ≡ given_count job + length (filter gives_value job.steps)
value-total job =
    length-append (map GivenVector job.vectors ++ map GivenParts job.parts ++ map GivenMatrix job.matrices) (map Made (filter gives_value job.steps))
    ∙ (λ t. length-append (map GivenVector job.vectors ++ map GivenParts job.parts) (map GivenMatrix job.matrices) t + length (map Made (filter gives_value job.steps)))
    ∙ (λ t. length-append (map GivenVector job.vectors) (map GivenParts job.parts) t + length (map GivenMatrix job.matrices) + length (map Made (filter gives_value job.steps)))
    ∙ (λ t. length-map job.vectors GivenVector t + length-map job.parts GivenParts t + length-map job.matrices GivenMatrix t + length-map (filter gives_value job.steps) Made t)

pub prints-known : (job : Job) → IsValid job → All (PrintsBelow (value_count job)) job.steps
prints-known job valid = prints-from job job.steps (given_count job) (value_count job) valid.prints (let total = value-total job in omega arith)

-- ---- what is shown

-- the values are the same, below the numbers of values and of ranks
abbrev pub AreAlike : {S : Type 0} → Job → Each (Value S) → Each (Value S) → Type 0
AreAlike job u v = (k p : ℕ) → k < value_count job → p < job.ranks → u k p ≡ v k p

module _ {S : Type 0} (F : Conversions S) (job : Job) (some : 0 < job.ranks) where
  pub sheets-alike : (s : Shape) (sort : Sort) (u v : Value S) → ((p : ℕ) → p < job.ranks → u p ≡ v p) → sheets_by F job sort s u ≡ sheets_by F job sort s v
  sheets-alike s Vector u v h = λ t. (if is_total job s.rows then array_sheet F job s (h 0 some t) else coordinate_sheet F job s None (h 0 some t)) ∷ []
  sheets-alike s Parts u v h = map-below (λ p. coordinate_sheet F job s (Some p) (u p)) (λ p. coordinate_sheet F job s (Some p) (v p)) 0 job.ranks job.ranks (omega arith) (λ p l. ap (coordinate_sheet F job s (Some p)) (h p l))
  sheets-alike s Matrix u v h = λ t. coordinate_sheet F job s None (h 0 some t) ∷ []
  sheets-alike s Split u v h = refl

  parts-few : (sort : Sort) → part_count F job sort ≤ job.ranks
  parts-few sort = by (is_by_rank sort)
    where
      by : (b : Bool) → (cond b job.ranks 1) ≤ job.ranks
      by true = omega arith
      by false = omega arith

  over-alike : (s : Shape) (u v : Value S) → ((p : ℕ) → p < job.ranks → u p ≡ v p) → is_value_over F job s u ≡ is_value_over F job s v
  over-alike s u v h =
      any-below (λ p. any_over F (size_of job s.rows) (width_of job s) (u p)) (λ p. any_over F (size_of job s.rows) (width_of job s) (v p)) 0 (part_count F job s.sort) job.ranks (let few = parts-few s.sort in omega arith)
      (λ p l. ap (any_over F (size_of job s.rows) (width_of job s)) (h p l))

  step-alike : (u v : Each (Value S)) → AreAlike job u v → (s : Step) → PrintsBelow (value_count job) s → step_sheets F job u s ≡ step_sheets F job v s
  step-alike u v h (step.Print k) l = sheets-alike (shape job k) (shape job k).sort (u k) (v k) (λ p m. h k p l m)
  step-alike u v h (step.Update name x y alpha beta) l = refl
  step-alike u v h (step.Scale name value alpha) l = refl
  step-alike u v h (step.Move name source m) l = refl
  step-alike u v h (step.Import name source onto mode) l = refl
  step-alike u v h (step.Export name source onto mode) l = refl
  step-alike u v h (step.Spread name source m) l = refl
  step-alike u v h (step.Apply name a x y alpha beta transposed) l = refl
  step-alike u v h (step.Transpose name a) l = refl
  step-alike u v h (step.Multiply name a b) l = refl
  step-alike u v h (step.Add name a b alpha beta) l = refl
  step-alike u v h (step.Assemble name source onto mode) l = refl

  steps-alike : (u v : Each (Value S)) → AreAlike job u v → (ss : List Step) → All (PrintsBelow (value_count job)) ss → flat_map (step_sheets F job u) ss ≡ flat_map (step_sheets F job v) ss
  steps-alike u v h [] l = refl
  steps-alike u v h (s ∷ ss) l = λ t. step-alike u v h s (l 0 s (omega arith)) t ++ steps-alike u v h ss (λ k d m. l (suc k) d (omega arith)) t

  pub all-sheets-alike : (u v : Each (Value S)) → IsValid job → AreAlike job u v → sheets_of F job u ≡ sheets_of F job v
  all-sheets-alike u v valid h = steps-alike u v h job.steps (prints-known job valid)

  pub any-over-alike : (u v : Each (Value S)) → AreAlike job u v → is_any_over F job u ≡ is_any_over F job v
  any-over-alike u v h =
      any-below (λ k. is_value_over F job (shape job k) (u k)) (λ k. is_value_over F job (shape job k) (v k)) 0 (value_count job) (value_count job) (omega arith)
      (λ k l. over-alike (shape job k) (u k) (v k) (λ p m. h k p l m))

-- the same is shown of the same values
pub shows-alike : {S : Type 0} (F : Conversions S) (job : Job) (files : List File) (u v : Each (Value S)) (answer : Result End RunFault) → IsValid job
    → AreAlike job u v → Shows F job files u answer → Shows F job files v answer
shows-alike F job files u v answer valid h = go answer
  where
    go : (answer : Result End RunFault) → Shows F job files u answer → Shows F job files v answer
    go (Ok (end.Done outcome)) shows = (
      record { sheets = shows.0.sheets ∙ all-sheets-alike F job valid.some u v valid h; phases = shows.0.phases; letters = shows.0.letters },
      sym (any-over-alike F job valid.some u v h) ∙ shows.1,
    )
    go (Ok end.Over) shows = sym (any-over-alike F job valid.some u v h) ∙ shows
    go (Ok (end.Undelivered names)) shows = tt
    go (Err fault) shows = tt
