-- What is named and stated table by table.
use Rattle.std.proofs.Common.{◌≡◌, ◌+◌, ℕ, List, [], ◌∷◌, ◌++◌, Ok, Err, length, refl, ap, sym, subst, ◌∙◌, arith, append-nil, append_assoc}
use Rattle.std.specs.Prelude.{codes}
use Rattle.toml.specs.Data.{Data, Items, no_items, item, Members}
use Rattle.model_defs.specs.declared.job.VectorSpec.{VectorSpec}
use Rattle.model_defs.specs.declared.job.PartsSpec.{PartsSpec}
use Rattle.model_defs.specs.declared.job.MatrixSpec.{MatrixSpec}
use Rattle.model_defs.specs.Makers.{GivenVector, GivenParts, GivenMatrix}
use Rattle.job_text.specs.declared.place.Place.TheVariants as place
use Rattle.job_text.specs.declared.words.Form.TheVariants as form
use Rattle.job_text.specs.Outcomes.{Outcome, ◌>>=◌}
use Rattle.job_text.specs.Names.{Text}
use Rattle.job_text.specs.Keys.{only_keys}
use Rattle.job_text.specs.Lists.{item_count}
use Rattle.job_text.specs.Tables.{table_of}
use Rattle.job_text.specs.Known.{Known, with_spec, with_maker, with_step, Read, read}
use Rattle.job_text.specs.Maps.{map_in, maps_after}
use Rattle.job_text.specs.Given.{vector_in, vectors_after, parts_in, parts_after, matrix_in, matrices_after}
use Rattle.job_text.specs.Steps.{op_at, step_in, steps_after}
use Rattle.job_validity.proofs.Outcomes.{Holds, weaken, bind, skip}
use Rattle.job_validity.proofs.MapFacts.{IsMapFor, map-in}
use Rattle.job_validity.proofs.Seen.{IsMakerFor, IsVectorFor, IsPartsFor}
use Rattle.job_validity.proofs.GivenFacts.{vector-in, parts-in, matrix-in}
use Rattle.job_validity.proofs.StepFacts.{IsStepFor, step-of}

-- what is named after each of a list, and what holds of each by what is named before it
module _ {A : Type 0} (next : Known → A → Known) where
  abbrev pub all_next : Known → List A → Known
  all_next known [] = known
  all_next known (x ∷ xs) = all_next (next known x) xs

module _ {A : Type 0} (next : Known → A → Known) (For : Known → A → Type 0) where
  abbrev pub AreFor : Known → List A → Type 0
  AreFor known [] = Unit {0}
  AreFor known (x ∷ xs) = For known x × AreFor (next known x) xs

  -- so many were read after these
  pub record Grown (so_far : Read A) (count : ℕ) (r : Read A) : Type 0 where
    pub new : List A
    pub known : r.known ≡ all_next next so_far.known new
    pub done : r.done ≡ so_far.done ++ new
    pub many : length new ≡ count
    pub each : AreFor so_far.known new

  grown-none : (so_far : Read A) → Grown so_far 0 so_far
  grown-none so_far = record { new = []; known = refl; done = sym (append-nil so_far.done); many = refl; each = tt }

  grown-more : (known : Known) (done : List A) (x : A) (count : ℕ) (r : Read A) → For known x → Grown (read (next known x) (done ++ x ∷ [])) count r → Grown (read known done) (1 + count) r
  grown-more known done x count r h g = record {
    new = x ∷ g.new;
    known = g.known;
    done = g.done ∙ append_assoc done (x ∷ []) g.new;
    many = let m = g.many in omega arith;
    each = (h, g.each);
  }

  -- so many were read, of what was named before
  pub record AreRead (start : Known) (count : ℕ) (r : Read A) : Type 0 where
    pub known : r.known ≡ all_next next start r.done
    pub many : length r.done ≡ count
    pub each : AreFor start r.done

  pub all-read : (known : Known) (count : ℕ) (r : Read A) → Grown (read known []) count r → AreRead known count r
  all-read known count r g = record {
    known = g.known ∙ ap (all_next next known) (sym g.done);
    many = ap length g.done ∙ g.many;
    each = subst (AreFor known) (sym g.done) g.each;
  }

-- What is read table by table: each of a table and of what is named before it.
module _ {A : Type 0} (next : Known → A → Known) (For : Known → A → Type 0) (after : Read A → ℕ → Items → Outcome (Read A)) (array : Text) (one : ℕ → Members → Known → Outcome A)
    (each : (k : ℕ) (table : Members) (known : Known) → Holds (For known) (one k table known)) (stops : (so_far : Read A) (k : ℕ) → after so_far k no_items ≡ Ok so_far)
    (goes : (so_far : Read A) (k : ℕ) (d : Data) (ds : Items) → after so_far k (item d ds)
    ≡ (table_of array d >>= λ table. one k table so_far.known >>= λ x. after (read (next so_far.known x) (so_far.done ++ x ∷ [])) (k + 1) ds)) where
  abbrev IsAfter : Read A → ℕ → Read A → Type 0
  IsAfter so_far count r = Grown next For so_far count r

  grown : (so_far : Read A) (k : ℕ) (ds : Items) → Holds (IsAfter so_far (item_count ds)) (after so_far k ds)
  grown so_far k no_items = subst (Holds (IsAfter so_far 0)) (sym (stops so_far k)) (grown-none next For so_far)
  grown so_far k (item d ds) =
      subst (Holds (IsAfter so_far (1 + item_count ds))) (sym (goes so_far k d ds))
      (skip (IsAfter so_far (1 + item_count ds)) (table_of array d) _ (λ table.
      bind (For so_far.known) (IsAfter so_far (1 + item_count ds)) (one k table so_far.known) _ (each k table so_far.known) (λ x h.
      weaken (IsAfter (read (next so_far.known x) (so_far.done ++ x ∷ [])) (item_count ds)) (IsAfter so_far (1 + item_count ds)) _
      (λ r g. grown-more next For so_far.known so_far.done x (item_count ds) r h g)
      (grown (read (next so_far.known x) (so_far.done ++ x ∷ [])) (k + 1) ds))))

  array-read : (known : Known) (ds : Items) → Holds (AreRead next For known (item_count ds)) (after (read known []) 0 ds)
  array-read known ds =
      weaken (IsAfter (read known []) (item_count ds)) (AreRead next For known (item_count ds)) (after (read known []) 0 ds) (all-read next For known (item_count ds))
      (grown (read known []) 0 ds)

-- ---- the arrays

abbrev pub with_vector : Known → VectorSpec → Known
with_vector known spec = with_maker known (GivenVector spec)

abbrev pub with_parts : Known → PartsSpec → Known
with_parts known spec = with_maker known (GivenParts spec)

abbrev pub with_matrix : Known → MatrixSpec → Known
with_matrix known spec = with_maker known (GivenMatrix spec)

abbrev pub IsMatrixFor : Known → MatrixSpec → Type 0
IsMatrixFor known spec = IsMakerFor known (GivenMatrix spec)

step-in : (k : ℕ) (table : Members) (known : Known) → Holds (IsStepFor known) (step_in k table known)
step-in k table known =
    skip (IsStepFor known) (op_at (place.Do k) table) _ (λ o. skip (IsStepFor known) (only_keys (place.Do k) (form.Do o) table) _ (λ only. step-of k table known o))

-- ---- from the start of an array

pub maps-read : (known : Known) (ds : Items) → Holds (AreRead with_spec IsMapFor known (item_count ds)) (maps_after (read known []) 0 ds)
maps-read = array-read with_spec IsMapFor maps_after (codes "map") (λ k. map_in (place.Map k)) (λ k. map-in (place.Map k)) (λ so_far k. refl) (λ so_far k d ds. refl)

pub vectors-read : (known : Known) (ds : Items) → Holds (AreRead with_vector IsVectorFor known (item_count ds)) (vectors_after (read known []) 0 ds)
vectors-read = array-read with_vector IsVectorFor vectors_after (codes "vector") (λ k. vector_in (place.Vector k)) (λ k. vector-in (place.Vector k)) (λ so_far k. refl) (λ so_far k d ds. refl)

pub parts-read : (known : Known) (ds : Items) → Holds (AreRead with_parts IsPartsFor known (item_count ds)) (parts_after (read known []) 0 ds)
parts-read = array-read with_parts IsPartsFor parts_after (codes "parts") (λ k. parts_in (place.Parts k)) (λ k. parts-in (place.Parts k)) (λ so_far k. refl) (λ so_far k d ds. refl)

pub matrices-read : (known : Known) (ds : Items) → Holds (AreRead with_matrix IsMatrixFor known (item_count ds)) (matrices_after (read known []) 0 ds)
matrices-read = array-read with_matrix IsMatrixFor matrices_after (codes "matrix") (λ k. matrix_in (place.Matrix k)) (λ k. matrix-in (place.Matrix k)) (λ so_far k. refl) (λ so_far k d ds. refl)

pub steps-read : (known : Known) (ds : Items) → Holds (AreRead with_step IsStepFor known (item_count ds)) (steps_after (read known []) 0 ds)
steps-read = array-read with_step IsStepFor steps_after (codes "do") step_in step-in (λ so_far k. refl) (λ so_far k d ds. refl)
