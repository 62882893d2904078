-- What holds of a job that is read, table by table.
use Rattle.std.proofs.Common.{◌≡◌, ◌+◌, ◌≤◌, ℕ, cond, List, [], Ok, Err, length, refl, subst, arith}
use Rattle.std.specs.Prelude.{codes, nat_le}
use Rattle.std.proofs.lemmas.Bool.{leb-true}
use Rattle.toml.specs.Data.{Data, Items, no_items, Members, get_member}
use Rattle.model_defs.specs.declared.job.Job.{Job}
use Rattle.model_defs.specs.declared.job.MapSpec.{MapSpec}
use Rattle.model_defs.specs.declared.job.VectorSpec.{VectorSpec}
use Rattle.model_defs.specs.declared.job.PartsSpec.{PartsSpec}
use Rattle.model_defs.specs.declared.job.MatrixSpec.{MatrixSpec}
use Rattle.model_defs.specs.declared.job.Step.{Step}
use Rattle.model_defs.specs.Limits.{most_ranks, most_maps, most_given, most_steps}
use Rattle.job_text.specs.declared.fault.JobFault.TheVariants.{Limit}
use Rattle.job_text.specs.declared.place.Place.TheVariants as place
use Rattle.job_text.specs.declared.words.Form.TheVariants as form
use Rattle.job_text.specs.Outcomes.{◌>>=◌}
use Rattle.job_text.specs.Names.{Text}
use Rattle.job_text.specs.Keys.{only_keys, number_at, array_of, wrong_kind, limit}
use Rattle.job_text.specs.Lists.{item_count, are_tables}
use Rattle.job_text.specs.Tables.{tables_of, tables_at}
use Rattle.job_text.specs.Known.{Known, no_names, with_spec, with_step, Read, read}
use Rattle.job_text.specs.Maps.{maps_after}
use Rattle.job_text.specs.Given.{vectors_after, parts_after, matrices_after}
use Rattle.job_text.specs.Steps.{steps_after}
use Rattle.job_text.specs.Whole.{Arrays, job_of_arrays, job_in, document_of, most_bytes, job_of}
use Rattle.job_validity.proofs.Outcomes.{Holds, weaken, bind, when, skip}
use Rattle.job_validity.proofs.KeyFacts.{IsWithin, number-at, given}
use Rattle.job_validity.proofs.MapFacts.{IsMapFor}
use Rattle.job_validity.proofs.Seen.{IsVectorFor, IsPartsFor}
use Rattle.job_validity.proofs.StepFacts.{IsStepFor}
use Rattle.job_validity.proofs.Traces.{all_next, AreFor, AreRead, with_vector, with_parts, with_matrix, IsMatrixFor, maps-read, vectors-read, parts-read, matrices-read, steps-read}

-- ---- what is named after each array

abbrev pub after_maps : Job → Known
after_maps job = all_next with_spec (no_names job.ranks) job.maps

abbrev pub after_vectors : Job → Known
after_vectors job = all_next with_vector (after_maps job) job.vectors

abbrev pub after_parts : Job → Known
after_parts job = all_next with_parts (after_vectors job) job.parts

abbrev pub after_matrices : Job → Known
after_matrices job = all_next with_matrix (after_parts job) job.matrices

-- each table is one that may stand after those before it
pub record IsOfTables (job : Job) : Type 0 where
  pub maps : AreFor with_spec IsMapFor (no_names job.ranks) job.maps
  pub vectors : AreFor with_vector IsVectorFor (after_maps job) job.vectors
  pub parts : AreFor with_parts IsPartsFor (after_vectors job) job.parts
  pub matrices : AreFor with_matrix IsMatrixFor (after_parts job) job.matrices
  pub steps : AreFor with_step IsStepFor (after_matrices job) job.steps

-- as many of each as there are tables
pub record HasAsMany (a : Arrays) (job : Job) : Type 0 where
  pub ranks : job.ranks ≡ a.ranks
  pub maps : length job.maps ≡ item_count a.maps
  pub vectors : length job.vectors ≡ item_count a.vectors
  pub parts : length job.parts ≡ item_count a.parts
  pub matrices : length job.matrices ≡ item_count a.matrices
  pub steps : length job.steps ≡ item_count a.steps

module _ (a : Arrays) where
  abbrev IsFromArrays : Job → Type 0
  IsFromArrays job = HasAsMany a job × IsOfTables job

  whole : (maps : Read MapSpec) (vectors : Read VectorSpec) (parts : Read PartsSpec) (matrices : Read MatrixSpec) (steps : Read Step)
      → AreRead with_spec IsMapFor (no_names a.ranks) (item_count a.maps) maps → AreRead with_vector IsVectorFor maps.known (item_count a.vectors) vectors
      → AreRead with_parts IsPartsFor vectors.known (item_count a.parts) parts → AreRead with_matrix IsMatrixFor parts.known (item_count a.matrices) matrices
      → AreRead with_step IsStepFor matrices.known (item_count a.steps) steps
      → IsFromArrays (record { ranks = a.ranks; maps = maps.done; vectors = vectors.done; parts = parts.done; matrices = matrices.done; steps = steps.done })
  whole maps vectors parts matrices steps m v' p' x' s' =
      let v = subst (λ k. AreRead with_vector IsVectorFor k (item_count a.vectors) vectors) m.known v' in
      let p = subst (λ k. AreRead with_parts IsPartsFor k (item_count a.parts) parts) v.known p' in
      let x = subst (λ k. AreRead with_matrix IsMatrixFor k (item_count a.matrices) matrices) p.known x' in
      let s = subst (λ k. AreRead with_step IsStepFor k (item_count a.steps) steps) x.known s' in (
        record { ranks = refl; maps = m.many; vectors = v.many; parts = p.many; matrices = x.many; steps = s.many },
        record { maps = m.each; vectors = v.each; parts = p.each; matrices = x.each; steps = s.each },
      )

  from-arrays : Holds IsFromArrays (job_of_arrays a)
  from-arrays =
      bind (AreRead with_spec IsMapFor (no_names a.ranks) (item_count a.maps)) IsFromArrays (maps_after (read (no_names a.ranks) []) 0 a.maps) _ (maps-read (no_names a.ranks) a.maps) (λ maps m.
      bind (AreRead with_vector IsVectorFor maps.known (item_count a.vectors)) IsFromArrays (vectors_after (read maps.known []) 0 a.vectors) _ (vectors-read maps.known a.vectors) (λ vectors v.
      bind (AreRead with_parts IsPartsFor vectors.known (item_count a.parts)) IsFromArrays (parts_after (read vectors.known []) 0 a.parts) _ (parts-read vectors.known a.parts) (λ parts p.
      bind (AreRead with_matrix IsMatrixFor parts.known (item_count a.matrices)) IsFromArrays (matrices_after (read parts.known []) 0 a.matrices) _ (matrices-read parts.known a.matrices) (λ matrices x.
      bind (AreRead with_step IsStepFor matrices.known (item_count a.steps)) IsFromArrays (steps_after (read matrices.known []) 0 a.steps) _ (steps-read matrices.known a.steps) (λ steps s.
      whole maps vectors parts matrices steps m v p x s)))))

-- ---- the top table

module _ (top : Members) (key : Text) (before most : ℕ) where
  abbrev AreFew : Items → Type 0
  AreFew ds = before + item_count ds ≤ most

  tables-of : (d : Data) → Holds AreFew (tables_of key before most d)
  tables-of d = skip AreFew (array_of place.Top key d) _ (λ ds.
      when AreFew (are_tables ds) (cond (nat_le (before + item_count ds) most) (Ok ds) (Err (limit place.Top key))) (wrong_kind place.Top key) (λ e.
      when AreFew (nat_le (before + item_count ds) most) (Ok ds) (limit place.Top key) (λ f. leb-true (before + item_count ds) most f)))

  tables-at : before ≤ most → Holds AreFew (tables_at top key before most)
  tables-at l = given AreFew no_items (tables_of key before most) (get_member key top) (omega arith) tables-of

-- ---- a job that is read

pub record IsReadJob (job : Job) : Type 0 where
  pub some : 1 ≤ job.ranks
  pub ranks : job.ranks ≤ most_ranks
  pub maps : length job.maps ≤ most_maps
  pub given : length job.vectors + length job.parts + length job.matrices ≤ most_given
  pub steps : length job.steps ≤ most_steps
  pub tables : IsOfTables job

module _ (top : Members) where
  job-in : Holds IsReadJob (job_in top)
  job-in =
      skip IsReadJob (only_keys place.Top form.Top top) _ (λ t.
      bind (IsWithin 1 most_ranks) IsReadJob (number_at place.Top top (codes "ranks") 1 most_ranks) _ (number-at place.Top top (codes "ranks") 1 most_ranks) (λ ranks w.
      bind (AreFew top (codes "map") 0 most_maps) IsReadJob (tables_at top (codes "map") 0 most_maps) _ (tables-at top (codes "map") 0 most_maps (omega arith)) (λ maps m.
      bind (AreFew top (codes "vector") 0 most_given) IsReadJob (tables_at top (codes "vector") 0 most_given) _ (tables-at top (codes "vector") 0 most_given (omega arith)) (λ vectors v.
      bind (AreFew top (codes "parts") (item_count vectors) most_given) IsReadJob (tables_at top (codes "parts") (item_count vectors) most_given) _ (tables-at top (codes "parts") (item_count vectors) most_given (omega arith)) (λ parts p.
      bind (AreFew top (codes "matrix") (item_count vectors + item_count parts) most_given) IsReadJob (tables_at top (codes "matrix") (item_count vectors + item_count parts) most_given) _ (tables-at top (codes "matrix") (item_count vectors + item_count parts) most_given p) (λ matrices x.
      bind (AreFew top (codes "do") 0 most_steps) IsReadJob (tables_at top (codes "do") 0 most_steps) _ (tables-at top (codes "do") 0 most_steps (omega arith)) (λ steps s.
      let a : Arrays = record { ranks = ranks; maps = maps; vectors = vectors; parts = parts; matrices = matrices; steps = steps } in
      weaken (IsFromArrays a) IsReadJob (job_of_arrays a) (λ job h. limits a job h w.0 w.1 m x s) (from-arrays a))))))))
    where
      limits : (a : Arrays) (job : Job) → IsFromArrays a job → 1 ≤ a.ranks → a.ranks ≤ most_ranks → 0 + item_count a.maps ≤ most_maps
          → item_count a.vectors + item_count a.parts + item_count a.matrices ≤ most_given → 0 + item_count a.steps ≤ most_steps → IsReadJob job
      limits a job h r r' m g s =
          let many = h.0 in
          record {
            some = omega (arith, many.ranks);
            ranks = omega (arith, many.ranks);
            maps = omega (arith, many.maps);
            given = omega (arith, many.vectors, many.parts, many.matrices);
            steps = omega (arith, many.steps);
            tables = h.1;
          }

pub job-read : (text : List ℕ) → Holds IsReadJob (job_of text)
job-read text = when IsReadJob (nat_le (length text) most_bytes) (document_of text >>= job_in) (Limit (codes "job")) (λ e. skip IsReadJob (document_of text) job_in job-in)
