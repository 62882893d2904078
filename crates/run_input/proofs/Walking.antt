-- The whole walk, by its steps.
use Rattle.std.proofs.Common.{◌≡◌, ℕ, List, [], ◌∷◌, ◌++◌, Option, None, Some, Result, Ok, Err, refl, sym, ap, ◌∙◌, subst}
use Rattle.std.specs.List.{IsAmong}
use Rattle.outside.specs.Reads.{Source}
use Rattle.mm_text.specs.Reading.{File}
use Rattle.model_defs.specs.declared.job.Job.{Job}
use Rattle.model_defs.specs.Fitting.{IsFitting, first_unfit}
use Rattle.model_defs.specs.Valid.{IsValid}
use Rattle.job_text.specs.declared.fault.JobFault.{JobFault}
use Rattle.job_text.specs.Whole.{job_of}
use Rattle.job_files.specs.Walk as matrices
use Rattle.job_fit.proofs.Fitted.{read-files-fit}
use Rattle.job_validity.proofs.ReadJobs.{read-jobs-are-valid}
use Rattle.run_words.specs.Given.{DeliveryOrder}
use Rattle.run_input.specs.declared.fault.InputFault.{InputFault}
use Rattle.run_input.specs.declared.fault.TextFault.TheVariants as text_fault
use Rattle.run_input.specs.Answering.{Stops}
use Rattle.run_input.specs.Orders.{GivenOrder}
use Rattle.run_input.specs.Walk.{Input, Stop, ◌>>=◌, files_at, files_or_stop, fitting_files_at, input_of, job_at, names_behind, or_no_file, or_refused, order_at, reads_for, schedule_names, sizes_compared}
use Rattle.run_input.proofs.Among.{among-first, among-later, among-left, among-right}
use Rattle.run_input.proofs.Stopping.{not_refused, stops-same, stops-then, stops-wider}

-- the steps behind the job, and behind the order
abbrev with_files : Job → GivenOrder → List File → Result Input Stop
with_files job order files = Ok (record { job = job; files = files; order = order })

abbrev behind_order : Source → List ℕ → Job → GivenOrder → Result Input Stop
behind_order source name job order = fitting_files_at source name job >>= with_files job order

abbrev behind_job : Source → List ℕ → DeliveryOrder → Job → Result Input Stop
behind_job source name asked job = order_at source asked >>= behind_order source name job

module _ (source : Source) (name : List ℕ) (asked : DeliveryOrder) where
  abbrev order_reads : Job → List (List ℕ)
  order_reads job = schedule_names asked ++ names_behind (order_at source asked) (λ order. matrices.file_names_read job source)

  -- the job stops it
  pub job-stops : (fault : InputFault) → Stops (name ∷ []) (job_at source name) fault → Stops (reads_for source name asked) (input_of source name asked) fault
  job-stops fault h =
      stops-then (reads_for source name asked) (job_at source name) (behind_job source name asked) fault
      (stops-wider (name ∷ []) (reads_for source name asked) (job_at source name) fault (λ n i. among-first name n _ i) h)

  module _ (job : Job) (job-is : job_at source name ≡ Ok job) where
    reads-are : reads_for source name asked ≡ name ∷ order_reads job
    reads-are = ap (λ (r : Result Job Stop). name ∷ names_behind r order_reads) job-is

    input-is : input_of source name asked ≡ behind_job source name asked job
    input-is = ap (λ (r : Result Job Stop). r >>= behind_job source name asked) job-is

    -- the order does
    pub order-stops : (fault : InputFault) → Stops (schedule_names asked) (order_at source asked) fault → Stops (reads_for source name asked) (input_of source name asked) fault
    order-stops fault h =
        stops-same (reads_for source name asked) (behind_job source name asked job) (input_of source name asked) fault (sym input-is)
        (stops-then (reads_for source name asked) (order_at source asked) (behind_order source name job) fault
        (stops-wider (schedule_names asked) (reads_for source name asked) (order_at source asked) fault
        (λ n i. subst (λ (ns : List (List ℕ)). IsAmong ns n) (sym reads-are) (among-later name n (order_reads job) (among-left n (schedule_names asked) _ i))) h))

    module _ (order : GivenOrder) (order-is : order_at source asked ≡ Ok order) where
      files-reads : order_reads job ≡ schedule_names asked ++ matrices.file_names_read job source
      files-reads = ap (λ (r : Result GivenOrder Stop). schedule_names asked ++ names_behind r (λ o. matrices.file_names_read job source)) order-is

      files-input : input_of source name asked ≡ behind_order source name job order
      files-input = input-is ∙ ap (λ (r : Result GivenOrder Stop). r >>= behind_order source name job) order-is

      -- a file does, or the sizes
      pub files-stop : (fault : InputFault) → Stops (matrices.file_names_read job source) (fitting_files_at source name job) fault
          → Stops (reads_for source name asked) (input_of source name asked) fault
      files-stop fault h =
          stops-same (reads_for source name asked) (behind_order source name job order) (input_of source name asked) fault (sym files-input)
          (stops-then (reads_for source name asked) (fitting_files_at source name job) (with_files job order) fault
          (stops-wider (matrices.file_names_read job source) (reads_for source name asked) (fitting_files_at source name job) fault
          (λ n i. subst (λ (ns : List (List ℕ)). IsAmong ns n) (sym (reads-are ∙ ap (λ ns. name ∷ ns) files-reads))
          (among-later name n _ (among-right n (schedule_names asked) (matrices.file_names_read job source) i))) h))

      -- all is given
      pub all-given : (files : List File) → fitting_files_at source name job ≡ Ok files
          → input_of source name asked ≡ Ok (record { job = job; files = files; order = order })
      all-given files e = files-input ∙ ap (λ (r : Result (List File) Stop). r >>= with_files job order) e

-- the job of a text that a source has
pub job-read : (source : Source) (name text : List ℕ) (job : Job) → source name ≡ Some text → job_of text ≡ Ok job → job_at source name ≡ Ok job
job-read source name text job named e =
    ap (λ (o : Option (List ℕ)). or_no_file name o >>= (λ t. or_refused name text_fault.Job (job_of t))) named
    ∙ ap (λ (r : Result Job JobFault). or_refused name text_fault.Job r) e

-- a job that was read is valid
pub read-valid : (text : List ℕ) (job : Job) → job_of text ≡ Ok job → IsValid job
read-valid text job e = read-jobs-are-valid text job e

-- ---- what is given can be run

-- what a step gave, where all is given
record Began {A B : Type 0} (walk : Result A Stop) (next : A → Result B Stop) (x : B) : Type 0 where
  first : A
  is : walk ≡ Ok first
  rest : next first ≡ Ok x

began : {A B : Type 0} (walk : Result A Stop) (next : A → Result B Stop) (x : B) → (walk >>= next) ≡ Ok x → Began walk next x
began (Ok y) next x e = record { first = y; is = refl; rest = e }
began (Err stop) next x e = absurd (cc)

has_job : (name : List ℕ) (o : Option (List ℕ)) (job : Job) → (or_no_file name o >>= (λ t. or_refused name text_fault.Job (job_of t))) ≡ Ok job
    → (text : List ℕ) × (job_of text ≡ Ok job)
has_job name None job e = absurd (cc)
has_job name (Some text) job e = (text, not_refused text_fault.Job name (job_of text) job e)

pub job-text : (source : Source) (name : List ℕ) (job : Job) → job_at source name ≡ Ok job → (text : List ℕ) × (job_of text ≡ Ok job)
job-text source name job e = has_job name (source name) job e

pub job-valid : (source : Source) (name : List ℕ) (job : Job) → job_at source name ≡ Ok job → IsValid job
job-valid source name job e = let t = job-text source name job e in read-jobs-are-valid t.0 job t.1

files_found : (r : Result (List File) matrices.Stop) (files : List File) → files_or_stop r ≡ Ok files → r ≡ Ok files
files_found (Ok found) files e = let same : found ≡ files = cc in ap Ok same
files_found (Err stop) files e = absurd (cc)

pub files-read : (source : Source) (job : Job) (files : List File) → files_at source job ≡ Ok files → matrices.files_of job source ≡ Ok files
files-read source job files e = files_found (matrices.files_of job source) files e

sizes_fit : (name : List ℕ) (job : Job) (o : Option ℕ) (x : Unit {0}) → sizes_compared name job o ≡ Ok x → o ≡ None
sizes_fit name job None x e = refl
sizes_fit name job (Some k) x e = absurd (cc)

pub files-fit : (source : Source) (name : List ℕ) (job : Job) (files : List File) → fitting_files_at source name job ≡ Ok files → IsFitting job files
files-fit source name job files e =
    let a = began (files_at source job) _ files e in
    let b = began (sizes_compared name job (first_unfit job a.first)) _ files a.rest in
    let same : a.first ≡ files = cc in
    subst (IsFitting job) same (read-files-fit job source a.first (files-read source job a.first a.is) (sizes_fit name job (first_unfit job a.first) b.first b.is))

ok_same : {x y : Input} → (let r : Result Input Stop = Ok x in r ≡ Ok y) → x ≡ y
ok_same e = cc

-- the job of what is given, and its files
module _ (source : Source) (name : List ℕ) (asked : DeliveryOrder) (input : Input) (given : input_of source name asked ≡ Ok input) where
  a : Began (job_at source name) (behind_job source name asked) input
  a = began (job_at source name) (behind_job source name asked) input given

  b : Began (order_at source asked) (behind_order source name a.first) input
  b = began (order_at source asked) (behind_order source name a.first) input a.rest

  c : Began (fitting_files_at source name a.first) (with_files a.first b.first) input
  c = began (fitting_files_at source name a.first) (with_files a.first b.first) input b.rest

  whole : Input
  whole = record { job = a.first; files = c.first; order = b.first }

  same : whole ≡ input
  unfolding whole
  same = ok_same c.rest

  pub given-valid : IsValid input.job
  unfolding whole
  given-valid = subst (λ (i : Input). IsValid i.job) same (job-valid source name a.first a.is)

  pub given-fits : IsFitting input.job input.files
  unfolding whole
  given-fits = subst (λ (i : Input). IsFitting i.job i.files) same (files-fit source name a.first c.first c.is)
