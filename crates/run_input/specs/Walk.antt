-- What a run is given, over a source of texts: its job, the order of deliveries and the files of the given values. The first
-- step that refuses decides.
use Rattle.std.specs.Prelude.{ℕ, List, [], ◌∷◌, ◌++◌, Option, None, Some, Result, Ok, Err}
use Rattle.outside.specs.Reads.{Source}
use Rattle.mm_text.specs.Reading.{File}
use Rattle.model_defs.specs.declared.job.Job.{Job}
use Rattle.model_defs.specs.Fitting.{first_unfit}
use Rattle.model_defs.specs.Makers.{maker_name, maker_of}
use Rattle.schedule.specs.declared.chooser.Chooser.TheVariants as chooser
use Rattle.schedule.specs.declared.order.Entry.{Entry}
use Rattle.schedule.specs.Texts.{schedule_of}
use Rattle.job_text.specs.Whole.{job_of}
use Rattle.job_files.specs.Walk as matrices
use Rattle.run_words.specs.Given.{DeliveryOrder, fifo, lifo, seeded, listed}
use Rattle.run_input.specs.declared.fault.TextFault.{TextFault}
use Rattle.run_input.specs.declared.fault.TextFault.TheVariants as text_fault
use Rattle.run_input.specs.Orders.{GivenOrder, by_rule, in_turn}

-- where the walk ends before all is given
pub data Stop : Type 0 where
  -- no file has this name
  no_file : List ℕ → Stop
  -- the text of the file of this name has this fault first
  refused : List ℕ → TextFault → Stop

-- what follows where the walk goes on
infixl 10 ◌>>=◌
abbrev pub ◌>>=◌ : {A B : Type 0} → Result A Stop → (A → Result B Stop) → Result B Stop
(Ok x) >>= next = next x
(Err stop) >>= next = Err stop

-- what the text of the file of this name is read as, or its fault, as one of this kind
abbrev pub or_refused : {A Fault : Type 0} → List ℕ → (Fault → TextFault) → Result A Fault → Result A Stop
or_refused name kind (Ok x) = Ok x
or_refused name kind (Err fault) = Err (refused name (kind fault))

abbrev pub or_no_file : List ℕ → Option (List ℕ) → Result (List ℕ) Stop
or_no_file name None = Err (no_file name)
or_no_file name (Some text) = Ok text

-- the text of the file of this name
abbrev pub text_at : Source → List ℕ → Result (List ℕ) Stop
text_at source name = or_no_file name (source name)

-- the job of the file of this name
abbrev pub job_at : Source → List ℕ → Result Job Stop
job_at source name = do
  text ← text_at source name
  or_refused name text_fault.Job (job_of text)

-- the lines of the schedule of this name
abbrev pub entries_at : Source → List ℕ → Result (List Entry) Stop
entries_at source name = do
  text ← text_at source name
  or_refused name text_fault.Schedule (schedule_of text)

-- the order that the words ask for
abbrev pub order_at : Source → DeliveryOrder → Result GivenOrder Stop
order_at source fifo = Ok (by_rule chooser.Fifo)
order_at source lifo = Ok (by_rule chooser.Lifo)
order_at source (seeded seed) = Ok (by_rule (chooser.Seed seed))
order_at source (listed name) = do
  entries ← entries_at source name
  Ok (in_turn entries)

-- where the reading of a job's files ends
abbrev pub stop_at : matrices.Stop → Stop
stop_at (matrices.no_file name) = no_file name
stop_at (matrices.refused name fault) = refused name (text_fault.Matrix fault)

abbrev pub files_or_stop : Result (List File) matrices.Stop → Result (List File) Stop
files_or_stop (Ok files) = Ok files
files_or_stop (Err stop) = Err (stop_at stop)

-- the files of the given values: of the vectors, of the parts with the ranks ascending, of the matrices
abbrev pub files_at : Source → Job → Result (List File) Stop
files_at source job = files_or_stop (matrices.files_of job source)

-- the first value of which a file has other sizes than the job states, if there is one, is refused under the job's name
abbrev pub sizes_compared : List ℕ → Job → Option ℕ → Result (Unit {0}) Stop
sizes_compared name job None = Ok tt
sizes_compared name job (Some k) = Err (refused name (text_fault.SizeMismatch (maker_name (maker_of job k))))

-- the files, where all have the sizes that the job of this name states
abbrev pub fitting_files_at : Source → List ℕ → Job → Result (List File) Stop
fitting_files_at source name job = do
  files ← files_at source job
  sizes ← sizes_compared name job (first_unfit job files)
  Ok files

pub record Input : Type 0 where
  pub job : Job
  pub files : List File
  pub order : GivenOrder

-- what the run of the job of this name is given
abbrev pub input_of : Source → List ℕ → DeliveryOrder → Result Input Stop
input_of source name asked = do
  job ← job_at source name
  order ← order_at source asked
  files ← fitting_files_at source name job
  Ok (record { job = job; files = files; order = order })

-- the names behind a step, where the walk goes on
abbrev pub names_behind : {A : Type 0} → Result A Stop → (A → List (List ℕ)) → List (List ℕ)
names_behind (Ok x) next = next x
names_behind (Err stop) next = []

-- the name of the schedule, where the words name one
abbrev pub schedule_names : DeliveryOrder → List (List ℕ)
schedule_names (listed name) = name ∷ []
schedule_names fifo = []
schedule_names lifo = []
schedule_names (seeded seed) = []

-- the names that are read, in order, up to the one at which the walk ends
abbrev pub reads_for : Source → List ℕ → DeliveryOrder → List (List ℕ)
reads_for source name asked =
    name ∷ names_behind (job_at source name)
    (λ job. schedule_names asked ++ names_behind (order_at source asked) (λ order. matrices.file_names_read job source))
