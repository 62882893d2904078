-- What is given, by the texts and the files that were read.
use Rattle.std.proofs.Common.{◌≡◌, ℕ, List, [], ◌∷◌, Option, Result, Ok, Err, sym, ap, ◌∙◌, subst}
use Rattle.std.specs.Prelude.{Vec}
use Rattle.std.specs.Global.{Global}
use Rattle.outside.specs.Reads.{Source}
use Rattle.mm_text.specs.declared.file_data.FileData.{FileData}
use Rattle.mm_text.specs.Reading.{File}
use Rattle.model_defs.specs.declared.job.Job.{Job}
use Rattle.model_defs.specs.Fitting.{IsFitting}
use Rattle.job_text.specs.Whole.{job_of}
use Rattle.job_files.specs.Walk.{file_names_read}
use Rattle.run_words.specs.Given.{DeliveryOrder}
use Rattle.run_input.specs.declared.fault.InputFault.{InputFault}
use Rattle.run_input.specs.declared.texts.ReadText.{ReadText}
use Rattle.run_input.specs.declared.texts.Texts.{Texts}
use Rattle.run_input.specs.Answering.{Answers, Stops, found_files}
use Rattle.run_input.specs.Orders.{order_given}
use Rattle.run_input.specs.Sources.{SomeSource}
use Rattle.run_input.specs.Texts.{AreRead, GivesText, GivesTexts}
use Rattle.run_input.specs.Walk.{Stop, fitting_files_at, input_of, job_at, order_at, reads_for, schedule_names}
use Rattle.run_input.proofs.Stopping.{some-weaker}
use Rattle.run_input.proofs.Walking.{all-given, files-fit, files-stop, job-read, job-stops, order-stops}

-- the job of a text that was read
pub job-of-text : (source : Source) (name : List ℕ) (job : Job) (read : ReadText) → read.name.now ≡ name → job_of read.bytes.items ≡ Ok job → GivesText source read
    → job_at source name ≡ Ok job
job-of-text source name job read named e gives = job-read source name read.bytes.items job (ap source (sym named) ∙ gives) e

-- the job stops the walk
pub job-fault : (told : Option Source) (name : List ℕ) (asked : DeliveryOrder) (fault : InputFault) → SomeSource told (λ source. Stops (name ∷ []) (job_at source name) fault)
    → SomeSource told (λ source. Stops (reads_for source name asked) (input_of source name asked) fault)
job-fault told name asked fault some = some-weaker told _ _ (λ source h. job-stops source name asked fault h) some

-- the order does
pub order-fault : (told mid : Option Source) (name : List ℕ) (asked : DeliveryOrder) (job : Job) (read : ReadText) (fault : InputFault) → mid ≡ told
    → read.name.now ≡ name → job_of read.bytes.items ≡ Ok job
    → SomeSource mid (λ source. GivesText source read × Stops (schedule_names asked) (order_at source asked) fault)
    → SomeSource told (λ source. Stops (reads_for source name asked) (input_of source name asked) fault)
order-fault told mid name asked job read fault same named e some =
    subst (λ (t : Option Source). SomeSource t (λ source. Stops (reads_for source name asked) (input_of source name asked) fault)) same
    (some-weaker mid _ _ (λ source h. order-stops source name asked job (job-of-text source name job read named e h.0) fault h.1) some)

-- a file does, or the sizes
module _ (told mid : Option Source) (name : List ℕ) (asked : DeliveryOrder) (texts : Texts) (same : mid ≡ told) (read : AreRead name asked texts) where
  files-named : (source : Source) → fitting_files_at source texts.job_text.name.now texts.job ≡ fitting_files_at source name texts.job
  files-named source = ap (λ n. fitting_files_at source n texts.job) read.named

  pub files-fault : (fault : InputFault)
      → SomeSource mid (λ source. let r : Result (Vec FileData Global) InputFault = Err fault in
      GivesTexts source texts × Answers found_files (file_names_read texts.job source) (fitting_files_at source texts.job_text.name.now texts.job) r)
      → SomeSource told (λ source. Stops (reads_for source name asked) (input_of source name asked) fault)
  files-fault fault some =
      subst (λ (t : Option Source). SomeSource t (λ source. Stops (reads_for source name asked) (input_of source name asked) fault)) same
      (some-weaker mid _ _ (λ source h.
      files-stop source name asked texts.job (read.job source h.0) (order_given texts.order) (read.order source h.0) fault
      (subst (λ (w : Result (List File) Stop). Stops (file_names_read texts.job source) w fault) (files-named source) h.1)) some)

  pub all-read : (found : Vec FileData Global)
      → SomeSource mid (λ source. GivesTexts source texts × Answers found_files (file_names_read texts.job source) (fitting_files_at source texts.job_text.name.now texts.job) (Ok found))
      → SomeSource told (λ source. input_of source name asked ≡ Ok (record { job = texts.job; files = found_files found; order = order_given texts.order }))
  all-read found some =
      subst (λ (t : Option Source). SomeSource t (λ source. input_of source name asked ≡ Ok (record { job = texts.job; files = found_files found; order = order_given texts.order }))) same
      (some-weaker mid _ _ (λ source h.
      all-given source name asked texts.job (read.job source h.0) (order_given texts.order) (read.order source h.0) (found_files found) (sym (files-named source) ∙ h.1)) some)

  -- what is given can be run
  module _ (found : Vec FileData Global)
      (some : SomeSource mid (λ source. GivesTexts source texts × Answers found_files (file_names_read texts.job source) (fitting_files_at source texts.job_text.name.now texts.job) (Ok found))) where
    pub read-fits : IsFitting texts.job (found_files found)
    read-fits = files-fit some.source texts.job_text.name.now texts.job (found_files found) some.passes.1
