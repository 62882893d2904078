-- The texts of a job and of a schedule, of which the front was read: whether they are accepted, and what stops at them.
use Rattle.std.proofs.Common.{◌≡◌, ◌+◌, ◌<◌, ℕ, List, [], ◌∷◌, take, length, Option, Some, Result, Ok, Err, codes, sym, ap, ◌∙◌, arith}
use Rattle.outside.specs.Reads.{HasText, Source}
use Rattle.outside.proofs.Sources.{HasText-map}
use Rattle.model_defs.specs.declared.job.Job.{Job}
use Rattle.job_text.specs.declared.fault.JobFault.TheVariants.{Limit}
use Rattle.job_text.specs.Whole.{job_of}
use Rattle.schedule.specs.declared.fault.ScheduleFault.TheVariants.{TooLong}
use Rattle.schedule.specs.declared.order.Entry.{Entry}
use Rattle.schedule.specs.Texts.{schedule_of}
use Rattle.run_words.specs.Given.{listed}
use Rattle.run_input.specs.declared.fault.InputFault.{InputFault}
use Rattle.run_input.specs.declared.fault.TextFault.{TextFault}
use Rattle.run_input.specs.declared.fault.TextFault.TheVariants as text_fault
use Rattle.run_input.specs.declared.texts.ReadText.{ReadText}
use Rattle.run_input.specs.Answering.{Stops}
use Rattle.run_input.specs.Orders.{in_turn}
use Rattle.run_input.specs.Reading.{IsUnreadOf}
use Rattle.run_input.specs.Sources.{SomeSource}
use Rattle.run_input.specs.Texts.{GivesText, TellsText}
use Rattle.run_input.specs.Walk.{Stop, ◌>>=◌, entries_at, job_at, or_no_file, or_refused, order_at, text_at}
use Rattle.run_input.proofs.Fronts.{cut, long_job, long_schedule, read_whole}
use Rattle.run_input.proofs.Stopping.{not_refused, some-text, some-texts, stops-text, stops-then, stops-unread}

-- a text that is accepted is the one that was read
module _ {A Fault : Type 0} (kind : Fault → TextFault) (most : ℕ) (reads : List ℕ → Result A Fault) (long : Fault)
    (refuses : (text : List ℕ) → most < length text → reads text ≡ Err long)
    (told : Option Source) (name bytes seen : List ℕ) (same : seen ≡ bytes) (front : HasText told name (λ text. bytes ≡ take (most + 1) text)) where
  accepts : (x : A) → reads seen ≡ Ok x → (text : List ℕ) → bytes ≡ take (most + 1) text → text ≡ bytes
  accepts x e text is =
      let taken : reads (take (most + 1) text) ≡ Ok x = ap reads (sym (same ∙ is)) ∙ e in
      sym (is ∙ read_whole most reads long refuses text x taken)

  pub accepted : (x : A) → or_refused name kind (reads seen) ≡ Ok x → HasText told name (λ text. text ≡ bytes)
  accepted x e = HasText-map told name _ _ (accepts x (not_refused kind name (reads seen) x e)) front

  seen-is : (text : List ℕ) → bytes ≡ take (most + 1) text → reads seen ≡ reads text
  seen-is text is = ap reads (same ∙ is) ∙ cut most reads long refuses text

  pub refused-there : (source : Source) (text : List ℕ) → source name ≡ Some text → bytes ≡ take (most + 1) text → (fault : InputFault)
      → Stops [] (or_refused name kind (reads seen)) fault → Stops (name ∷ []) (text_at source name >>= (λ t. or_refused name kind (reads t))) fault
  refused-there source text named is fault h = stops-text kind reads source name text named seen fault (seen-is text is) h

  pub some-refused : (fault : InputFault) → Stops [] (or_refused name kind (reads seen)) fault
      → SomeSource told (λ source. Stops (name ∷ []) (text_at source name >>= (λ t. or_refused name kind (reads t))) fault)
  some-refused fault h = some-text told name _ _ (λ source text named is. refused-there source text named is fault h) front

-- ---- the job

module _ (told : Option Source) (name bytes seen : List ℕ) (most : ℕ) (limit : most ≡ 1048576) (same : seen ≡ bytes)
    (front : HasText told name (λ text. bytes ≡ take (most + 1) text)) where
  too_long-job : (text : List ℕ) → most < length text → job_of text ≡ Err (Limit (codes "job"))
  too_long-job text h = long_job text (omega (arith, limit, h))

  pub job-told : (job : Job) → or_refused name text_fault.Job (job_of seen) ≡ Ok job → HasText told name (λ text. text ≡ bytes)
  job-told job e = accepted text_fault.Job most job_of (Limit (codes "job")) too_long-job told name bytes seen same front job e

  pub job-refused : (fault : InputFault) → Stops [] (or_refused name text_fault.Job (job_of seen)) fault
      → SomeSource told (λ source. Stops (name ∷ []) (job_at source name) fault)
  job-refused fault h = some-refused text_fault.Job most job_of (Limit (codes "job")) too_long-job told name bytes seen same front fault h

pub job-is : (name bytes seen : List ℕ) (job : Job) → seen ≡ bytes → or_refused name text_fault.Job (job_of seen) ≡ Ok job → job_of bytes ≡ Ok job
job-is name bytes seen job same e = ap job_of (sym same) ∙ not_refused text_fault.Job name (job_of seen) job e

-- ---- the schedule

module _ (told : Option Source) (name bytes seen : List ℕ) (most : ℕ) (limit : most ≡ 67108864) (same : seen ≡ bytes)
    (front : HasText told name (λ text. bytes ≡ take (most + 1) text)) where
  too_long-schedule : (text : List ℕ) → most < length text → schedule_of text ≡ Err TooLong
  too_long-schedule text h = long_schedule text (omega (arith, limit, h))

  pub schedule-told : (entries : List Entry) → or_refused name text_fault.Schedule (schedule_of seen) ≡ Ok entries → HasText told name (λ text. text ≡ bytes)
  schedule-told entries e = accepted text_fault.Schedule most schedule_of TooLong too_long-schedule told name bytes seen same front entries e

  pub schedule-refused : (job : ReadText) → (job.name.now ≡ name → ⊥) → TellsText told job → (fault : InputFault)
      → Stops [] (or_refused name text_fault.Schedule (schedule_of seen)) fault
      → SomeSource told (λ source. GivesText source job × Stops (name ∷ []) (order_at source (listed name)) fault)
  schedule-refused job apart tells fault h =
      some-texts told job.name.now name (λ text. text ≡ job.bytes.items) (λ text. bytes ≡ take (most + 1) text) _ apart
      (λ source text more named is named2 is2. (
        named ∙ ap Some is,
        stops-then (name ∷ []) (entries_at source name) _ fault
            (refused-there text_fault.Schedule most schedule_of TooLong too_long-schedule told name bytes seen same front source more named2 is2 fault h),
      ))
      tells front

-- the schedule cannot be read
pub schedule-unread : (told : Option Source) (name : List ℕ) (job : ReadText) → TellsText told job → (fault : InputFault) → IsUnreadOf name fault
    → SomeSource told (λ source. GivesText source job × Stops (name ∷ []) (order_at source (listed name)) fault)
schedule-unread told name job tells fault h =
    some-text told job.name.now (λ text. text ≡ job.bytes.items) _ (λ source text named is. (named ∙ ap Some is, stops-unread name (order_at source (listed name)) fault h)) tells

-- the schedule has the text of the job
module _ (name : List ℕ) (job : ReadText) (seen : List ℕ) (same : seen ≡ job.bytes.items) (one : name ≡ job.name.now) where
  has-one : (source : Source) → GivesText source job → source name ≡ Some job.bytes.items
  has-one source gives = ap source one ∙ gives

  pub one-order : (source : Source) (entries : List Entry) → GivesText source job → or_refused name text_fault.Schedule (schedule_of seen) ≡ Ok entries
      → order_at source (listed name) ≡ Ok (in_turn entries)
  one-order source entries gives e =
      ap (λ (o : Option (List ℕ)). (or_no_file name o >>= (λ t. or_refused name text_fault.Schedule (schedule_of t))) >>= (λ es. Ok (in_turn es))) (has-one source gives)
      ∙ ap (λ (t : List ℕ). or_refused name text_fault.Schedule (schedule_of t) >>= (λ es. Ok (in_turn es))) (sym same)
      ∙ ap (λ (r : Result (List Entry) Stop). r >>= (λ es. Ok (in_turn es))) e

  pub one-refused : (told : Option Source) → TellsText told job → (fault : InputFault) → Stops [] (or_refused name text_fault.Schedule (schedule_of seen)) fault
      → SomeSource told (λ source. GivesText source job × Stops (name ∷ []) (order_at source (listed name)) fault)
  one-refused told tells fault h =
      some-text told job.name.now (λ text. text ≡ job.bytes.items) _
      (λ source text named is. (
        named ∙ ap Some is,
        stops-then (name ∷ []) (entries_at source name) _ fault
            (stops-text text_fault.Schedule schedule_of source name job.bytes.items (has-one source (named ∙ ap Some is)) seen fault (ap schedule_of same) h),
      ))
      tells

-- the order of a schedule that a source has
pub order-read : (source : Source) (name text seen : List ℕ) (entries : List Entry) → source name ≡ Some text → seen ≡ text
    → or_refused name text_fault.Schedule (schedule_of seen) ≡ Ok entries → order_at source (listed name) ≡ Ok (in_turn entries)
order-read source name text seen entries named same e =
    ap (λ (o : Option (List ℕ)). (or_no_file name o >>= (λ t. or_refused name text_fault.Schedule (schedule_of t))) >>= (λ es. Ok (in_turn es))) named
    ∙ ap (λ (t : List ℕ). or_refused name text_fault.Schedule (schedule_of t) >>= (λ es. Ok (in_turn es))) (sym same)
    ∙ ap (λ (r : Result (List Entry) Stop). r >>= (λ es. Ok (in_turn es))) e
