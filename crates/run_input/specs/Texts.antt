-- The texts of the job and of the schedule, as they were read.
use Rattle.std.specs.Prelude.{◌≡◌, List, ℕ, Option, None, Some, Ok}
use Rattle.outside.specs.Reads.{HasText, Source}
use Rattle.run_words.specs.Given.{DeliveryOrder}
use Rattle.run_input.specs.declared.texts.ReadText.{ReadText}
use Rattle.run_input.specs.declared.texts.Texts.{Texts}
use Rattle.run_input.specs.Orders.{order_given}
use Rattle.run_input.specs.Walk.{job_at, order_at}

-- the source has this text
abbrev pub GivesText : Source → ReadText → Type 0
GivesText source read = source read.name.now ≡ Some read.bytes.items

abbrev pub GivesTextIfRead : Source → Option ReadText → Type 0
GivesTextIfRead source None = Unit {0}
GivesTextIfRead source (Some read) = GivesText source read

-- it has the text of the job, and that of the schedule where one was read
abbrev pub GivesTexts : Source → Texts → Type 0
GivesTexts source texts = GivesText source texts.job_text × GivesTextIfRead source texts.schedule

-- some source that agrees with what the files tell has this text
abbrev pub TellsText : Option Source → ReadText → Type 0
TellsText told read = HasText told read.name.now (λ text. text ≡ read.bytes.items)

abbrev pub TellsTextIfRead : Option Source → Option ReadText → Type 0
TellsTextIfRead told None = Unit {0}
TellsTextIfRead told (Some read) = TellsText told read

-- a schedule that was read has another name than the job
abbrev pub IsApart : ReadText → Option ReadText → Type 0
IsApart job None = Unit {0}
IsApart job (Some read) = read.name.now ≡ job.name.now → ⊥

-- the texts of the job and of the schedule, where one was read, under two names
abbrev pub TellsTexts : Option Source → Texts → Type 0
TellsTexts told texts = TellsText told texts.job_text × (TellsTextIfRead told texts.schedule × IsApart texts.job_text texts.schedule)

-- Each source that has the texts has the job under its name, and the order that the words ask for.
pub record AreRead (name : List ℕ) (asked : DeliveryOrder) (texts : Texts) : Type 0 where
  pub named : texts.job_text.name.now ≡ name
  pub job : (source : Source) → GivesTexts source texts → job_at source name ≡ Ok texts.job
  pub order : (source : Source) → GivesTexts source texts → order_at source asked ≡ Ok (order_given texts.order)
