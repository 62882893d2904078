-- What holds of every run.
use Rattle.std.specs.Prelude.{◌≡◌, IsTrue, true, All, Result, List, [], ◌∷◌}
use Rattle.scalar_laws.specs.Semiring.{Semiring}
use Rattle.scalar_laws.specs.Conversions.{Conversions}
use Rattle.mm_text.specs.Reading.{File}
use Rattle.outside.specs.MailRoom.{names_of}
use Rattle.peers.specs.Protocols.{Letter}
use Rattle.peers.specs.Runs.{has_all}
use Rattle.schedule.specs.declared.order.Entry.{Entry}
use Rattle.schedule.specs.declared.order.Order.{Order}
use Rattle.schedule.specs.declared.order.Order.TheVariants as order
use Rattle.schedule.specs.Orders.{Complete, Ending, Wrong, deliveries, ending}
use Rattle.message_play.specs.Plays.{WireState}
use Rattle.model_defs.specs.declared.job.Job.{Job}
use Rattle.model_defs.specs.Eval.{Pick, eval}
use Rattle.model_defs.specs.Fitting.{IsFitting}
use Rattle.model_defs.specs.Local.{IsLocalJob}
use Rattle.model_defs.specs.Machine.{job_protocol}
use Rattle.model_defs.specs.Picks.{pick_of}
use Rattle.model_defs.specs.Sheets.{sheets_of}
use Rattle.model_defs.specs.Valid.{IsValid}
use Rattle.rank_sim.specs.declared.ends.End.{End}
use Rattle.rank_sim.specs.declared.ends.RunFault.{RunFault}
use Rattle.rank_sim.specs.Runs.{IsRan, Shows, gathered_values}
use Rattle.rank_sim.specs.Writable.{IsWritable}

-- Over an honest wire a complete run shows the values on the global data. Of numbers that meet in a cell one is picked by the
-- order of the deliveries.
abbrev pub CompleteRunsShowEval : {S : Type 0} → Semiring S → Conversions S → Type 0
CompleteRunsShowEval R F =
    (job : Job) (files : List File) (order : Order) (begun now : WireState) (answer : Result End RunFault)
    → IsValid job → IsFitting job files
    → IsRan R F job files order begun now answer → IsTrue begun.is_honest
    → Shows F job files (eval R F job files (pick_of job files (deliveries (job_protocol R F job files) order))) answer

-- ---- jobs without letters

-- how a list of deliveries ends, where there is no letter: its first line names none
abbrev pub ending_without_letters : List Entry → Ending
ending_without_letters [] = Complete
ending_without_letters (e ∷ es) = Wrong e.line e.name

-- how an order ends, where there is no letter
abbrev pub local_ending : Order → Ending
local_ending (order.Listed entries) = ending_without_letters entries.items
local_ending _ = Complete

-- Every order of a job without letters ends so.
abbrev pub LocalOrdersEnd : {S : Type 0} → Semiring S → Conversions S → Type 0
LocalOrdersEnd R F =
    (job : Job) (files : List File) (order : Order) → IsLocalJob job → ending (job_protocol R F job files) order ≡ local_ending order

-- No letter is given to a rank of such a job, over any wire.
abbrev pub LocalRunsHaveNoLetters : {S : Type 0} → Semiring S → Conversions S → Type 0
LocalRunsHaveNoLetters R F =
    (job : Job) (files : List File) (order : Order) (begun now : WireState) (answer : Result End RunFault) → IsLocalJob job
    → (ran : IsRan R F job files order begun now answer) → ran.letters ≡ []

-- Whatever the wire, and whatever is picked, a run of such a job shows the values on the global data.
abbrev pub LocalRunsShowEval : {S : Type 0} → Semiring S → Conversions S → Type 0
LocalRunsShowEval R F =
    (job : Job) (files : List File) (order : Order) (begun now : WireState) (answer : Result End RunFault)
    → IsValid job → IsFitting job files → IsLocalJob job
    → IsRan R F job files order begun now answer → (pick : Pick) → Shows F job files (eval R F job files pick) answer

-- ---- sheets

-- The sheets of the values of every job can be written, whatever is picked.
abbrev pub SheetsAreWritable : {S : Type 0} → Semiring S → Conversions S → Type 0
SheetsAreWritable R F =
    (job : Job) (files : List File) (pick : Pick) → IsValid job → IsFitting job files → All IsWritable (sheets_of F job (eval R F job files pick))

-- So can those of the values that the ranks have of whatever letters, once all of them came: no wire need be honest.
abbrev pub GatheredSheetsAreWritable : {S : Type 0} → Semiring S → Conversions S → Type 0
GatheredSheetsAreWritable R F =
    (job : Job) (files : List File) (letters : List Letter) → IsValid job → IsFitting job files
    → has_all (job_protocol R F job files) (names_of letters) ≡ true
    → All IsWritable (sheets_of F job (gathered_values R F job files letters))
