-- The steps of a run: what the play of the ranks answers, and what is written of it.
use Rattle.std.specs.Prelude.{◌≡◌, true, false, ℕ, Bool, IsTrue, List, [], ◌++◌, if◌then◌else◌, All, Result, Ok, Err}
use Rattle.std.specs.List.{flat_map}
use Rattle.peers.specs.Protocols.{Letter}
use Rattle.schedule.specs.Orders.{Complete, Left, Wrong}
use Rattle.message_play.specs.Plays.{WireState}
use Rattle.scalar_laws.specs.declared.weighed.Weighed.{Weighed}
use Rattle.scalar_laws.specs.Weighed.{weighed_conversions}
use Rattle.model_defs.specs.Pieces.{Value}
use Rattle.model_defs.specs.Sheets.{is_any_over, sheet_text}
use Rattle.model_defs.specs.Turns.{Each}
use Rattle.rank_sim.specs.declared.ends.End.{End}
use Rattle.rank_sim.specs.declared.ends.End.TheVariants as end
use Rattle.rank_sim.specs.declared.ends.Outcome.{Outcome}
use Rattle.rank_sim.specs.declared.ends.RunFault.{RunFault}
use Rattle.rank_sim.specs.declared.ends.RunFault.TheVariants as play
use Rattle.rank_sim.specs.Runs.{IsOutcome}
use Rattle.run_input.specs.Walk.{Input}
use Rattle.run_output.specs.Listings.{listing}
use Rattle.run_output.specs.Pages.{IsReady, page_text}
use Rattle.tpx.specs.declared.fault.Fault.{Fault}
use Rattle.tpx.specs.declared.fault.Fault.TheVariants.{Memory, Undelivered, Overflow, WrongLine, WireFailed}
use Rattle.tpx.specs.declared.output.Output.{Output}
use Rattle.tpx.specs.Calls.{is_settled}
use Rattle.tpx.specs.Faults.{result_status}
use Rattle.tpx.specs.Runs.{IsRunOf, end_of, gathered, on_global_data}

-- how the command goes on where the ranks were played to this end
abbrev pub outcome_of : Result End RunFault → Result Outcome Fault
outcome_of (Ok (end.Done outcome)) = Ok outcome
outcome_of (Ok (end.Undelivered names)) = Err (Undelivered names)
outcome_of (Ok end.Over) = Err Overflow
outcome_of (Err (play.NotInFlight line name)) = Err (WrongLine line name)
outcome_of (Err play.WireFault) = Err WireFailed
outcome_of (Err play.NoMem) = Err Memory

-- what is answered where the values of the job are these
abbrev pub AnswersRun : Input → Each (Value Weighed) → Result Outcome Fault → Type 0
AnswersRun input values (Ok outcome) =
    (end_of input ≡ Complete) × IsOutcome weighed_conversions input.job input.files values outcome × (is_any_over weighed_conversions input.job values ≡ false)
AnswersRun input values (Err Overflow) = (end_of input ≡ Complete) × (is_any_over weighed_conversions input.job values ≡ true)
AnswersRun input values (Err (Undelivered names)) = end_of input ≡ Left names.items
AnswersRun input values (Err (WrongLine line name)) = end_of input ≡ Wrong line name
AnswersRun input values (Err WireFailed) = Unit {0}
AnswersRun input values (Err Memory) = Unit {0}
AnswersRun input values (Err _) = ⊥

-- The ranks were played over a wire: the letters given, and what is answered of the values that they have then, and over an
-- honest wire of those on the global data.
pub record IsPlayedRun (input : Input) (before after : WireState) (answer : Result Outcome Fault) : Type 0 where
  pub letters : List Letter
  pub wire : IsRunOf input (is_settled (result_status answer)) before after letters
  pub shows : AnswersRun input (gathered input letters) answer
  pub on_global_data : IsTrue before.is_honest → AnswersRun input (on_global_data input) answer

-- the listing, where it was asked for
abbrev pub listed : Bool → Output → List ℕ
listed traffic o = if traffic then listing o.phases.items o.letters.items else []

-- what is written
abbrev pub output_text : Bool → Output → List ℕ
output_text traffic o = flat_map page_text o.pages.items ++ listed traffic o

-- this is written of the outcome
pub record IsOutputOf (outcome : Outcome) (output : Output) : Type 0 where
  pub text : flat_map page_text output.pages.items ≡ flat_map sheet_text outcome.sheets.items
  pub ready : All IsReady output.pages.items
  pub phases : output.phases.items ≡ outcome.phases.items
  pub letters : output.letters.items ≡ outcome.letters.items
