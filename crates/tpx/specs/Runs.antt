-- The run of a job over a wire: the letters given, and the values.
use Rattle.std.specs.Prelude.{◌≡◌, true, Bool, if◌then◌else◌, List, [], ◌++◌, Option, None, Some}
use Rattle.outside.specs.declared.name.Name.{Name}
use Rattle.outside.specs.Letters.{no_letters}
use Rattle.outside.specs.MailRoom.{names_of}
use Rattle.peers.specs.Protocols.{Letter, Protocol, firsts, flies}
use Rattle.schedule.specs.Orders.{Ending, Complete, by_chooser, ending_after, listed_deliveries, listed_ending}
use Rattle.message_play.specs.Plays.{IsCourse, WireState}
use Rattle.scalar_laws.specs.declared.weighed.Weighed.{Weighed}
use Rattle.scalar_laws.specs.Weighed.{weighed_conversions, weighed_semiring}
use Rattle.model_defs.specs.Eval.{eval}
use Rattle.model_defs.specs.Machine.{job_protocol}
use Rattle.model_defs.specs.Picks.{pick_of}
use Rattle.model_defs.specs.Pieces.{Value}
use Rattle.model_defs.specs.Turns.{Each}
use Rattle.rank_sim.specs.Runs.{gathered_values}
use Rattle.run_input.specs.Orders.{GivenOrder, by_rule, in_turn}
use Rattle.run_input.specs.Walk.{Input}

-- what an order delivers, and how it ends
abbrev pub deliveries_by : Protocol → GivenOrder → List Name
deliveries_by P (by_rule chooser) = by_chooser P chooser
deliveries_by P (in_turn entries) = listed_deliveries P [] entries

abbrev pub ending_by : Protocol → GivenOrder → Ending
ending_by P (by_rule chooser) = ending_after P (by_chooser P chooser)
ending_by P (in_turn entries) = listed_ending P [] entries

-- the letters of a job, and what their senders make of those given to them, on weighed numbers
abbrev pub protocol_of : Input → Protocol
protocol_of input = job_protocol weighed_semiring weighed_conversions input.job input.files

abbrev pub deliveries_of : Input → List Name
deliveries_of input = deliveries_by (protocol_of input) input.order

abbrev pub end_of : Input → Ending
end_of input = ending_by (protocol_of input) input.order

-- the values that the ranks have together where these letters were given
abbrev pub gathered : Input → List Letter → Each (Value Weighed)
gathered input letters = gathered_values weighed_semiring weighed_conversions input.job input.files letters

-- the values that the operations give on the global data; of conflicting sources the order of deliveries picks one
abbrev pub on_global_data : Input → Each (Value Weighed)
on_global_data input =
    eval weighed_semiring weighed_conversions input.job input.files (pick_of input.job input.files (deliveries_of input))

-- Since a wire was as `before`, these letters were given: a run of the job's letters, whose names are the first that the
-- order delivers. Where the order was settled they are all of these, and exactly the letters in flight are pending, as
-- their senders made them.
pub record IsRunOf (input : Input) (settled : Bool) (before after : WireState) (letters : List Letter) : Type 0 where
  pub course : IsCourse (protocol_of input) before after letters
  pub rest : List Name
  pub first_of : names_of letters ++ rest ≡ deliveries_of input
  pub whole : settled ≡ true → names_of letters ≡ deliveries_of input
  pub pends : settled ≡ true → (n : Name)
      → after.pending n ≡ (if flies (protocol_of input) (names_of letters) n then Some ((protocol_of input).content n (firsts letters)) else None)
  pub none_left : settled ≡ true → end_of input ≡ Complete → after.pending ≡ no_letters

-- what happened on the wire: a run, or nothing
abbrev pub OnWire : Option Input → Bool → WireState → WireState → List Letter → Type 0
OnWire (Some input) settled before after letters = IsRunOf input settled before after letters
OnWire None settled before after letters = (after ≡ before) × (letters ≡ [])
