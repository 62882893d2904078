-- What the play of the ranks answers, by the run.
use Rattle.std.proofs.Common.{◌≡◌, true, IsTrue, List, Result, Ok, Err, refl, sym, subst, ◌∙◌}
use Rattle.mm_text.specs.Reading.{File}
use Rattle.peers.specs.Protocols.{Protocol}
use Rattle.schedule.specs.declared.order.Order.{Order}
use Rattle.schedule.specs.declared.order.Order.TheVariants as order
use Rattle.schedule.specs.Orders.{Ending, Complete, Left, Wrong, deliveries, ending}
use Rattle.message_play.specs.Plays.{WireState}
use Rattle.scalar_laws.specs.declared.weighed.Weighed.{Weighed}
use Rattle.scalar_laws.specs.Weighed.{weighed_conversions, weighed_semiring}
use Rattle.model_defs.specs.declared.job.Job.{Job}
use Rattle.model_defs.specs.Eval.{eval}
use Rattle.model_defs.specs.Picks.{pick_of}
use Rattle.model_defs.specs.Pieces.{Value}
use Rattle.model_defs.specs.Turns.{Each}
use Rattle.rank_sim.specs.declared.ends.End.{End}
use Rattle.rank_sim.specs.declared.ends.End.TheVariants as end
use Rattle.rank_sim.specs.declared.ends.RunFault.{RunFault}
use Rattle.rank_sim.specs.declared.ends.RunFault.TheVariants as play
use Rattle.rank_sim.specs.Runs.{EndsAs, IsRan, Shows, is_complete}
use Rattle.rank_sim.specs.Runs as sim
use Rattle.run_input.specs.Orders.{order_given}
use Rattle.run_input.specs.Walk.{Input}
use Rattle.tpx.specs.Calls.{is_settled}
use Rattle.tpx.specs.Faults.{result_status}
use Rattle.tpx.specs.Runs.{deliveries_by, end_of, ending_by, gathered, on_global_data, protocol_of}
use Rattle.tpx.specs.Running.{AnswersRun, IsPlayedRun, outcome_of}

-- an order as it is given
ending-given : (P : Protocol) (o : Order) → ending P o ≡ ending_by P (order_given o)
ending-given P order.Fifo = refl
ending-given P order.Lifo = refl
ending-given P (order.Seed seed) = refl
ending-given P (order.Listed entries) = refl

deliveries-given : (P : Protocol) (o : Order) → deliveries P o ≡ deliveries_by P (order_given o)
deliveries-given P order.Fifo = refl
deliveries-given P order.Lifo = refl
deliveries-given P (order.Seed seed) = refl
deliveries-given P (order.Listed entries) = refl

settled-is : (answer : Result End RunFault) → is_settled (result_status (outcome_of answer)) ≡ sim.is_settled answer
settled-is (Ok (end.Done outcome)) = refl
settled-is (Ok (end.Undelivered names)) = refl
settled-is (Ok end.Over) = refl
settled-is (Err (play.NotInFlight line name)) = refl
settled-is (Err play.WireFault) = refl
settled-is (Err play.NoMem) = refl

-- an order that is complete, and settled
complete-is : (e : Ending) (answer : Result End RunFault) → EndsAs e answer → sim.is_settled answer ≡ true → e ≡ Complete → is_complete answer ≡ true
complete-is e (Ok (end.Done outcome)) ends s is = refl
complete-is e (Ok end.Over) ends s is = refl
complete-is e (Ok (end.Undelivered names)) ends s is = (let no : Left names.items ≡ Complete = sym ends ∙ is in absurd (cc))
complete-is e (Err (play.NotInFlight line name)) ends s is = (let no : Wrong line name ≡ Complete = sym ends ∙ is in absurd (cc))
complete-is e (Err play.WireFault) ends s is = absurd (cc)
complete-is e (Err play.NoMem) ends s is = absurd (cc)

module _ (job : Job) (files : List File) (o : Order) where
  abbrev input : Input
  input = record { job = job; files = files; order = order_given o }

  answers : (values : Each (Value Weighed)) (answer : Result End RunFault) → EndsAs (end_of input) answer → Shows weighed_conversions job files values answer
      → AnswersRun input values (outcome_of answer)
  answers values (Ok (end.Done outcome)) ends shows = (ends, shows.0, shows.1)
  answers values (Ok (end.Undelivered names)) ends shows = ends
  answers values (Ok end.Over) ends shows = (ends, shows)
  answers values (Err (play.NotInFlight line name)) ends shows = ends
  answers values (Err play.WireFault) ends shows = tt
  answers values (Err play.NoMem) ends shows = tt

  pub played : (begun now : WireState) (answer : Result End RunFault) → IsRan weighed_semiring weighed_conversions job files o begun now answer
      → (IsTrue begun.is_honest → Shows weighed_conversions job files (eval weighed_semiring weighed_conversions job files (pick_of job files (deliveries (protocol_of input) o))) answer)
      → IsPlayedRun input begun now (outcome_of answer)
  played begun now answer ran honest =
      let ends : EndsAs (end_of input) answer = subst (λ e. EndsAs e answer) (ending-given (protocol_of input) o) ran.ends in
      let delivered = deliveries-given (protocol_of input) o in
      record {
        letters = ran.letters;
        wire = record {
          course = ran.course;
          rest = ran.rest;
          first_of = ran.first_of ∙ delivered;
          whole = λ s. ran.whole (sym (settled-is answer) ∙ s) ∙ delivered;
          pends = λ s. ran.pends (sym (settled-is answer) ∙ s);
          none_left = λ s is. ran.none_left (complete-is (end_of input) answer ends (sym (settled-is answer) ∙ s) is);
        };
        shows = answers (gathered input ran.letters) answer ends ran.shows;
        on_global_data = λ h. answers (on_global_data input) answer ends
            (subst (λ d. Shows weighed_conversions job files (eval weighed_semiring weighed_conversions job files (pick_of job files d)) answer) delivered (honest h));
      }

  pub played-as : (begun now : WireState) (answer : Result End RunFault) (r : _) → r ≡ outcome_of answer → IsRan weighed_semiring weighed_conversions job files o begun now answer
      → (IsTrue begun.is_honest → Shows weighed_conversions job files (eval weighed_semiring weighed_conversions job files (pick_of job files (deliveries (protocol_of input) o))) answer)
      → IsPlayedRun input begun now r
  played-as begun now answer r is ran honest = subst (IsPlayedRun input begun now) (sym is) (played begun now answer ran honest)
