-- From a play of the ranks to a run of their job.
use Rattle.std.proofs.Common.{◌≡◌, true, List, Result, Ok, Err, refl, sym, ap, ◌∙◌}
use Rattle.std.specs.Global.{Vec}
use Rattle.scalar_laws.specs.Semiring.{Semiring}
use Rattle.scalar_laws.specs.Conversions.{Conversions}
use Rattle.mm_text.specs.Reading.{File}
use Rattle.outside.specs.declared.name.Name.{Name}
use Rattle.peers.specs.Peers.{was_given}
use Rattle.peers.specs.Protocols.{firsts}
use Rattle.schedule.specs.declared.order.Order.{Order}
use Rattle.schedule.specs.Orders.{Complete, Ending, ending}
use Rattle.message_play.specs.declared.fault.PlayFault.{PlayFault}
use Rattle.message_play.specs.declared.fault.PlayFault.TheVariants as play
use Rattle.message_play.specs.declared.fault.Played.{Played}
use Rattle.message_play.specs.declared.fault.Played.TheVariants as played
use Rattle.message_play.specs.Faults.{is_settled as is_play_settled}
use Rattle.message_play.specs.Plays.{EndsAs as PlayEndsAs, IsPlayed, WireState, given_to}
use Rattle.message_play.proofs.Completes.{complete_given}
use Rattle.model_defs.specs.declared.job.Job.{Job}
use Rattle.model_defs.specs.Machine.{job_protocol}
use Rattle.model_defs.proofs.Protocols.{jobs_are_protocols}
use Rattle.rank_core.specs.declared.rank.Rank.{Rank}
use Rattle.rank_core.specs.Ranks.{IsRank}
use Rattle.rank_sim.specs.declared.ends.End.{End}
use Rattle.rank_sim.specs.declared.ends.End.TheVariants as end
use Rattle.rank_sim.specs.Faults.{fault_of}
use Rattle.rank_sim.specs.Ranks.{AreFinished, IsRunInput}
use Rattle.rank_sim.specs.Runs.{EndsAs, IsRan, ShowsEnd, gathered_values, is_complete, is_settled}

settled-alike : (f : PlayFault) → is_settled (Err (fault_of f)) ≡ is_play_settled {T = Played} (Err f)
settled-alike (play.NotInFlight line name) = refl
settled-alike play.WireFault = refl
settled-alike play.NoMem = refl

ends-alike : (e : Ending) (f : PlayFault) → PlayEndsAs e (Err f) → EndsAs e (Err (fault_of f))
ends-alike e (play.NotInFlight line name) ends = ends
ends-alike e play.WireFault ends = tt
ends-alike e play.NoMem ends = tt

ends-complete : (e : Ending) (x : End) → e ≡ Complete → is_complete (Ok x) ≡ true → EndsAs e (Ok x)
ends-complete e (end.Done outcome) is done = is
ends-complete e end.Over is done = is
ends-complete e (end.Undelivered names) is done = absurd (cc)

module _ {S : Type 0} (R : Semiring S) (F : Conversions S) (job : Job) (files : List File) (order : Order) (begun now : WireState) (ranks : List (Rank S)) where
  abbrev pub IsJobPlayed : Result Played PlayFault → Type 0
  IsJobPlayed answer = IsPlayed (IsRank R F) (job_protocol R F job files) order begun now ranks answer

  pub ran-fault : (f : PlayFault) → IsJobPlayed (Err f) → IsRan R F job files order begun now (Err (fault_of f))
  ran-fault f p = record {
    letters = p.letters;
    course = p.course;
    rest = p.rest;
    first_of = p.first_of;
    whole = λ e. p.whole (sym (settled-alike f) ∙ e);
    pends = λ e. (p.at_rest (sym (settled-alike f) ∙ e)).pends;
    ends = ends-alike (ending (job_protocol R F job files) order) f p.ends;
    none_left = λ e. absurd (cc);
    shows = tt;
  }

  pub ran-left : (names : Vec Name) → IsJobPlayed (Ok (played.Left names)) → IsRan R F job files order begun now (Ok (end.Undelivered names))
  ran-left names p = record {
    letters = p.letters;
    course = p.course;
    rest = p.rest;
    first_of = p.first_of;
    whole = λ e. p.whole refl;
    pends = λ e. (p.at_rest refl).pends;
    ends = p.ends;
    none_left = λ e. absurd (cc);
    shows = tt;
  }

  -- memory ran out after the play
  pub ran-short : (x : Played) → IsJobPlayed (Ok x) → IsRan R F job files order begun now (Err (fault_of play.NoMem))
  ran-short x p = record {
    letters = p.letters;
    course = p.course;
    rest = p.rest;
    first_of = p.first_of;
    whole = λ e. absurd (cc);
    pends = λ e. absurd (cc);
    ends = tt;
    none_left = λ e. absurd (cc);
    shows = tt;
  }

  module _ (p : IsJobPlayed (Ok played.Complete)) where
    pub ran-complete : (x : End) → is_complete (Ok x) ≡ true → ShowsEnd F job files (gathered_values R F job files p.letters) x → IsRan R F job files order begun now (Ok x)
    ran-complete x done shows = record {
      letters = p.letters;
      course = p.course;
      rest = p.rest;
      first_of = p.first_of;
      whole = λ e. p.whole refl;
      pends = λ e. (p.at_rest refl).pends;
      ends = ends-complete (ending (job_protocol R F job files) order) x p.ends done;
      none_left = λ e. p.none_left refl;
      shows = shows;
    }

    -- then each rank is finished
    pub all-finished : IsRunInput F job files → AreFinished R F job files p.letters ranks
    all-finished input = record {
      input = input;
      many = (p.at_rest refl).ranks;
      comes = p.course.comes;
      run = p.course.run;
      stands = (p.at_rest refl).rests;
      finished = λ k l. record {
        worked = refl;
        given = λ n named to.
            ap (λ q. was_given (given_to q (firsts p.letters)) n) (sym to)
            ∙ complete_given (job_protocol R F job files) (jobs_are_protocols R F job files) order begun now ranks p n named;
      };
    }
