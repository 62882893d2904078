-- A run of a job that ended before the ranks were played.
use Rattle.std.proofs.Common.{◌≡◌, ◌++◌, List, [], Err, None, Some, Option, refl, sym, ap}
use Rattle.std.specs.Option.{option_map}
use Rattle.std.proofs.lemmas.List.{append-nil}
use Rattle.scalar_laws.specs.Semiring.{Semiring}
use Rattle.scalar_laws.specs.Conversions.{Conversions}
use Rattle.mm_text.specs.Reading.{File}
use Rattle.outside.specs.Letters.{no_letters}
use Rattle.peers.specs.Protocols.{Letter}
use Rattle.schedule.specs.declared.order.Order.{Order}
use Rattle.schedule.specs.Orders.{deliveries}
use Rattle.message_play.specs.Plays.{WireState}
use Rattle.model_defs.specs.declared.job.Job.{Job}
use Rattle.model_defs.specs.Machine.{job_protocol}
use Rattle.rank_sim.specs.declared.ends.RunFault.TheVariants as fault
use Rattle.rank_sim.specs.Runs.{IsRan}

told-alike : (o : Option (List Letter)) → o ≡ option_map (λ told. told ++ []) o
told-alike None = refl
told-alike (Some xs) = ap (λ ys. Some ys) (sym (append-nil xs))

-- nothing was given, and nothing is pending
pub ran-nothing : {S : Type 0} (R : Semiring S) (F : Conversions S) (job : Job) (files : List File) (order : Order) (wire : WireState) → wire.pending ≡ no_letters
    → IsRan R F job files order wire wire (Err fault.NoMem)
ran-nothing R F job files order wire none = record {
  letters = [];
  course = record {
    taken = sym (append-nil wire.taken);
    given = told-alike wire.given;
    same_honesty = refl;
    comes = tt;
    run = tt;
    exact = λ honest. tt;
    pending = λ n bytes is. let gone = ap (λ ls. ls n) none in absurd (cc);
  };
  rest = deliveries (job_protocol R F job files) order;
  first_of = refl;
  whole = λ e. absurd (cc);
  pends = λ e. absurd (cc);
  ends = tt;
  none_left = λ e. absurd (cc);
  shows = tt;
}
