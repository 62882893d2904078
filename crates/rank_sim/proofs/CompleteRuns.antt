-- A run that is complete gave all letters, so over an honest wire its values are those on the global data.
use Rattle.std.proofs.Common.{◌≡◌, Bool, true, false, cond, List, [], ◌∷◌, Result, Ok, Err, None, Some, refl, sym, ap, ◌∙◌, subst}
use Rattle.std.specs.Prelude.{IsTrue}
use Rattle.std.specs.List.{list_all}
use Rattle.scalar_laws.specs.Semiring.{Semiring, IsSemiring}
use Rattle.scalar_laws.specs.Conversions.{Conversions, AreConversions}
use Rattle.mm_text.specs.Reading.{File}
use Rattle.outside.specs.declared.name.Name.{Name}
use Rattle.outside.specs.Letters.{no_letters}
use Rattle.outside.specs.MailRoom.{names_of}
use Rattle.peers.specs.Protocols.{Protocol, firsts, flies, stands_in}
use Rattle.peers.specs.Runs.{has_all}
use Rattle.schedule.specs.declared.order.Order.{Order}
use Rattle.schedule.specs.Orders.{deliveries}
use Rattle.schedule.proofs.Members.{all_agree}
use Rattle.schedule.proofs.Stall.{nothing_stalls}
use Rattle.message_play.specs.Plays.{WireState}
use Rattle.model_defs.specs.declared.job.Job.{Job}
use Rattle.model_defs.specs.CompleteRuns.{IsCompleteRun}
use Rattle.model_defs.specs.Eval.{eval}
use Rattle.model_defs.specs.Fitting.{IsFitting}
use Rattle.model_defs.specs.Machine.{job_protocol}
use Rattle.model_defs.specs.Picks.{pick_of}
use Rattle.model_defs.specs.Pieces.{Value}
use Rattle.model_defs.specs.Turns.{Each}
use Rattle.model_defs.specs.Valid.{IsValid}
use Rattle.model_defs.proofs.AllRows.{machine_is_eval}
use Rattle.model_defs.proofs.Protocols.{jobs_are_protocols}
use Rattle.rank_sim.specs.declared.ends.End.{End}
use Rattle.rank_sim.specs.declared.ends.End.TheVariants as end
use Rattle.rank_sim.specs.declared.ends.RunFault.{RunFault}
use Rattle.rank_sim.specs.Runs.{IsRan, Shows, gathered_values, is_complete, is_settled}
use Rattle.rank_sim.proofs.Alike.{shows-alike}

-- an answer that is complete is settled, and only such an answer shows values
complete-settled : (answer : Result End RunFault) → is_complete answer ≡ true → is_settled answer ≡ true
complete-settled (Ok x) e = refl
complete-settled (Err f) e = absurd (cc)

shows-where : {S : Type 0} (F : Conversions S) (job : Job) (files : List File) (values : Each (Value S)) (answer : Result End RunFault)
    → (is_complete answer ≡ true → Shows F job files values answer) → Shows F job files values answer
shows-where F job files values (Ok (end.Done outcome)) h = h refl
shows-where F job files values (Ok end.Over) h = h refl
shows-where F job files values (Ok (end.Undelivered names)) h = tt
shows-where F job files values (Err f) h = tt

all-true : {A : Type 0} (xs : List A) → list_all (λ x. true) xs ≡ true
all-true [] = refl
all-true (x ∷ xs) = all-true xs

module _ {S : Type 0} {R : Semiring S} (L : IsSemiring R) {F : Conversions S} (FL : AreConversions F) (job : Job) (files : List File) (order : Order) (begun now : WireState) (answer : Result End RunFault)
    (ran : IsRan R F job files order begun now answer) where
  abbrev P : Protocol
  P = job_protocol R F job files

  -- nothing flies, so each letter was delivered
  all-given : is_complete answer ≡ true → has_all P (names_of ran.letters) ≡ true
  all-given done =
      all_agree (stands_in (names_of ran.letters)) (λ n. true) P.names (λ n named. nothing_stalls P (jobs_are_protocols R F job files) (names_of ran.letters) none n named)
      ∙ all-true P.names
    where
      none : (n : Name) → flies P (names_of ran.letters) n ≡ false
      none n = go (flies P (names_of ran.letters) n) (ap (λ ls. ls n) (sym (ran.none_left done)) ∙ ran.pends (complete-settled answer done) n)
        where
          go : (b : Bool) → no_letters n ≡ cond b (Some (P.content n (firsts ran.letters))) None → b ≡ false
          go true e = absurd (cc)
          go false e = refl

  pub complete-run : IsTrue begun.is_honest → is_complete answer ≡ true → IsCompleteRun P ran.letters
  complete-run honest done = record { comes = ran.course.comes; exact = ran.course.exact honest; complete = all-given done }

  pub shows-eval : IsValid job → IsFitting job files → IsTrue begun.is_honest
      → Shows F job files (eval R F job files (pick_of job files (deliveries P order))) answer
  shows-eval valid fit honest = shows-where F job files _ answer (λ done.
      subst (λ names. Shows F job files (eval R F job files (pick_of job files names)) answer) (ran.whole (complete-settled answer done))
      (shows-alike F job files (gathered_values R F job files ran.letters) (eval R F job files (pick_of job files (names_of ran.letters))) answer valid
      (λ v p l m. machine_is_eval L FL job files valid fit ran.letters (complete-run honest done) v p l m) ran.shows))
