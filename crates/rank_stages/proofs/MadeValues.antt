-- What values are made of, and which are made.
use Rattle.std.proofs.Common.{◌≡◌, ℕ, zero, suc, ◌<◌, ◌≤◌, ◌⊎◌, inl, inr, Bool, true, false, cond, ltb, List, map, length, Option, None, Some, refl, sym, ap, ◌∙◌, arith, ltb-true}
use Rattle.std.proofs.lemmas.Bool.{ne_eqb, cases_lt}
use Rattle.std.proofs.lemmas.Bool.Decides.{nat_tests}
use Rattle.scalar_laws.specs.Semiring.{Semiring}
use Rattle.scalar_laws.specs.Conversions.{Conversions}
use Rattle.tables.specs.Tables.{Table, nowhere}
use Rattle.mm_text.specs.Reading.{File}
use Rattle.peers.specs.Protocols.{Letter}
use Rattle.model_defs.specs.declared.job.Job.{Job}
use Rattle.model_defs.specs.Makers.{value_count}
use Rattle.model_defs.specs.Turns.{Each, in_turn}
use Rattle.model_defs.specs.declared.phase.About.TheVariants.{SendNumbers}
use Rattle.model_defs.specs.Phases.{phases, send_phase}
use Rattle.model_defs.specs.Machine.{arrivals, letter_table, no_phase, piece, tables_of_phase}
use Rattle.model_defs.specs.Stages.{first_pieces, make_piece, pieces}
use Rattle.model_defs.proofs.Turns.{in_turn-is, in_turn-first}
use Rattle.rank_stages.specs.JobStages.{IsJobStage, IsMade, IsOpen}
use Rattle.rank_phases.specs.Phases.{absorbed}
use Rattle.rank_phases.specs.Stages.{Stage}
use Rattle.rank_phases.proofs.Absorbed.{arrivals-absorbed}
use Rattle.rank_stages.specs.Views.{View}
use Rattle.rank_stages.proofs.PhaseLetters.{about-known}
use Rattle.rank_stages.proofs.SendPhases.{sent-about}
use Rattle.rank_stages.specs.EnterLaws.{AllAreMadeAtTheEnd, PiecesAreByPhase, PiecesAreMade, FirstPiecesArePieces, FirstValuesAreMade}

pub first_values_are_made : {S : Type 0} (R : Semiring S) (F : Conversions S) → FirstValuesAreMade R F
first_values_are_made R F = λ job files count values s first making k l made. by job files count values s first making k l made (cases_lt k count)
  where
    by : (job : Job) (files : List File) (count : ℕ) (values : ℕ → Option (Table _)) (s : Stage) → ((k : ℕ) → k < count → values k ≡ Some (piece R F job files s.rank k s.absorbed))
        → (count < value_count job → IsOpen job s.entered count) → (k : ℕ) → k < value_count job → IsMade job s.entered k → (k < count) ⊎ (count ≤ k) → values k ≡ Some (piece R F job files s.rank k s.absorbed)
    by job files count values s first making k l made (inl less) = first k less
    by job files count values s first making k l made (inr more) =
        let undone = making (omega (arith, l, more)) in
        let left = made.left count undone.stage undone.phase more undone.sends in
        let not_left = undone.not_left in
        absurd (omega (arith, left, not_left))

pub pieces_are_made : {S : Type 0} (R : Semiring S) (F : Conversions S) → PiecesAreMade R F
pieces_are_made R F = λ job files p k g l. in_turn-is nowhere (make_piece R F job files p (arrivals R F job files p g)) (value_count job) k l

-- nothing is made of the values from the first n on
none-beyond : {A : Type 0} (none : A) (rule : ℕ → Each A → A) (n v : ℕ) → n ≤ v → in_turn none rule n v ≡ none
none-beyond none rule zero v l = refl
none-beyond none rule (suc n) v l =
    ap (λ b. cond b (rule n (in_turn none rule n)) (in_turn none rule n v)) (ne_eqb v n (λ e. absurd (omega (arith, l, e)))) ∙ none-beyond none rule n v (omega (arith, l))

pub first_pieces_are_pieces : {S : Type 0} (R : Semiring S) (F : Conversions S) → FirstPiecesArePieces R F
first_pieces_are_pieces R F = λ job files p k v g l. by job files p k v g l (ltb v k) refl
  where
    by : (job : Job) (files : List File) (p k v : ℕ) (g : List Letter) → k < value_count job → (b : Bool) → ltb v k ≡ b
        → first_pieces R F job files p (arrivals R F job files p g) k v ≡ cond b (piece R F job files p v g) nowhere
    by job files p k v g l true e =
        let less = ltb-true v k e in
        in_turn-first nowhere (make_piece R F job files p (arrivals R F job files p g)) k v less
        ∙ sym (in_turn-first nowhere (make_piece R F job files p (arrivals R F job files p g)) (value_count job) v (omega (arith, less, l)))
    by job files p k v g l false e = none-beyond nowhere (make_piece R F job files p (arrivals R F job files p g)) k v (grind (arith, nat_tests, e))

-- ---- at the end

pub all_are_made_at_the_end : {S : Type 0} (R : Semiring S) (F : Conversions S) → AllAreMadeAtTheEnd R F
all_are_made_at_the_end R F = λ job files view s k so ended l. so.values k l (made job files view s so ended k)
  where
    made : (job : Job) (files : List File) (view : View _) (s : Stage) → IsJobStage R F job files view s → s.phases < s.entered → (k : ℕ) → IsMade job s.entered k
    made job files view s so ended k = record {
      begun = omega (arith, ended);
      left = λ v t n le e.
          (let known = (about-known (phases job) n no_phase (SendNumbers t) (sent-about job v t n e)).0 in let many = so.phases in omega (arith, known, many, ended));
    }

module _ {S : Type 0} (R : Semiring S) (F : Conversions S) (job : Job) (files : List File) (p : ℕ) (given : List Letter) where
  by-phase : (v t : ℕ) → arrivals R F job files p (absorbed (suc (length (phases job))) given) v t ≡ arrivals R F job files p given v t
  by-phase v t = by (send_phase job v t) refl
    where
      by : (o : Option ℕ) → send_phase job v t ≡ o → tables_of_phase R F job files p (absorbed (suc (length (phases job))) given) o ≡ tables_of_phase R F job files p given o
      by None e = refl
      by (Some n) e =
          ap (map (letter_table R F job files))
          (arrivals-absorbed (suc (length (phases job))) n p given
          (let known = (about-known (phases job) n no_phase (SendNumbers t) (sent-about job v t n e)).0 in omega (arith, known)))

pub pieces_are_by_phase : {S : Type 0} (R : Semiring S) (F : Conversions S) → PiecesAreByPhase R F
pieces_are_by_phase R F = λ job files p k given. ap (λ a. pieces R F job files p a k) (λ i v t. by-phase R F job files p given v t i)
