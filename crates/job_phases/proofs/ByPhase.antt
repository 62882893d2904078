-- The letters of a job go phase by phase.
use Rattle.std.proofs.Common.{◌≡◌, ℕ, suc, ◌<◌, Bool, true, false, ◌&&◌, ◌==◌, List, [], ◌∷◌, map, filter, length, Option, None, Some, refl, sym, ap, subst, ◌∙◌}
use Rattle.scalar_laws.specs.Semiring.{Semiring}
use Rattle.scalar_laws.specs.Conversions.{Conversions}
use Rattle.mm_text.specs.Reading.{File}
use Rattle.outside.specs.declared.name.Name.{Name}
use Rattle.peers.specs.Protocols.{Letter, IsProtocol, only, stands_in}
use Rattle.letter_codec.specs.Letters.{letter_bytes}
use Rattle.rank_phases.specs.Phases.{GoesByPhase}
use Rattle.rank_phases.proofs.PairNames.{between}
use Rattle.model_defs.specs.declared.job.Job.{Job}
use Rattle.model_defs.specs.declared.phase.About.{About}
use Rattle.model_defs.specs.declared.phase.About.TheVariants.{RegisterMap, AskOwners, TellOwners, SharePlan, SendNumbers}
use Rattle.model_defs.specs.declared.phase.Phase.{Phase}
use Rattle.model_defs.specs.Phases.{phases, send_phase}
use Rattle.model_defs.specs.Letters.{letter_names, letter_words, letter_places}
use Rattle.model_defs.specs.Stages.{rank_entries}
use Rattle.model_defs.specs.Machine.{job_protocol, names_before, phase_of, letter_of_phase, letters_of, arrivals, tables_of_phase, letter_table, numbers_about, place_bytes}
use Rattle.model_defs.proofs.Filters.{filter-filter, filter-ext}
use Rattle.model_defs.proofs.Protocols.{jobs_are_protocols}
use Rattle.job_phases.specs.Laws.{JobsGoByPhase, is_sent}
use Rattle.job_phases.proofs.JobNames.{names-by-phase}

length-map : {A B : Type 0} (f : A → B) (xs : List A) → length (map f xs) ≡ length xs
length-map f [] = refl
length-map f (x ∷ xs) = ap suc (length-map f xs)

-- of the letters with these names those of a phase are the same, where all of the phase are
same-only : (ns : List Name) (k p : ℕ) (g h : List Letter) → letters_of k p g ≡ letters_of k p h → letters_of k p (only ns g) ≡ letters_of k p (only ns h)
same-only ns k p g h same = swapped g ∙ ap (filter kept) same ∙ sym (swapped h)
  where
    kept : Letter → Bool
    kept l = stands_in ns l.0

    and-swap : (a b : Bool) → (a && b) ≡ (b && a)
    and-swap true true = refl
    and-swap true false = refl
    and-swap false true = refl
    and-swap false false = refl

    at : Letter → Bool
    at l = (l.0.phase == k) && (l.0.to == p)

    swapped : (ls : List Letter) → letters_of k p (only ns ls) ≡ filter kept (letters_of k p ls)
    swapped ls = filter-filter at kept ls ∙ filter-ext _ _ (λ l. and-swap (kept l) (at l)) ls ∙ sym (filter-filter kept at ls)

module _ {S : Type 0} (R : Semiring S) (F : Conversions S) (job : Job) (files : List File) where
  -- a rank's arrivals are the same, where its letters of each phase are
  arrivals-same : (p : ℕ) (g h : List Letter) → ((k : ℕ) → letters_of k p g ≡ letters_of k p h) → arrivals R F job files p g ≡ arrivals R F job files p h
  arrivals-same p g h same = λ i v s. one (send_phase job v s) i
    where
      one : (o : Option ℕ) → tables_of_phase R F job files p g o ≡ tables_of_phase R F job files p h o
      one None = refl
      one (Some m) = ap (λ ls. map (letter_table R F job files) ls) (same m)

  letter-same : (phase : Phase) (n : Name) (g h : List Letter) → ((k : ℕ) → letters_of k n.from g ≡ letters_of k n.from h)
      → letter_of_phase R F job files phase n g ≡ letter_of_phase R F job files phase n h
  letter-same phase n g h same = ap (letter_bytes phase.kind (letter_words job files phase n)) (go phase.about (letter_places job files phase n))
    where
      go : (about : About) (places : List _) → numbers_about R F job files phase.value about n.from places g ≡ numbers_about R F job files phase.value about n.from places h
      go (SendNumbers stage) places = ap (λ a. place_bytes R F (rank_entries R F job files n.from a phase.value stage) places) (arrivals-same n.from g h same)
      go (RegisterMap m) places = refl
      go (AskOwners plan) places = refl
      go (TellOwners plan) places = refl
      go (SharePlan plan) places = refl

  pub goes-by-phase : GoesByPhase (job_protocol R F job files) (length (phases job))
  goes-by-phase = record {
    ordered = law.ordered;
    from_rank = law.from_rank;
    to_rank = law.to_rank;
    below = below;
    waits = λ n. refl;
    made_of_before = law.made_of_before;
    by_phase = λ n g h same.
        letter-same (phase_of R F job files n) n (only (names_before n (letter_names job files)) g) (only (names_before n (letter_names job files)) h)
        (λ k. same-only (names_before n (letter_names job files)) k n.from g h (same k));
  }
    where
      law : IsProtocol (job_protocol R F job files)
      law = jobs_are_protocols R F job files

      below : (n : Name) → stands_in (letter_names job files) n ≡ true → n.phase < length (phases job)
      below n e =
          subst (λ b. n.phase < b) (length-map (is_sent job files) (phases job))
          (between job.ranks (map (is_sent job files) (phases job)) n (sym (ap (λ ns. stands_in ns n) (names-by-phase job files)) ∙ e)).0

pub jobs_go_by_phase : {S : Type 0} (R : Semiring S) (F : Conversions S) → JobsGoByPhase R F
jobs_go_by_phase R F = λ job files. goes-by-phase R F job files
