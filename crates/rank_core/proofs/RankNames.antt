-- The names of a job's letters: each goes between two different ranks, in one of the job's phases.
use Rattle.std.proofs.Common.{◌≡◌, ◌≢◌, ℕ, ◌<◌, true, false, ◌&&◌, eqb, List, map, length, get_or, Some, refl, sym, ap, subst, ◌∙◌}
use Rattle.std.specs.Prelude.{slice_get}
use Rattle.std.proofs.lemmas.Bool.{and_from, and_parts, eq-eqb, ne_eqb}
use Rattle.std.proofs.lemmas.List.{length-map}
use Rattle.std.proofs.lemmas.Option.{slice_get-get_or}
use Rattle.scalar_laws.specs.Semiring.{Semiring}
use Rattle.scalar_laws.specs.Conversions.{Conversions}
use Rattle.mm_text.specs.Reading.{File}
use Rattle.outside.specs.declared.name.Name.{Name}
use Rattle.peers.specs.Protocols.{stands_in}
use Rattle.rank_phases.specs.Pairs.{to_others}
use Rattle.rank_phases.specs.Stages.{Stage}
use Rattle.rank_phases.proofs.Given.{named-filter}
use Rattle.rank_phases.proofs.PairNames.{between}
use Rattle.job_phases.specs.Laws.{is_sent, phase_at}
use Rattle.job_phases.proofs.JobNames.{names-by-phase, others-posted}
use Rattle.model_defs.specs.declared.job.Job.{Job}
use Rattle.model_defs.specs.declared.phase.Phase.{Phase}
use Rattle.model_defs.specs.Letters.{letter_names}
use Rattle.model_defs.specs.Phases.{phases}
use Rattle.rank_stages.specs.JobStages.{IsJobStage}
use Rattle.rank_stages.specs.Views.{View}

-- a phase of a worker's list is the job's
pub phase-of : (job : Job) (list : List Phase) (n : ℕ) (x : Phase) → list ≡ phases job → n < length list → x ≡ get_or list n x → slice_get (phases job) n ≡ Some x
phase-of job list n x e l is = ap (λ xs. slice_get xs n) (sym e) ∙ slice_get-get_or list n x l ∙ ap (λ p. Some p) (sym is)

module _ {S : Type 0} (R : Semiring S) (F : Conversions S) (job : Job) (files : List File) (view : View S) (s : Stage) (stage : IsJobStage R F job files view s)
    (name : Name) (named : stands_in s.protocol.names name ≡ true) where
  in-job : stands_in (letter_names job files) name ≡ true
  in-job = ap (λ p. stands_in p.names name) (sym stage.protocol) ∙ named

  ends : (name.phase < length (map (is_sent job files) (phases job))) × (name.from < job.ranks) × (name.to < job.ranks) × (name.from ≢ name.to)
  ends = between job.ranks (map (is_sent job files) (phases job)) name (sym (ap (λ ns. stands_in ns name) (names-by-phase job files)) ∙ in-job)

  pub phase-known : name.phase < length (phases job)
  phase-known = subst (λ n. name.phase < n) (length-map (phases job) (is_sent job files)) ends.0

  pub listed : (list : List Phase) → list ≡ phases job → name.phase < length list
  listed list e = subst (λ xs. name.phase < length xs) (sym e) phase-known

  pub from-known : name.from < job.ranks
  from-known = ends.1

  pub to-known : name.to < job.ranks
  to-known = ends.2

  pub apart : name.from ≢ name.to
  apart = ends.3

  pub to-other : eqb name.to name.from ≡ false
  to-other = ne_eqb name.to name.from (λ e. ends.3 (sym e))

  -- it is posted
  pub posted : is_sent job files (phase_at job name.phase) name ≡ true
  posted = (and_parts (is_sent job files (phase_at job name.phase) name) _
      (sym (named-filter (is_sent job files (phase_at job name.phase)) name (to_others job.ranks name.phase name.from))
      ∙ ap (λ ns. stands_in ns name) (sym (others-posted job files name.phase name.from phase-known from-known))
      ∙ named-filter (λ n. (eqb n.phase name.phase) && (eqb n.from name.from)) name (letter_names job files)
      ∙ and_from _ _ (and_from (eqb name.phase name.phase) _ (eq-eqb name.phase name.phase refl) (eq-eqb name.from name.from refl)) in-job)).0
