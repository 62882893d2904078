-- A rank enters a phase that is about a map or a plan, or the end.
use Rattle.std.proofs.Common.{◌≡◌, ℕ, suc, ◌≤◌, true, false, List, [], map, length, Option, None, Some, refl, sym, ap, ◌∙◌, subst, arith}
use Rattle.std.specs.Option.{option_map}
use Rattle.std.proofs.lemmas.List.{length-map}
use Rattle.std.proofs.lemmas.Option.{same_Some}
use Rattle.scalar_laws.specs.Semiring.{Semiring}
use Rattle.scalar_laws.specs.Conversions.{Conversions}
use Rattle.tables.specs.Tables.{Table}
use Rattle.mm_text.specs.Reading.{File}
use Rattle.rank_phases.specs.Pairs.{from_others, to_others}
use Rattle.rank_phases.specs.Phases.{names_from, names_to}
use Rattle.rank_phases.specs.Stages.{Stage, CanEnter, entering}
use Rattle.rank_phases.proofs.PairNames.{no-awaits, no-posts}
use Rattle.job_phases.specs.Laws.{is_sent}
use Rattle.job_phases.proofs.JobNames.{names-by-phase}
use Rattle.model_defs.specs.declared.job.Job.{Job}
use Rattle.model_defs.specs.declared.phase.About.{About}
use Rattle.model_defs.specs.declared.phase.About.TheVariants.{RegisterMap, AskOwners, TellOwners, SharePlan, SendNumbers}
use Rattle.model_defs.specs.Letters.{letter_names}
use Rattle.model_defs.specs.Phases.{phases}
use Rattle.rank_plans.specs.Books.{Book}
use Rattle.rank_stages.specs.JobStages.{HasValues, IsJobStage, about_at}
use Rattle.rank_stages.specs.LetterLaws.{sends_numbers}
use Rattle.rank_stages.proofs.Entering.{end_is_entered}
use Rattle.rank_stages.proofs.PhaseLetters.{plans_go_to_all}
use Rattle.plan_phases.specs.BookCalls.{IsEnteringBook}
use Rattle.plan_phases.specs.BookStages.{IsBookStage, with_book}
use Rattle.plan_phases.proofs.Passing.{books_pass_numbers}
use Rattle.rank_core.specs.declared.worker.JobWorker.{JobWorker}
use Rattle.rank_core.specs.declared.makings.Making.{Making}
use Rattle.rank_core.specs.declared.makings.Making.TheVariants.{Arriving, Arrived, Filled}
use Rattle.rank_core.specs.Makings.{IsMakingFor, IsMakingIn, IsSending}
use Rattle.rank_core.specs.Workers.{IsJobWorker, IsReady}
use Rattle.rank_core.proofs.Counted.{none-beyond}
use Rattle.rank_core.proofs.Standing.{all-made, all-values}
use Rattle.rank_pieces.specs.declared.pieces.Piece.{Piece}
use Rattle.peers.specs.Protocols.{Letter}
use Rattle.rank_stages.specs.OwnerLaws.{plan_about}
use Rattle.model_defs.specs.declared.phase.Plan.{Plan}
use Rattle.model_defs.specs.Plans.{rank_list_by}
use Rattle.value_phases.specs.ValuePhases.{is_of_structure}

-- In a phase that sends no numbers a rank makes what it has of the value.
pub plain-making : {S : Type 0} (R : Semiring S) (F : Conversions S) (job : Job) (files : List File) (me : ℕ) (pieces : List (Piece S)) (given : List Letter) (n k : ℕ) (gathered : ℕ → ℕ → Table S)
    → ((t : ℕ) → about_at job n ≡ Some (SendNumbers t) → ⊥) → (making : Option (Making S)) → IsMakingFor R F job files me pieces given n k making
    → IsMakingIn R F job files me pieces given n k gathered making
plain-making R F job files me pieces given n k gathered plain None is = ((λ t x. plain t (ap (option_map (λ p. p.about)) x.at ∙ ap (λ a. Some a) x.about)), is.1)
plain-making R F job files me pieces given n k gathered plain (Some (Arriving c)) is = absurd is
plain-making R F job files me pieces given n k gathered plain (Some (Arrived v)) (t, (x, have)) = absurd (plain (suc t) (ap (option_map (λ p. p.about)) x.at ∙ ap (λ a. Some a) x.about))
plain-making R F job files me pieces given n k gathered plain (Some (Filled fill)) is = is

pub plain-about : (job : Job) (n : ℕ) (about : About) → about_at job n ≡ Some about → sends_numbers about ≡ false → (t : ℕ) → about_at job n ≡ Some (SendNumbers t) → ⊥
plain-about job n about at plain t sends =
    let same : about ≡ SendNumbers t = same_Some about (SendNumbers t) (sym at ∙ sends) in
    let bad : false ≡ true = sym plain ∙ ap sends_numbers same in absurd (cc)

pub plain-otherwise : (about : About) → ((t : ℕ) → about ≡ SendNumbers t → ⊥) → sends_numbers about ≡ false
plain-otherwise (RegisterMap m) differs = refl
plain-otherwise (AskOwners plan) differs = refl
plain-otherwise (TellOwners plan) differs = refl
plain-otherwise (SharePlan plan) differs = refl
plain-otherwise (SendNumbers t) differs = absurd (differs t refl)

pub numbers-otherwise : (about : About) → sends_numbers about ≡ true → (t : ℕ) × (about ≡ SendNumbers t)
numbers-otherwise (RegisterMap m) e = absurd (let bad : ⊥ = cc in bad)
numbers-otherwise (AskOwners plan) e = absurd (let bad : ⊥ = cc in bad)
numbers-otherwise (TellOwners plan) e = absurd (let bad : ⊥ = cc in bad)
numbers-otherwise (SharePlan plan) e = absurd (let bad : ⊥ = cc in bad)
numbers-otherwise (SendNumbers t) e = (t, refl)

module _ {S : Type 0} (R : Semiring S) (F : Conversions S) (worker : JobWorker S) (s : Stage) (ready : IsReady R F worker s) (phase : ℕ) (can : CanEnter s phase) where
  abbrev job : Job
  job = worker.job.value

  pub names-are : s.protocol.names ≡ letter_names worker.job.value ready.files
  names-are = ap (λ p. p.names) ready.book.stage.protocol

  pub values-now : ℕ → Option (Table S)
  values-now = all-values R F worker.job.value ready.files worker.me s

  pub ready-values : HasValues R F worker.job.value ready.files values-now (entering s)
  unfolding values-now
  ready-values = all-made R F worker.job.value ready.files worker.me s

  -- ---- a plan

  module _ (about : About) (at : about_at worker.job.value phase ≡ Some about) (plain : sends_numbers about ≡ false) where
    pub plan-posts : names_from s.protocol.names phase s.rank ≡ to_others worker.job.value.ranks phase worker.me
    plan-posts =
        ap (λ ns. names_from ns phase s.rank) names-are
        ∙ (plans_go_to_all job ready.files phase s.rank about at plain ready.book.stage.within).0
        ∙ ap (to_others job.ranks phase) ready.worker_of.rank

    pub plan-awaits : names_to s.protocol.names phase s.rank ≡ from_others worker.job.value.ranks phase worker.me
    plan-awaits =
        ap (λ ns. names_to ns phase s.rank) names-are
        ∙ (plans_go_to_all job ready.files phase s.rank about at plain ready.book.stage.within).1
        ∙ ap (from_others job.ranks phase) ready.worker_of.rank

    module _ (list : List ℕ) (listed : (plan : Plan) → plan_about about ≡ Some plan → is_of_structure plan ≡ true → list ≡ rank_list_by worker.job.value ready.files plan worker.me) where
      pub entering-book : IsEnteringBook R F worker.job.value ready.files worker.book about list
      entering-book = record {
        view = ready.view;
        stage = s;
        phase = phase;
        kept = ready.book;
        can_enter = can;
        is = at;
        plain = plain;
        made = ready.plans;
        listed = λ plan of is. listed plan of is ∙ ap (rank_list_by job ready.files plan) (sym ready.worker_of.rank);
      }

      pub plan-entered : (new : Book)
          → ((files : List File) (e : IsEnteringBook R F worker.job.value files worker.book about list) (values : ℕ → Option (Table S)) → HasValues R F worker.job.value files values (entering e.stage)
          → IsBookStage R F worker.job.value files new (record (with_book e.view new) { values = values }) (entering e.stage))
          → IsJobWorker R F (record worker { book = new }) (entering s)
      unfolding entering-book
      plan-entered new entered = record {
        files = ready.files;
        view = record (with_book ready.view new) { values = values-now };
        worker_of = record {
          input = ready.worker_of.input;
          rank = ready.worker_of.rank;
          shapes = ready.worker_of.shapes;
          shape_count = ready.worker_of.shape_count;
          phase_list = ready.worker_of.phase_list;
          phase_count = ready.worker_of.phase_count;
        };
        book = entered ready.files entering-book values-now ready-values;
        values = ready.values;
        making = plain-making R F job ready.files worker.me worker.values.items s.absorbed s.entered (length worker.values.items) ready.view.gathered
            (λ t sends. plain-about job phase about at plain t (ap (about_at job) (sym can.next) ∙ sends)) worker.making ready.making;
        counts = ready.counts;
      }

  -- ---- the end

  module _ (past : length (phases worker.job.value) ≤ phase) where
    end-at : about_at worker.job.value phase ≡ None
    end-at = ap (option_map (λ x. x.about)) (none-beyond (phases job) phase past)

    tests-few : length (map (is_sent job ready.files) (phases job)) ≤ phase
    tests-few = subst (λ n. n ≤ phase) (sym (length-map (phases job) (is_sent job ready.files))) past

    pub end-posts : names_from s.protocol.names phase s.rank ≡ []
    end-posts =
        ap (λ ns. names_from ns phase s.rank) (names-are ∙ names-by-phase job ready.files)
        ∙ no-posts job.ranks (map (is_sent job ready.files) (phases job)) phase s.rank tests-few

    pub end-awaits : names_to s.protocol.names phase s.rank ≡ []
    end-awaits =
        ap (λ ns. names_to ns phase s.rank) (names-are ∙ names-by-phase job ready.files)
        ∙ no-awaits job.ranks (map (is_sent job ready.files) (phases job)) phase s.rank tests-few

    end-stage : IsJobStage R F worker.job.value ready.files (record ready.view { values = values-now }) (entering s)
    end-stage =
        end_is_entered R F job ready.files ready.view s phase values-now
        (record { valid = ready.book.valid; fitting = ready.book.fitting; stands_so = ready.book.stage; can_enter = can; made = ready-values }) end-at

    pub end-entered : IsJobWorker R F worker (entering s)
    end-entered = record {
      files = ready.files;
      view = record ready.view { values = values-now };
      worker_of = ready.worker_of;
      book =
          books_pass_numbers R F job ready.files worker.book ready.view (record ready.view { values = values-now }) s phase ready.book can
          (λ about at. absurd (let bad : None ≡ Some about = sym end-at ∙ at in let wrong : ⊥ = cc in wrong)) ready.plans
          (record { directory = refl; asked = refl; owners = refl; own = refl; told = refl }) end-stage;
      values = ready.values;
      making = plain-making R F job ready.files worker.me worker.values.items s.absorbed s.entered (length worker.values.items) ready.view.gathered
          (λ t sends. absurd (let bad : None ≡ Some (SendNumbers t) = sym end-at ∙ ap (about_at job) (sym can.next) ∙ sends in let wrong : ⊥ = cc in wrong)) worker.making ready.making;
      counts = ready.counts;
    }
