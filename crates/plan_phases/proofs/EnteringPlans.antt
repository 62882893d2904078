-- A phase that begins a plan is entered: owners are asked for, or follow by rule.
use Rattle.std.proofs.Common.{◌≡◌, ℕ, ◌<◌, Bool, true, false, cond, eqb, ◌⊎◌, inl, inr, List, [], Option, None, Some, refl, sym, ap, subst, ◌∙◌}
use Rattle.std.specs.Option.{is_some}
use Rattle.std.proofs.lemmas.Bool.{eq-eqb}
use Rattle.scalar_laws.specs.Semiring.{Semiring}
use Rattle.scalar_laws.specs.Conversions.{Conversions}
use Rattle.tables.specs.Tables.{Table}
use Rattle.map_core.specs.Homes.{homed}
use Rattle.map_core.specs.Layouts.{owner, stands}
use Rattle.map_core.specs.Uniform.{uniform_layout}
use Rattle.mm_text.specs.Reading.{File}
use Rattle.rank_phases.specs.Stages.{entering}
use Rattle.model_defs.specs.declared.job.Job.{Job}
use Rattle.model_defs.specs.declared.phase.About.{About}
use Rattle.model_defs.specs.declared.phase.About.TheVariants.{RegisterMap, AskOwners, TellOwners, SharePlan}
use Rattle.model_defs.specs.declared.phase.Plan.{Plan}
use Rattle.model_defs.specs.Letters.{asked}
use Rattle.model_defs.specs.Maps.{is_uniform, layout_of, size_of}
use Rattle.model_defs.specs.Plans.{lacking}
use Rattle.model_defs.specs.Transfers.{owner_map, same_plan}
use Rattle.rank_plans.specs.Books.{Book, asked_in, asked_of, directory_of, has_plan, lacking_in, made_in, made_of, map_in, map_size_in, owner_in, owners_in, owners_of, size_in, task_in, told_in, told_of}
use Rattle.rank_plans.specs.Tasks.{Task}
use Rattle.rank_stages.specs.EnterLaws.{IsEntering}
use Rattle.rank_stages.specs.JobStages.{HasValues, IsJobStage, about_at}
use Rattle.rank_stages.specs.OwnerLaws.{plan_about}
use Rattle.rank_stages.proofs.Entering.{lists_are_entered, questions_are_entered}
use Rattle.rank_stages.proofs.Owners.{uniform_maps_are_by_rule}
use Rattle.rank_stages.proofs.Prepared.{same-is}
use Rattle.plan_phases.specs.BookStages.{IsBegun, IsBookStage, with_book}
use Rattle.plan_phases.specs.BookCalls.{IsEnteringBook}
use Rattle.plan_phases.proofs.Begun.{IsNextBook, IsPlanPhase, IsSamePlan, book-next}
use Rattle.plan_phases.proofs.EnteringOrder.{ask-new, rule-new}
use Rattle.plan_phases.proofs.EnteringViews.{stage-said}

-- the plan was begun, and nothing else
pub record IsPlanBegun (job : Job) (files : List File) (old new : Book) (p : ℕ) (plan : Plan) : Type 0 where
  pub begun : IsBegun job files new p plan
  pub told : (q : ℕ) → told_of new plan q ≡ []
  pub made : made_of new plan ≡ None
  pub others : (other : Plan) → same_plan other plan ≡ false → task_in new.plans other ≡ task_in old.plans other
  pub maps : new.maps ≡ old.maps
  pub me : new.me ≡ old.me
  pub ranks : new.ranks ≡ old.ranks

module _ {S : Type 0} (R : Semiring S) (F : Conversions S) (job : Job) (files : List File) (old new : Book) (about : About) (plan : Plan) {list : List ℕ} (e : IsEnteringBook R F job files old about list) (of : plan_about about ≡ Some plan)
    (first : has_plan old plan ≡ false) (h : IsPlanBegun job files old new e.stage.rank plan) where
  at-stage : about_at job e.stage.entered ≡ Some about
  at-stage = ap (about_at job) e.can_enter.next ∙ e.is

  none : task_in old.plans plan ≡ None
  none = empty (task_in old.plans plan) first
    where
      empty : (o : Option Task) → is_some (size_in o) ≡ false → o ≡ None
      empty None f = refl
      empty (Some t) f = absurd (let bad : ⊥ = cc in bad)

  -- what is said of no task, and is said of the new one too, stays
  stays : {X : Type 0} (f : Option Task → X) → f (task_in new.plans plan) ≡ f None → (other : Plan) → f (task_in new.plans other) ≡ f (task_in old.plans other)
  stays f says other = by (same_plan other plan) refl
    where
      by : (b : Bool) → same_plan other plan ≡ b → f (task_in new.plans other) ≡ f (task_in old.plans other)
      by true same =
          subst (λ p. f (task_in new.plans p) ≡ f (task_in old.plans p)) (sym (same-is other plan same)) (says ∙ sym (ap f none))
      by false off = ap f (h.others other off)

  only-here : (other : Plan) → IsPlanPhase job e.stage.entered other → other ≡ plan
  only-here other p = by p.about (sym p.is ∙ at-stage) p.of_plan
    where
      by : (a : About) → Some a ≡ Some about → plan_about a ≡ Some other → other ≡ plan
      by a same f = let is : a ≡ about = cc in let two : Some other ≡ Some plan = sym f ∙ ap plan_about is ∙ of in let eq : other ≡ plan = cc in eq

  not-map : (m : ℕ) → about_at job e.stage.entered ≡ Some (RegisterMap m) → ⊥
  not-map m at = let two : Some (RegisterMap m) ≡ Some about = sym at ∙ at-stage in let is : about ≡ RegisterMap m = cc in let no = sym (ap plan_about is) ∙ of in let bad : ⊥ = cc in bad

  -- an earlier phase is about another plan
  not-before : (n : ℕ) (other : Plan) (a : About) → about_at job n ≡ Some a → plan_about a ≡ Some other → n < e.stage.entered → same_plan other plan ≡ false
  not-before n other a at f l = by (same_plan other plan) refl
    where
      by : (b : Bool) → same_plan other plan ≡ b → same_plan other plan ≡ false
      by false off = off
      by true same =
          let was = (e.kept.plans n a other at f l).size in
          let has : has_plan old plan ≡ true = ap (has_plan old) (sym (same-is other plan same)) ∙ ap is_some was in
          absurd (let bad : ⊥ = cc in bad)

  plan-next : ((p : Plan) (g : ℕ) → about_at job e.stage.entered ≡ Some (SharePlan p) → stands g (lacking job files p e.stage.rank) ≡ true → owners_of new p g ≡ owner (layout_of job (owner_map job p)) g)
      → IsNextBook job files e.stage old new
  plan-next known = record {
    me = h.me;
    ranks = h.ranks;
    maps = λ m. inl (ap (λ ms. map_size_in (map_in ms m)) h.maps);
    new_map = λ m at. absurd (not-map m at);
    plans = λ other. either other (same_plan other plan) refl;
    new_plan = λ other p. subst (IsBegun job files new e.stage.rank) (sym (only-here other p)) h.begun;
    known = known;
    known_before = λ n other g at l on. ap (λ o. owners_in o g) (h.others other (not-before n other (SharePlan other) at refl l)) ∙ e.kept.known n other g at l on;
    told = λ other q. stays (λ o. told_in o q) (h.told q) other;
    made = λ other. stays made_in h.made other;
  }
    where
      either : (other : Plan) (b : Bool) → same_plan other plan ≡ b → IsSamePlan old new other ⊎ IsPlanPhase job e.stage.entered other
      either other true same = inr (record { about = about; is = at-stage; of_plan = of ∙ ap Some (sym (same-is other plan same)) })
      either other false off = inl (record { size = ap size_in (h.others other off); lacked = ap lacking_in (h.others other off) })

  told-same : told_of new ≡ told_of old
  told-same = λ i p q. stays (λ o. told_in o q) (h.told q) p i

  directory-same : directory_of new ≡ directory_of old
  directory-same = λ i m g. owner_in (map_in (h.maps i) m) g

  entering-with : (values : ℕ → Option (Table S)) → HasValues R F job files values (entering e.stage) → IsEntering R F job files e.view e.stage e.phase values
  entering-with values made = record { valid = e.kept.valid; fitting = e.kept.fitting; stands_so = e.kept.stage; can_enter = e.can_enter; made = made }

  next-stage : (values : ℕ → Option (Table S)) → IsNextBook job files e.stage old new → IsJobStage R F job files (record (with_book e.view new) { values = values }) (entering e.stage)
      → IsBookStage R F job files new (record (with_book e.view new) { values = values }) (entering e.stage)
  next-stage values next stands_so =
      book-next R F job files old new e.view e.stage (record (with_book e.view new) { values = values }) e.kept e.made next
      (record { directory = refl; asked = refl; owners = refl; told = refl; own = refl }) stands_so

module _ {S : Type 0} (R : Semiring S) (F : Conversions S) (job : Job) (files : List File) (old : Book) (plan : Plan) {list : List ℕ} (e : IsEnteringBook R F job files old (AskOwners plan) list) where
  pub ask-was-new : has_plan old plan ≡ false
  ask-was-new = ask-new job files e.kept.valid e.kept.fitting e.stage.entered plan (ap (about_at job) e.can_enter.next ∙ e.is) (has_plan old plan) (e.kept.only_plans plan)

  module _ (new : Book) (h : IsPlanBegun job files old new e.stage.rank plan)
      (asks : (q : ℕ) → q < old.ranks → asked_of new plan q ≡ cond (eqb q old.me) (homed old.ranks (size_of job (owner_map job plan)) old.me (lacking job files plan e.stage.rank)) [])
      (owners : (g : ℕ) → owners_of new plan g ≡ None) where
    ask-next : IsNextBook job files e.stage old new
    ask-next = plan-next R F job files old new (AskOwners plan) plan e refl ask-was-new h
        (λ p g at on. absurd (let two = sym at ∙ at-stage R F job files old new (AskOwners plan) plan e refl ask-was-new h in let bad : ⊥ = cc in bad))

    ask-stage : (values : ℕ → Option (Table S)) → HasValues R F job files values (entering e.stage) → IsJobStage R F job files (record (with_book e.view new) { values = values }) (entering e.stage)
    ask-stage values made =
        stage-said R F job files e.view (entering e.stage) values
        (record { directory = e.view.directory; asked = asked_of new; owners = e.view.owners; told = e.view.told })
        (record { directory = directory_of new; asked = asked_of new; owners = owners_of new; told = told_of new })
        (e.kept.directory ∙ sym (directory-same R F job files old new (AskOwners plan) plan e refl ask-was-new h))
        refl
        (e.kept.owners ∙ sym owners-same)
        (e.kept.told ∙ sym (told-same R F job files old new (AskOwners plan) plan e refl ask-was-new h))
        (questions_are_entered R F job files e.view e.stage e.phase plan values (asked_of new) (entering-with R F job files old new (AskOwners plan) plan e refl ask-was-new h values made) e.is own
        (λ other q f. ap (λ o. asked_in o q) (h.others other f) ∙ ap (λ a. a other q) (sym e.kept.asked)))
      where
        owners-same : owners_of new ≡ owners_of old
        owners-same = λ i p g. stays R F job files old new (AskOwners plan) plan e refl ask-was-new h (λ o. owners_in o g) (owners g) p i

        own : asked_of new plan e.stage.rank ≡ asked job files plan e.stage.rank e.stage.rank
        own =
            asks e.stage.rank (subst (λ n. e.stage.rank < n) (sym e.kept.ranks) e.kept.stage.within)
            ∙ ap (λ p. cond (eqb e.stage.rank p) (homed old.ranks (size_of job (owner_map job plan)) p (lacking job files plan e.stage.rank)) []) e.kept.me
            ∙ ap (λ n. cond (eqb e.stage.rank e.stage.rank) (homed n (size_of job (owner_map job plan)) e.stage.rank (lacking job files plan e.stage.rank)) []) e.kept.ranks
            ∙ ap (λ b. cond b (homed job.ranks (size_of job (owner_map job plan)) e.stage.rank (lacking job files plan e.stage.rank)) []) (eq-eqb e.stage.rank e.stage.rank refl)

    pub ask-entered : (values : ℕ → Option (Table S)) → HasValues R F job files values (entering e.stage)
        → IsBookStage R F job files new (record (with_book e.view new) { values = values }) (entering e.stage)
    ask-entered values made = next-stage R F job files old new (AskOwners plan) plan e refl ask-was-new h values ask-next (ask-stage values made)

module _ {S : Type 0} (R : Semiring S) (F : Conversions S) (job : Job) (files : List File) (old : Book) (plan : Plan) {list : List ℕ} (e : IsEnteringBook R F job files old (SharePlan plan) list) (rule : is_uniform job (owner_map job plan) ≡ true) where
  pub rule-was-new : has_plan old plan ≡ false
  rule-was-new = rule-new job files e.kept.valid e.kept.fitting e.stage.entered plan (ap (about_at job) e.can_enter.next ∙ e.is) rule (has_plan old plan) (e.kept.only_plans plan)

  module _ (new : Book) (h : IsPlanBegun job files old new e.stage.rank plan)
      (asks : (q : ℕ) → asked_of new plan q ≡ [])
      (owners : (g : ℕ) → owners_of new plan g ≡ cond (stands g (lacking job files plan e.stage.rank)) (owner (uniform_layout old.ranks (size_of job (owner_map job plan))) g) None) where
    rule-known : (g : ℕ) → stands g (lacking job files plan e.stage.rank) ≡ true → owners_of new plan g ≡ owner (layout_of job (owner_map job plan)) g
    rule-known g on =
        owners g
        ∙ ap (λ b. cond b (owner (uniform_layout old.ranks (size_of job (owner_map job plan))) g) None) on
        ∙ ap (λ n. owner (uniform_layout n (size_of job (owner_map job plan))) g) e.kept.ranks
        ∙ ap (λ l. owner l g) (sym (uniform_maps_are_by_rule job (owner_map job plan) rule))

    rule-next : IsNextBook job files e.stage old new
    rule-next = plan-next R F job files old new (SharePlan plan) plan e refl rule-was-new h
        (λ p g at on.
        let same = only-here R F job files old new (SharePlan plan) plan e refl rule-was-new h p (record { about = SharePlan p; is = at; of_plan = refl }) in
        subst (λ r. owners_of new r g ≡ owner (layout_of job (owner_map job r)) g) (sym same) (rule-known g (ap (λ r. stands g (lacking job files r e.stage.rank)) (sym same) ∙ on)))

    -- the owners that follow by rule are those of no plan that was told
    rule-before : IsJobStage R F job files (record e.view { owners = owners_of new }) e.stage
    rule-before = record {
      protocol = e.kept.stage.protocol;
      phases = e.kept.stage.phases;
      limit = e.kept.stage.limit;
      within = e.kept.stage.within;
      passed = e.kept.stage.passed;
      later = e.kept.stage.later;
      named = e.kept.stage.named;
      values = e.kept.stage.values;
      directory = e.kept.stage.directory;
      asked = e.kept.stage.asked;
      owners = λ n q g p at l heard among.
          ap (λ o. owners_in o g) (h.others p (not-before R F job files old new (SharePlan plan) plan e refl rule-was-new h n p (TellOwners p) at refl l))
          ∙ ap (λ o. o p g) (sym e.kept.owners) ∙ e.kept.stage.owners n q g p at l heard among;
      own = e.kept.stage.own;
      told = e.kept.stage.told;
      gathered = e.kept.stage.gathered;
    }

    rule-stage : (values : ℕ → Option (Table S)) → HasValues R F job files values (entering e.stage) → IsJobStage R F job files (record (with_book e.view new) { values = values }) (entering e.stage)
    rule-stage values made =
        stage-said R F job files e.view (entering e.stage) values
        (record { directory = e.view.directory; asked = e.view.asked; owners = owners_of new; told = e.view.told })
        (record { directory = directory_of new; asked = asked_of new; owners = owners_of new; told = told_of new })
        (e.kept.directory ∙ sym (directory-same R F job files old new (SharePlan plan) plan e refl rule-was-new h))
        (e.kept.asked ∙ sym asked-same)
        refl
        (e.kept.told ∙ sym (told-same R F job files old new (SharePlan plan) plan e refl rule-was-new h))
        (lists_are_entered R F job files (record e.view { owners = owners_of new }) e.stage e.phase plan values e.view.own
        (record { valid = e.kept.valid; fitting = e.kept.fitting; stands_so = rule-before; can_enter = e.can_enter; made = made }) e.is
        (λ q. ap (λ o. o plan q) e.kept.own) (λ other q f. refl))
      where
        asked-same : asked_of new ≡ asked_of old
        asked-same = λ i p q. stays R F job files old new (SharePlan plan) plan e refl rule-was-new h (λ o. asked_in o q) (asks q) p i

    pub rule-entered : (values : ℕ → Option (Table S)) → HasValues R F job files values (entering e.stage)
        → IsBookStage R F job files new (record (with_book e.view new) { values = values }) (entering e.stage)
    rule-entered values made = next-stage R F job files old new (SharePlan plan) plan e refl rule-was-new h values rule-next (rule-stage values made)
