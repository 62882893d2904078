-- A phase of a plan that was begun before is entered: the rank answers itself, or shares the plan.
use Rattle.std.proofs.Common.{◌≡◌, ℕ, ◌<◌, Bool, true, false, ◌&&◌, inl, List, Option, Some, refl, sym, ap, subst, ◌∙◌, arith}
use Rattle.scalar_laws.specs.Semiring.{Semiring}
use Rattle.scalar_laws.specs.Conversions.{Conversions}
use Rattle.tables.specs.Tables.{Table}
use Rattle.map_core.specs.Homes.{homed}
use Rattle.map_core.specs.Layouts.{owner, stands}
use Rattle.map_core.proofs.Members.{and_true, stands-filter}
use Rattle.mm_text.specs.Reading.{File}
use Rattle.rank_phases.specs.Stages.{entering}
use Rattle.model_defs.specs.declared.job.Job.{Job}
use Rattle.model_defs.specs.declared.phase.About.{About}
use Rattle.model_defs.specs.declared.phase.About.TheVariants.{RegisterMap, AskOwners, TellOwners, SharePlan}
use Rattle.model_defs.specs.declared.phase.Plan.{Plan}
use Rattle.model_defs.specs.Letters.{asked}
use Rattle.model_defs.specs.Maps.{is_home_rank, is_uniform, layout_of, size_of}
use Rattle.model_defs.specs.Plans.{lacking}
use Rattle.model_defs.specs.Transfers.{owner_map, same_plan}
use Rattle.rank_plans.specs.Books.{Book, Slices, asked_of, directory_of, has_map, has_plan, lacking_of, made_of, map_size_of, owners_of, slices, told_of}
use Rattle.rank_plans.specs.Books as book
use Rattle.rank_stages.specs.JobStages.{HasLeft, HasValues, IsJobStage, about_at}
use Rattle.rank_stages.specs.OwnerLaws.{plan_about}
use Rattle.rank_stages.specs.PhaseOrder.{IsEarlierAbout}
use Rattle.rank_stages.proofs.Entering.{answers_are_entered, lists_are_entered}
use Rattle.rank_stages.proofs.Owners.{directories_are_whole, owners_are_known, phases_are_left, questions_are_whole}
use Rattle.rank_stages.proofs.Prepared.{phases_are_prepared, same-is}
use Rattle.plan_phases.specs.BookStages.{IsBegun, IsBookStage, with_book}
use Rattle.plan_phases.specs.BookCalls.{IsEnteringBook}
use Rattle.plan_phases.proofs.Begun.{IsNextBook, IsPlanPhase, book-next}
use Rattle.plan_phases.proofs.EnteringViews.{stage-said}

module _ {S : Type 0} (R : Semiring S) (F : Conversions S) (job : Job) (files : List File) (old : Book) (about : About) {list : List ℕ} (e : IsEnteringBook R F job files old about list) where
  -- an earlier phase was left
  left-before : (n : ℕ) → n < e.phase → HasLeft e.stage n
  left-before n l = phases_are_left e.stage n e.phase e.can_enter.all_absorbed (let here = e.can_enter.next in omega (arith, here)) l

  entered-before : (n : ℕ) → n < e.phase → n < e.stage.entered
  entered-before n l = let here = e.can_enter.next in omega (arith, here, l)

  only-this : (a : About) → plan_about about ≡ plan_about a → (plan other : Plan) → plan_about a ≡ Some plan → IsPlanPhase job e.stage.entered other → other ≡ plan
  only-this a same plan other of p = by p.about (sym p.is ∙ ap (about_at job) e.can_enter.next ∙ e.is) p.of_plan
    where
      by : (b : About) → Some b ≡ Some about → plan_about b ≡ Some other → other ≡ plan
      by b two f = let is : b ≡ about = cc in let both : Some other ≡ Some plan = sym f ∙ ap plan_about is ∙ same ∙ of in let eq : other ≡ plan = cc in eq

-- the rank answered itself, and nothing else changed
pub record IsTold (job : Job) (old new : Book) (plan : Plan) : Type 0 where
  pub owners : (g : ℕ) → stands g (asked_of old plan old.me) ≡ true → owners_of new plan g ≡ directory_of old (owner_map job plan) g
  pub others : (other : Plan) (g : ℕ) → same_plan other plan && stands g (asked_of old plan old.me) ≡ false → owners_of new other g ≡ owners_of old other g
  pub stays : slices new ≡ record (slices old) { owners = owners_of new }

module _ {S : Type 0} (R : Semiring S) (F : Conversions S) (job : Job) (files : List File) (old : Book) (plan : Plan) {list : List ℕ} (e : IsEnteringBook R F job files old (TellOwners plan) list) where
  registered : IsEarlierAbout job e.phase (RegisterMap (owner_map job plan))
  registered = (phases_are_prepared job files e.phase (TellOwners plan) e.kept.valid e.kept.fitting e.is).0

  questioned : IsEarlierAbout job e.phase (AskOwners plan)
  questioned = (phases_are_prepared job files e.phase (TellOwners plan) e.kept.valid e.kept.fitting e.is).1

  pub told-map : map_size_of old (owner_map job plan) ≡ Some (size_of job (owner_map job plan))
  told-map = e.kept.maps registered.phase (owner_map job plan) registered.is_about (entered-before R F job files old (TellOwners plan) e registered.phase registered.before)

  pub told-begun : IsBegun job files old e.stage.rank plan
  told-begun = e.kept.plans questioned.phase (AskOwners plan) plan questioned.is_about refl (entered-before R F job files old (TellOwners plan) e questioned.phase questioned.before)

  asked-own : asked_of old plan old.me ≡ asked job files plan e.stage.rank e.stage.rank
  asked-own =
      ap (asked_of old plan) e.kept.me ∙ ap (λ a. a plan e.stage.rank) (sym e.kept.asked)
      ∙ questions_are_whole R F job files e.view e.stage questioned.phase e.stage.rank plan e.kept.stage questioned.is_about
      (left-before R F job files old (TellOwners plan) e questioned.phase questioned.before) e.kept.stage.within

  pub told-asked : (size : ℕ) → book.size_of old plan ≡ Some size → asked_of old plan old.me ≡ homed old.ranks size old.me (lacking_of old plan)
  told-asked size is =
      let two : Some size ≡ Some (size_of job (owner_map job plan)) = sym is ∙ told-begun.size in
      let same : size ≡ size_of job (owner_map job plan) = cc in
      asked-own
      ∙ ap (λ xs. homed job.ranks (size_of job (owner_map job plan)) e.stage.rank xs) (sym told-begun.lacked)
      ∙ ap (λ p. homed job.ranks (size_of job (owner_map job plan)) p (lacking_of old plan)) (sym e.kept.me)
      ∙ ap (λ n. homed n (size_of job (owner_map job plan)) old.me (lacking_of old plan)) (sym e.kept.ranks)
      ∙ ap (λ n. homed old.ranks n old.me (lacking_of old plan)) (sym same)

  module _ (new : Book) (h : IsTold job old new plan) where
    -- what is known of an owner is so
    told-known : (n : ℕ) (p : Plan) (g : ℕ) → about_at job n ≡ Some (SharePlan p) → n < e.stage.entered → stands g (lacking job files p e.stage.rank) ≡ true
        → owners_of new p g ≡ owner (layout_of job (owner_map job p)) g
    told-known n p g at l on = by (same_plan p plan) refl (stands g (asked_of old plan old.me)) refl
      where
        here : stands g (asked_of old plan old.me) ≡ true → owners_of new plan g ≡ owner (layout_of job (owner_map job plan)) g
        here among =
            let mine = ap (stands g) (sym asked-own) ∙ among in
            let home = (and_true (stands g (lacking job files plan e.stage.rank)) (is_home_rank job (owner_map job plan) e.stage.rank g)
            (sym (stands-filter g (is_home_rank job (owner_map job plan) e.stage.rank) (lacking job files plan e.stage.rank)) ∙ mine)).1 in
            h.owners g among ∙ ap (λ d. d (owner_map job plan) g) (sym e.kept.directory)
            ∙ directories_are_whole R F job files e.view e.stage registered.phase (owner_map job plan) g e.kept.valid e.kept.stage registered.is_about
            (left-before R F job files old (TellOwners plan) e registered.phase registered.before) home

        by : (b : Bool) → same_plan p plan ≡ b → (c : Bool) → stands g (asked_of old plan old.me) ≡ c → owners_of new p g ≡ owner (layout_of job (owner_map job p)) g
        by true f true i = subst (λ r. owners_of new r g ≡ owner (layout_of job (owner_map job r)) g) (sym (same-is p plan f)) (here i)
        by true f false i = h.others p g (ap (λ b. b && stands g (asked_of old plan old.me)) f ∙ i) ∙ e.kept.known n p g at l on
        by false f c i = h.others p g (ap (λ b. b && stands g (asked_of old plan old.me)) f) ∙ e.kept.known n p g at l on

    told-next : IsNextBook job files e.stage old new
    told-next = record {
      me = ap {A = Slices} (λ s. s.me) h.stays;
      ranks = ap {A = Slices} (λ s. s.ranks) h.stays;
      maps = λ m. inl (ap {A = Slices} (λ s. s.map_size m) h.stays);
      new_map = λ m at. absurd (let two = sym at ∙ ap (about_at job) e.can_enter.next ∙ e.is in let bad : ⊥ = cc in bad);
      plans = λ p. inl (record { size = ap {A = Slices} (λ s. s.size p) h.stays; lacked = ap {A = Slices} (λ s. s.lacking p) h.stays });
      new_plan = λ p at.
          let b = subst (IsBegun job files old e.stage.rank) (sym (only-this R F job files old (TellOwners plan) e (TellOwners plan) refl plan p refl at)) told-begun in
          record { size = ap {A = Slices} (λ s. s.size p) h.stays ∙ b.size; lacked = ap {A = Slices} (λ s. s.lacking p) h.stays ∙ b.lacked };
      known = λ p g at on. absurd (let two = sym at ∙ ap (about_at job) e.can_enter.next ∙ e.is in let bad : ⊥ = cc in bad);
      known_before = told-known;
      told = λ p q. ap {A = Slices} (λ s. s.told p q) h.stays;
      made = λ p. ap {A = Slices} (λ s. s.made p) h.stays;
    }

    told-stage : (values : ℕ → Option (Table S)) → HasValues R F job files values (entering e.stage) → IsJobStage R F job files (record (with_book e.view new) { values = values }) (entering e.stage)
    told-stage values made =
        stage-said R F job files e.view (entering e.stage) values
        (record { directory = e.view.directory; asked = e.view.asked; owners = owners_of new; told = e.view.told })
        (record { directory = directory_of new; asked = asked_of new; owners = owners_of new; told = told_of new })
        (e.kept.directory ∙ sym (ap {A = Slices} (λ s. s.directory) h.stays))
        (e.kept.asked ∙ sym (ap {A = Slices} (λ s. s.asked) h.stays))
        refl
        (e.kept.told ∙ sym (ap {A = Slices} (λ s. s.told) h.stays))
        (answers_are_entered R F job files e.view e.stage e.phase plan values (owners_of new)
        (record { valid = e.kept.valid; fitting = e.kept.fitting; stands_so = e.kept.stage; can_enter = e.can_enter; made = made }) e.is
        (λ g on. h.owners g (ap (stands g) asked-own ∙ on) ∙ ap (λ d. d (owner_map job plan) g) (sym e.kept.directory))
        (λ p g off. h.others p g (ap (λ b. b && stands g (asked_of old plan old.me)) off) ∙ ap (λ o. o p g) (sym e.kept.owners)))

    pub told-entered : (values : ℕ → Option (Table S)) → HasValues R F job files values (entering e.stage)
        → IsBookStage R F job files new (record (with_book e.view new) { values = values }) (entering e.stage)
    told-entered values made =
        book-next R F job files old new e.view e.stage (record (with_book e.view new) { values = values }) e.kept e.made told-next
        (record { directory = refl; asked = refl; owners = refl; told = refl; own = refl }) (told-stage values made)

module _ {S : Type 0} (R : Semiring S) (F : Conversions S) (job : Job) (files : List File) (old : Book) (plan : Plan) {list : List ℕ} (e : IsEnteringBook R F job files old (SharePlan plan) list) (asked_for : is_uniform job (owner_map job plan) ≡ false) where
  answered : IsEarlierAbout job e.phase (TellOwners plan)
  answered = phases_are_prepared job files e.phase (SharePlan plan) e.kept.valid e.kept.fitting e.is asked_for

  shared-begun : IsBegun job files old e.stage.rank plan
  shared-begun = e.kept.plans answered.phase (TellOwners plan) plan answered.is_about refl (entered-before R F job files old (SharePlan plan) e answered.phase answered.before)

  shared-known : (g : ℕ) → stands g (lacking job files plan e.stage.rank) ≡ true → owners_of old plan g ≡ owner (layout_of job (owner_map job plan)) g
  shared-known g on =
      ap (λ o. o plan g) (sym e.kept.owners)
      ∙ owners_are_known R F job files e.view e.stage answered.phase g plan e.kept.valid e.kept.stage answered.is_about
      (left-before R F job files old (SharePlan plan) e answered.phase answered.before) on

  shared-next : IsNextBook job files e.stage old old
  shared-next = record {
    me = refl;
    ranks = refl;
    maps = λ m. inl refl;
    new_map = λ m at. absurd (let two = sym at ∙ ap (about_at job) e.can_enter.next ∙ e.is in let bad : ⊥ = cc in bad);
    plans = λ p. inl (record { size = refl; lacked = refl });
    new_plan = λ p at. subst (IsBegun job files old e.stage.rank) (sym (only-this R F job files old (SharePlan plan) e (SharePlan plan) refl plan p refl at)) shared-begun;
    known = λ p g at on.
        let same = only-this R F job files old (SharePlan plan) e (SharePlan plan) refl plan p refl (record { about = SharePlan p; is = at; of_plan = refl }) in
        subst (λ r. owners_of old r g ≡ owner (layout_of job (owner_map job r)) g) (sym same) (shared-known g (ap (λ r. stands g (lacking job files r e.stage.rank)) (sym same) ∙ on));
    known_before = λ n p g at l on. e.kept.known n p g at l on;
    told = λ p q. refl;
    made = λ p. refl;
  }

  shared-stage : (values : ℕ → Option (Table S)) → HasValues R F job files values (entering e.stage) → IsJobStage R F job files (record (with_book e.view old) { values = values }) (entering e.stage)
  shared-stage values made =
      stage-said R F job files e.view (entering e.stage) values
      (record { directory = e.view.directory; asked = e.view.asked; owners = e.view.owners; told = e.view.told })
      (record { directory = directory_of old; asked = asked_of old; owners = owners_of old; told = told_of old })
      e.kept.directory e.kept.asked e.kept.owners e.kept.told
      (lists_are_entered R F job files e.view e.stage e.phase plan values e.view.own
      (record { valid = e.kept.valid; fitting = e.kept.fitting; stands_so = e.kept.stage; can_enter = e.can_enter; made = made }) e.is
      (λ q. ap (λ o. o plan q) e.kept.own) (λ other q f. refl))

  pub shared-entered : (values : ℕ → Option (Table S)) → HasValues R F job files values (entering e.stage)
      → IsBookStage R F job files old (record (with_book e.view old) { values = values }) (entering e.stage)
  shared-entered values made =
      book-next R F job files old old e.view e.stage (record (with_book e.view old) { values = values }) e.kept e.made shared-next
      (record { directory = refl; asked = refl; owners = refl; told = refl; own = refl }) (shared-stage values made)
