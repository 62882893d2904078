-- A phase that registers a map is entered.
use Rattle.std.proofs.Common.{◌≡◌, ℕ, Bool, true, false, cond, ◌&&◌, eqb, ◌⊎◌, inl, inr, List, Option, None, Some, refl, sym, ap, ◌∙◌}
use Rattle.std.proofs.lemmas.Bool.{eqb-true}
use Rattle.scalar_laws.specs.Semiring.{Semiring}
use Rattle.scalar_laws.specs.Conversions.{Conversions}
use Rattle.tables.specs.Tables.{Table}
use Rattle.map_core.specs.Homes.{is_home}
use Rattle.map_core.specs.Layouts.{stands}
use Rattle.map_core.proofs.Members.{stands-filter}
use Rattle.mm_text.specs.Reading.{File}
use Rattle.rank_phases.specs.Stages.{entering}
use Rattle.model_defs.specs.declared.job.Job.{Job}
use Rattle.model_defs.specs.declared.phase.About.{About}
use Rattle.model_defs.specs.declared.phase.About.TheVariants.{RegisterMap}
use Rattle.model_defs.specs.declared.phase.Plan.{Plan}
use Rattle.model_defs.specs.Letters.{entries_about}
use Rattle.model_defs.specs.Maps.{is_home_rank, list_of, size_of}
use Rattle.rank_plans.specs.Books.{Book, asked_in, asked_of, directory_of, has_map, lacking_in, made_in, map_size_of, owners_in, owners_of, size_in, task_in, told_in, told_of}
use Rattle.rank_stages.specs.JobStages.{HasValues, IsJobStage, about_at}
use Rattle.rank_stages.specs.OwnerLaws.{plan_about}
use Rattle.rank_stages.proofs.Entering.{registrations_are_entered}
use Rattle.plan_phases.specs.BookStages.{IsBookStage, with_book}
use Rattle.plan_phases.specs.BookCalls.{IsEnteringBook}
use Rattle.plan_phases.proofs.Begun.{IsNextBook, IsPlanPhase, book-next}
use Rattle.plan_phases.proofs.EnteringOrder.{map-new}
use Rattle.plan_phases.proofs.EnteringViews.{stage-said}

-- the registration of the map was begun, and nothing else
pub record IsMapBegun (job : Job) (old new : Book) (m : ℕ) : Type 0 where
  pub directory : (g : ℕ) → directory_of new m g ≡ cond (stands g (list_of job m old.me) && is_home old.ranks (size_of job m) old.me g) (Some old.me) None
  pub size : map_size_of new m ≡ Some (size_of job m)
  pub other_directories : (o g : ℕ) → eqb o m ≡ false → directory_of new o g ≡ directory_of old o g
  pub other_sizes : (o : ℕ) → eqb o m ≡ false → map_size_of new o ≡ map_size_of old o
  pub plans : new.plans ≡ old.plans
  pub me : new.me ≡ old.me
  pub ranks : new.ranks ≡ old.ranks

module _ {S : Type 0} (R : Semiring S) (F : Conversions S) (job : Job) (files : List File) (old : Book) (m : ℕ) {list : List ℕ} (e : IsEnteringBook R F job files old (RegisterMap m) list) where
  here : about_at job e.stage.entered ≡ Some (RegisterMap m)
  here = ap (about_at job) e.can_enter.next ∙ e.is

  pub map-was-new : has_map old m ≡ false
  map-was-new = map-new job files e.kept.valid e.kept.fitting e.stage.entered m here (has_map old m) (e.kept.only_maps m)

  module _ (new : Book) (begun : IsMapBegun job old new m) where
    only-here : (o : ℕ) → about_at job e.stage.entered ≡ Some (RegisterMap o) → o ≡ m
    only-here o at = let two : Some (RegisterMap o) ≡ Some (RegisterMap m) = sym at ∙ here in let same : o ≡ m = cc in same

    of-no-plan : (plan : Plan) → IsPlanPhase job e.stage.entered plan → ⊥
    of-no-plan plan p = by p.about (sym p.is ∙ here) p.of_plan
      where
        by : (about : About) → Some about ≡ Some (RegisterMap m) → plan_about about ≡ Some plan → ⊥
        by about same of = let is : about ≡ RegisterMap m = cc in let none = sym (ap plan_about is) ∙ of in let bad : ⊥ = cc in bad

    map-next : IsNextBook job files e.stage old new
    map-next = record {
      me = begun.me;
      ranks = begun.ranks;
      maps = λ o. either o (eqb o m) refl;
      new_map = λ o at. (let same = only-here o at in ap (map_size_of new) same ∙ begun.size ∙ ap (λ n. Some (size_of job n)) (sym same));
      plans = λ plan. inl (record { size = ap (λ ts. size_in (task_in ts plan)) begun.plans; lacked = ap (λ ts. lacking_in (task_in ts plan)) begun.plans });
      new_plan = λ plan p. absurd (of-no-plan plan p);
      known = λ plan g at on. absurd (let two = sym at ∙ here in let bad : ⊥ = cc in bad);
      known_before = λ n plan g at l on. ap (λ ts. owners_in (task_in ts plan) g) begun.plans ∙ e.kept.known n plan g at l on;
      told = λ plan q. ap (λ ts. told_in (task_in ts plan) q) begun.plans;
      made = λ plan. ap (λ ts. made_in (task_in ts plan)) begun.plans;
    }
      where
        either : (o : ℕ) (b : Bool) → eqb o m ≡ b → (map_size_of new o ≡ map_size_of old o) ⊎ (about_at job e.stage.entered ≡ Some (RegisterMap o))
        either o true f = inr (here ∙ ap (λ n. Some (RegisterMap n)) (sym (eqb-true o m f)))
        either o false f = inl (begun.other_sizes o f)

    map-stage : (values : ℕ → Option (Table S)) → HasValues R F job files values (entering e.stage) → IsJobStage R F job files (record (with_book e.view new) { values = values }) (entering e.stage)
    map-stage values made =
        stage-said R F job files e.view (entering e.stage) values
        (record { directory = directory_of new; asked = e.view.asked; owners = e.view.owners; told = e.view.told })
        (record { directory = directory_of new; asked = asked_of new; owners = owners_of new; told = told_of new })
        refl
        (e.kept.asked ∙ ap (λ ts plan. asked_in (task_in ts plan)) (sym begun.plans))
        (e.kept.owners ∙ ap (λ ts plan. owners_in (task_in ts plan)) (sym begun.plans))
        (e.kept.told ∙ ap (λ ts plan. told_in (task_in ts plan)) (sym begun.plans))
        (registrations_are_entered R F job files e.view e.stage e.phase 0 m values (directory_of new)
        (record { valid = e.kept.valid; fitting = e.kept.fitting; stands_so = e.kept.stage; can_enter = e.can_enter; made = made }) e.is own
        (λ o g f. begun.other_directories o g f ∙ ap (λ d. d o g) (sym e.kept.directory)))
      where
        own : (g : ℕ) → directory_of new m g ≡ cond (stands g (entries_about job files 0 (RegisterMap m) e.stage.rank e.stage.rank)) (Some e.stage.rank) None
        own g =
            begun.directory g
            ∙ ap (λ p. cond (stands g (list_of job m p) && is_home old.ranks (size_of job m) p g) (Some p) None) e.kept.me
            ∙ ap (λ n. cond (stands g (list_of job m e.stage.rank) && is_home n (size_of job m) e.stage.rank g) (Some e.stage.rank) None) e.kept.ranks
            ∙ ap (λ b. cond b (Some e.stage.rank) None) (sym (stands-filter g (is_home_rank job m e.stage.rank) (list_of job m e.stage.rank)))

    pub map-entered : (values : ℕ → Option (Table S)) → HasValues R F job files values (entering e.stage)
        → IsBookStage R F job files new (record (with_book e.view new) { values = values }) (entering e.stage)
    map-entered values made =
        book-next R F job files old new e.view e.stage (record (with_book e.view new) { values = values }) e.kept e.made map-next
        (record { directory = refl; asked = refl; owners = refl; told = refl; own = refl }) (map-stage values made)
