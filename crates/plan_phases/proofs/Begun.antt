-- A book at the next phase, from what changed of its maps and plans.
use Rattle.std.proofs.Common.{◌≡◌, ℕ, suc, ◌<◌, ◌≤◌, ◌⊎◌, inl, inr, true, sym, ap, ◌∙◌, arith, List, Some}
use Rattle.std.specs.Option.{is_some}
use Rattle.std.proofs.lemmas.Bool.{cases_lt}
use Rattle.scalar_laws.specs.Semiring.{Semiring}
use Rattle.scalar_laws.specs.Conversions.{Conversions}
use Rattle.map_core.specs.Layouts.{owner, stands}
use Rattle.mm_text.specs.Reading.{File}
use Rattle.rank_phases.specs.Stages.{Stage, entering}
use Rattle.model_defs.specs.declared.job.Job.{Job}
use Rattle.model_defs.specs.declared.phase.About.{About}
use Rattle.model_defs.specs.declared.phase.About.TheVariants.{RegisterMap, SharePlan}
use Rattle.model_defs.specs.declared.phase.Plan.{Plan}
use Rattle.model_defs.specs.Maps.{layout_of, size_of}
use Rattle.model_defs.specs.Plans.{lacking}
use Rattle.model_defs.specs.Transfers.{owner_map}
use Rattle.rank_plans.specs.Books.{Book, asked_of, directory_of, has_map, has_plan, lacking_of, made_of, map_size_of, owners_of, told_of}
use Rattle.rank_plans.specs.Books as book
use Rattle.rank_stages.specs.JobStages.{IsJobStage, about_at}
use Rattle.rank_stages.specs.OwnerLaws.{plan_about}
use Rattle.rank_stages.specs.Views.{View}
use Rattle.plan_phases.specs.BookStages.{IsBegun, IsBookStage, IsPlanned, IsRegistered}
use Rattle.plan_phases.specs.BookCalls.{AreMade}

-- what is known of a plan from its beginning stays
pub record IsSamePlan (old new : Book) (plan : Plan) : Type 0 where
  pub size : book.size_of new plan ≡ book.size_of old plan
  pub lacked : lacking_of new plan ≡ lacking_of old plan

-- the phase is about the plan
pub record IsPlanPhase (job : Job) (phase : ℕ) (plan : Plan) : Type 0 where
  pub about : About
  pub is : about_at job phase ≡ Some about
  pub of_plan : plan_about about ≡ Some plan

-- what the next phase, that which was not entered yet, changes of a book
pub record IsNextBook (job : Job) (files : List File) (s : Stage) (old new : Book) : Type 0 where
  pub me : new.me ≡ old.me
  pub ranks : new.ranks ≡ old.ranks
  pub maps : (m : ℕ) → (map_size_of new m ≡ map_size_of old m) ⊎ (about_at job s.entered ≡ Some (RegisterMap m))
  pub new_map : (m : ℕ) → about_at job s.entered ≡ Some (RegisterMap m) → map_size_of new m ≡ Some (size_of job m)
  pub plans : (plan : Plan) → IsSamePlan old new plan ⊎ IsPlanPhase job s.entered plan
  pub new_plan : (plan : Plan) → IsPlanPhase job s.entered plan → IsBegun job files new s.rank plan
  pub known : (plan : Plan) (g : ℕ) → about_at job s.entered ≡ Some (SharePlan plan) → stands g (lacking job files plan s.rank) ≡ true
      → owners_of new plan g ≡ owner (layout_of job (owner_map job plan)) g
  pub known_before : (n : ℕ) (plan : Plan) (g : ℕ) → about_at job n ≡ Some (SharePlan plan) → n < s.entered → stands g (lacking job files plan s.rank) ≡ true
      → owners_of new plan g ≡ owner (layout_of job (owner_map job plan)) g
  pub told : (plan : Plan) (q : ℕ) → told_of new plan q ≡ told_of old plan q
  pub made : (plan : Plan) → made_of new plan ≡ made_of old plan

-- the view has what the book has, and the same lists of its own as before
pub record IsViewOf {S : Type 0} (old view : View S) (b : Book) : Type 0 where
  pub directory : view.directory ≡ directory_of b
  pub asked : view.asked ≡ asked_of b
  pub owners : view.owners ≡ owners_of b
  pub told : view.told ≡ told_of b
  pub own : view.own ≡ old.own

module _ {S : Type 0} (R : Semiring S) (F : Conversions S) (job : Job) (files : List File) (old new : Book) (view : View S) (s : Stage) where
  module _ (kept : IsBookStage R F job files old view s) (next : IsNextBook job files s old new) where
    earlier : (n : ℕ) → n < suc s.entered → (n < s.entered) ⊎ (n ≡ s.entered)
    earlier n l = by (cases_lt n s.entered)
      where
        by : (n < s.entered) ⊎ (s.entered ≤ n) → (n < s.entered) ⊎ (n ≡ s.entered)
        by (inl a) = inl a
        by (inr a) = inr (omega arith)

    maps-next : (n m : ℕ) → about_at job n ≡ Some (RegisterMap m) → n < suc s.entered → map_size_of new m ≡ Some (size_of job m)
    maps-next n m at l = by (earlier n l) (next.maps m)
      where
        by : (n < s.entered) ⊎ (n ≡ s.entered) → (map_size_of new m ≡ map_size_of old m) ⊎ (about_at job s.entered ≡ Some (RegisterMap m)) → map_size_of new m ≡ Some (size_of job m)
        by (inr e) u = next.new_map m (sym (ap (about_at job) e) ∙ at)
        by (inl a) (inr e) = next.new_map m e
        by (inl a) (inl e) = e ∙ kept.maps n m at a

    only-maps-next : (m : ℕ) → has_map new m ≡ true → IsRegistered job (suc s.entered) m
    only-maps-next m has = by (next.maps m)
      where
        by : (map_size_of new m ≡ map_size_of old m) ⊎ (about_at job s.entered ≡ Some (RegisterMap m)) → IsRegistered job (suc s.entered) m
        by (inl e) = let r = kept.only_maps m (sym (ap is_some e) ∙ has) in record { phase = r.phase; is = r.is; earlier = (let l = r.earlier in omega (arith, l)) }
        by (inr e) = record { phase = s.entered; is = e; earlier = omega arith }

    plans-next : (n : ℕ) (about : About) (plan : Plan) → about_at job n ≡ Some about → plan_about about ≡ Some plan → n < suc s.entered → IsBegun job files new s.rank plan
    plans-next n about plan at of l = by (earlier n l) (next.plans plan)
      where
        by : (n < s.entered) ⊎ (n ≡ s.entered) → IsSamePlan old new plan ⊎ IsPlanPhase job s.entered plan → IsBegun job files new s.rank plan
        by (inr e) u = next.new_plan plan (record { about = about; is = sym (ap (about_at job) e) ∙ at; of_plan = of })
        by (inl a) (inr e) = next.new_plan plan e
        by (inl a) (inl e) = let b = kept.plans n about plan at of a in record { size = e.size ∙ b.size; lacked = e.lacked ∙ b.lacked }

    only-plans-next : (plan : Plan) → has_plan new plan ≡ true → IsPlanned job (suc s.entered) plan
    only-plans-next plan has = by (next.plans plan)
      where
        by : IsSamePlan old new plan ⊎ IsPlanPhase job s.entered plan → IsPlanned job (suc s.entered) plan
        by (inl e) =
            let p = kept.only_plans plan (sym (ap is_some e.size) ∙ has) in
            record { phase = p.phase; about = p.about; is = p.is; of_plan = p.of_plan; earlier = (let l = p.earlier in omega (arith, l)) }
        by (inr e) = record { phase = s.entered; about = e.about; is = e.is; of_plan = e.of_plan; earlier = omega arith }

    known-next : (n : ℕ) (plan : Plan) (g : ℕ) → about_at job n ≡ Some (SharePlan plan) → n < suc s.entered → stands g (lacking job files plan s.rank) ≡ true
        → owners_of new plan g ≡ owner (layout_of job (owner_map job plan)) g
    known-next n plan g at l on = by (earlier n l)
      where
        by : (n < s.entered) ⊎ (n ≡ s.entered) → owners_of new plan g ≡ owner (layout_of job (owner_map job plan)) g
        by (inl a) = next.known_before n plan g at a on
        by (inr e) = next.known plan g (sym (ap (about_at job) e) ∙ at) on

  pub book-next : (after : View S) → IsBookStage R F job files old view s → AreMade job old s.entered → IsNextBook job files s old new → IsViewOf view after new
      → IsJobStage R F job files after (entering s) → IsBookStage R F job files new after (entering s)
  book-next after kept were_made next has stands_so = record {
    valid = kept.valid;
    fitting = kept.fitting;
    phased = kept.phased;
    stage = stands_so;
    me = next.me ∙ kept.me;
    ranks = next.ranks ∙ kept.ranks;
    directory = has.directory;
    asked = has.asked;
    owners = has.owners;
    told = has.told;
    own = has.own ∙ kept.own;
    maps = maps-next kept next;
    only_maps = only-maps-next kept next;
    plans = plans-next kept next;
    only_plans = only-plans-next kept next;
    known = known-next kept next;
    none_told = λ plan. next.told plan s.rank ∙ kept.none_told plan;
    made = λ plan lists is. kept.made plan lists (sym (next.made plan) ∙ is);
    finished = λ n plan at off l. ap is_some (next.made plan) ∙ were_made n plan at off (omega (arith, l));
  }
