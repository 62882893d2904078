-- What a rank's book has in a phase that was entered.
use Rattle.std.proofs.Common.{◌≡◌, ℕ, ◌<◌, ◌≤◌, true, List, get_or, All, Option, None, Some, filter, map, length, refl, sym, ap, subst, ◌∙◌, arith}
use Rattle.std.specs.Prelude.{slice_get}
use Rattle.std.specs.Option.{is_some}
use Rattle.scalar_laws.specs.Semiring.{Semiring}
use Rattle.scalar_laws.specs.Conversions.{Conversions}
use Rattle.map_core.specs.Layouts.{owner, stands}
use Rattle.map_core.specs.Classes.{owns}
use Rattle.mm_text.specs.Reading.{File}
use Rattle.rank_phases.specs.Stages.{Stage}
use Rattle.model_defs.specs.declared.job.Job.{Job}
use Rattle.model_defs.specs.declared.phase.About.{About}
use Rattle.model_defs.specs.declared.phase.About.TheVariants.{RegisterMap, AskOwners, TellOwners, SharePlan}
use Rattle.model_defs.specs.declared.phase.Plan.{Plan}
use Rattle.model_defs.specs.Letters.{entries_about}
use Rattle.model_defs.specs.Limits.{IsSmallForm}
use Rattle.model_defs.specs.declared.job.MapForm.{MapForm}
use Rattle.model_defs.specs.declared.job.MapForm.TheVariants.{Uniform, Blocks, Cyclic, Lists}
use Rattle.model_defs.specs.Maps.{layout_of, list_of, map_at, size_of}
use Rattle.model_defs.specs.Phases.{phases}
use Rattle.model_defs.specs.Plans.{lacking, remote}
use Rattle.model_defs.specs.Transfers.{owner_map}
use Rattle.model_defs.specs.Valid.{IsOwnerMap, IsValid}
use Rattle.model_defs.proofs.Bounds.{maps-are-layouts}
use Rattle.model_defs.proofs.Filters.{filter-ext}
use Rattle.rank_plans.specs.Answers.{word_of}
use Rattle.rank_plans.specs.Books.{Book, asked_of, directory_of, has_map, has_plan, owners_of, own_of}
use Rattle.rank_plans.proofs.Joined.{own_lists_are_remote}
use Rattle.rank_share.proofs.Maps.{small-at}
use Rattle.rank_share.proofs.Rising.{stands-get_or}
use Rattle.rank_stages.specs.JobStages.{HasLeft, about_at}
use Rattle.rank_stages.specs.OwnerLaws.{is_rank, map_about, plan_about}
use Rattle.rank_stages.specs.PhaseOrder.{IsEarlierAbout, IsPrepared}
use Rattle.rank_stages.specs.Views.{View}
use Rattle.rank_stages.proofs.Owners.{answers_are_owners, earlier_phases_are_left, indices_have_one_owner, remotes_are_by_owners}
use Rattle.rank_stages.proofs.Prepared.{phases_are_prepared}
use Rattle.value_phases.specs.ValuePhases.{IsPlanOf}
use Rattle.plan_phases.specs.BookStages.{IsBegun, IsBookStage}
use Rattle.plan_phases.proofs.MapPlans.{phase-of}

-- a map of the job has at most 2^40 indices
pub sizes-small : (job : Job) (m : ℕ) → IsValid job → m < length job.maps → size_of job m ≤ 1099511627776
sizes-small job m valid known = by (map_at job m).form (small-at job valid m known (map_at job m) refl (map_at job m).form refl)
  where
    by : (form : MapForm) → IsSmallForm (size_of job m) form → size_of job m ≤ 1099511627776
    by Uniform h = omega (arith, h)
    by (Blocks counts) h = omega (arith, h)
    by Cyclic h = omega (arith, h)
    by (Lists lists) h = h.0

-- and its lists are of indices below its size
pub list-below : (job : Job) (m p size : ℕ) (xs : List ℕ) → IsValid job → xs ≡ list_of job m p → size ≡ size_of job m → All (λ g. g < size) xs
list-below job m p size xs valid list same i d l =
    let on : stands (get_or xs i d) (list_of job m p) ≡ true = ap (stands (get_or xs i d)) (sym list) ∙ stands-get_or xs i d l in
    let below : get_or xs i d < size_of job m = (maps-are-layouts job m valid).0.below p (get_or xs i d) on in
    subst (λ n. get_or xs i d < n) (sym same) below

owned-same : (q : ℕ) (o : Option ℕ) → owns o q ≡ is_rank q o
owned-same q None = refl
owned-same q (Some p) = refl

module _ {S : Type 0} (R : Semiring S) (F : Conversions S) (job : Job) (files : List File) (b : Book) (view : View S) (s : Stage)
    (k : IsBookStage R F job files b view s) (n : ℕ) (about : About) (at : about_at job n ≡ Some about) (l : n < s.entered) where
  pub map-known : (m : ℕ) → about ≡ RegisterMap m → m < length job.maps
  map-known m is = k.phased.maps n m (at ∙ ap Some is)

  pub map-there : (m : ℕ) → about ≡ RegisterMap m → has_map b m ≡ true
  map-there m is = ap is_some (k.maps n m (at ∙ ap Some is) l)

  pub plan-begun : (plan : Plan) → plan_about about ≡ Some plan → IsBegun job files b s.rank plan
  plan-begun plan of = k.plans n about plan at of l

  pub plan-there : (plan : Plan) → plan_about about ≡ Some plan → has_plan b plan ≡ true
  plan-there plan of = ap is_some (plan-begun plan of).size

  pub plan-of-job : (plan : Plan) → plan_about about ≡ Some plan → (i : ℕ) × IsPlanOf job i plan
  plan-of-job plan of =
      let found = phase-of (slice_get (phases job) n) about at in
      (found.0.value, k.phased.plans n found.0 plan found.1.0 (ap plan_about found.1.1 ∙ of))

  pub one-owner : (m : ℕ) → map_about job about ≡ Some m → IsOwnerMap job m
  one-owner m of = indices_have_one_owner job n m about k.valid at of

  -- what it lacks of each rank, by the owners that it knows
  pub own-remote : (plan : Plan) → about ≡ SharePlan plan → (q : ℕ) → own_of b plan q ≡ remote job files plan s.rank q
  own-remote plan is q =
      let begun = plan-begun plan (ap plan_about is) in
      let one = (one-owner (owner_map job plan) (ap (map_about job) is)).1 in
      ap (λ xs. filter (λ g. owns (owners_of b plan g) q) xs) begun.lacked
      ∙ own_lists_are_remote job files plan s.rank q (owners_of b plan) (λ g on. k.known n plan g (at ∙ ap Some is) l on)
      ∙ filter-ext (λ g. owns (owner (layout_of job (owner_map job plan)) g) q) (λ g. is_rank q (owner (layout_of job (owner_map job plan)) g))
      (λ g. owned-same q (owner (layout_of job (owner_map job plan)) g)) (lacking job files plan s.rank)
      ∙ sym (remotes_are_by_owners job files plan s.rank q one)

  prepared : IsPrepared job n about
  prepared = phases_are_prepared job files n about k.valid k.fitting at

  left : (a : About) (h : IsEarlierAbout job n a) → HasLeft s h.phase
  left a h = earlier_phases_are_left R F job files view s h.phase k.stage (let before = h.before in omega (arith, before, l))

  -- the directory of a plan that is told is there
  pub owners-there : (plan : Plan) → about ≡ TellOwners plan → has_map b (owner_map job plan) ≡ true
  owners-there plan is =
      let before = (let P : About → Type 0 = IsPrepared job n in subst P is prepared).0 in
      ap is_some (k.maps before.phase (owner_map job plan) before.is_about (let low = before.before in omega (arith, low, l)))

  -- and has the owners that are answered
  pub answers-told : (plan : Plan) → about ≡ TellOwners plan → (i q : ℕ) → q < job.ranks
      → map (λ g. word_of (directory_of b (owner_map job plan) g)) (asked_of b plan q) ≡ entries_about job files i about s.rank q
  answers-told plan is i q known =
      let both = (let P : About → Type 0 = IsPrepared job n in subst P is prepared) in
      (λ t. map (λ g. word_of (sym k.directory t (owner_map job plan) g)) (sym k.asked t plan q))
      ∙ sym (answers_are_owners R F job files view s both.0.phase both.1.phase i q plan k.valid k.stage both.0.is_about
      (left (RegisterMap (owner_map job plan)) both.0) both.1.is_about (left (AskOwners plan) both.1) known)
      ∙ ap (λ a. entries_about job files i a s.rank q) (sym is)
