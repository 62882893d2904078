-- A rank's book after a plan was made.
use Rattle.std.proofs.Common.{◌≡◌, ℕ, suc, ◌<◌, ◌≤◌, ◌⊎◌, inl, inr, Bool, true, false, List, [], Some, All, refl, sym, ap, subst, ◌∙◌, arith}
use Rattle.std.specs.Option.{is_some}
use Rattle.std.proofs.lemmas.Bool.{cases_lt}
use Rattle.std.proofs.lemmas.List.{length-map}
use Rattle.std.proofs.lemmas.List.FromFn.{get_or-map-range_with_len, length-map-range_with_len}
use Rattle.scalar_laws.specs.Semiring.{Semiring}
use Rattle.scalar_laws.specs.Conversions.{Conversions}
use Rattle.map_core.specs.Classes.{index_at, indices_at, permuted, place, places}
use Rattle.map_core.specs.Plans.{PlanLists}
use Rattle.mm_text.specs.Reading.{File}
use Rattle.model_defs.specs.declared.job.Job.{Job}
use Rattle.model_defs.specs.declared.phase.About.{About}
use Rattle.model_defs.specs.declared.phase.About.TheVariants.{SharePlan}
use Rattle.model_defs.specs.declared.phase.Plan.{Plan}
use Rattle.model_defs.specs.declared.phase.Plan.TheVariants.{ExportPlan, ImportPlan}
use Rattle.model_defs.specs.Maps.{list_of}
use Rattle.model_defs.specs.Plans.{lacking, owns, remote}
use Rattle.model_defs.specs.Transfers.{same_plan}
use Rattle.rank_plans.specs.Books.{Book, has_plan, lacking_of, made_of, own_of, slices, told_of}
use Rattle.rank_plans.specs.Tasks.{export_of, import_of}
use Rattle.rank_stages.specs.JobStages.{HasLeft, about_at}
use Rattle.rank_stages.proofs.Once.{same-self}
use Rattle.rank_stages.proofs.Owners.{phases_are_left}
use Rattle.rank_stages.proofs.Prepared.{same-is}
use Rattle.rank_transfers.specs.JobRows.{IsJobExport, IsJobImport}
use Rattle.value_phases.specs.ValuePhases.{IsPlanOf, is_of_structure}
use Rattle.plan_phases.specs.BookStages.{IsBookStage, IsMadePlan}
use Rattle.plan_phases.specs.BookCalls.{IsLeavingBook}
use Rattle.plan_phases.proofs.SharedBook.{import-is, shared-begun, shared-held, shared-none, shared-of-job, shared-owns, shared-there, shared-told}

-- the plan that is made is that of the job's import
job-import-is : (job : Job) (files : List File) (source target p : ℕ) (own told : ℕ → List ℕ) → p < job.ranks → job.ranks ≤ 32
    → ((q : ℕ) → own q ≡ remote job files (ImportPlan source target) p q)
    → ((q : ℕ) → q < job.ranks → told q ≡ remote job files (ImportPlan source target) q p)
    → IsJobImport job files source target p (import_of p job.ranks (list_of job source p) (list_of job target p) own told)
job-import-is job files source target p own told known few owns tells =
    let is = import-is job files (ImportPlan source target) p (list_of job source p) (list_of job target p) own told known few owns tells in
    record { is_plan = is.is_plan; ranks = is.ranks; same = is.same; permute_to = is.permute_to; permute_from = is.permute_from; exports = is.exports; remotes = is.remotes }

-- or of the job's export
pub export-is : (job : Job) (files : List File) (source target p : ℕ) (own told : ℕ → List ℕ) → p < job.ranks → job.ranks ≤ 32
    → ((q : ℕ) → own q ≡ remote job files (ExportPlan source target) p q)
    → ((q : ℕ) → q < job.ranks → told q ≡ remote job files (ExportPlan source target) q p)
    → IsJobExport job files source target p (export_of p job.ranks (list_of job source p) (list_of job target p) own told)
export-is job files source target p own told known few owns tells =
    record {
      is_plan = record {
        me = known;
        ranks = few;
        permuted = length-map (indices_at from both) (place to) ∙ length-map both (index_at from);
        exports = length-map-range_with_len (λ q. places from (own q)) 0 job.ranks;
        remotes = length-map-range_with_len (λ q. places to (told q)) 0 job.ranks;
      };
      ranks = refl;
      same = refl;
      permute_to = refl;
      permute_from = refl;
      exports = λ q l. get_or-map-range_with_len (λ q. places from (own q)) 0 job.ranks q q [] l (omega arith) ∙ ap (places from) (owns q);
      remotes = λ q l. get_or-map-range_with_len (λ q. places to (told q)) 0 job.ranks q q [] l (omega arith) ∙ ap (places to) (tells q l);
    }
  where
    from : List ℕ
    from = list_of job source p

    to : List ℕ
    to = list_of job target p

    both : List ℕ
    both = permuted to from

module _ {S : Type 0} (R : Semiring S) (F : Conversions S) (job : Job) (files : List File) (old : Book) (about : About) (e : IsLeavingBook R F job files old about) where
  abbrev n : ℕ
  n = e.phase

  abbrev k : IsBookStage R F job files old e.view e.stage
  k = e.kept

  abbrev p : ℕ
  p = e.stage.rank

  low : n < e.stage.entered
  low = let here = e.here in omega (arith, here)

  -- ---- where no plan between maps was shared, the plans of all phases were made

  pub made-before : ((plan : Plan) → about ≡ SharePlan plan → is_of_structure plan ≡ false → ⊥) → (i : ℕ) (plan : Plan) → about_at job i ≡ Some (SharePlan plan) → is_of_structure plan ≡ false → i < e.stage.entered → is_some (made_of old plan) ≡ true
  made-before other i plan at off l = by (cases_lt (suc i) e.stage.entered)
    where
      by : (suc i < e.stage.entered) ⊎ (e.stage.entered ≤ suc i) → is_some (made_of old plan) ≡ true
      by (inl a) = k.finished i plan at off a
      by (inr a) =
          let same : i ≡ n = (let here = e.here in omega (arith, a, l, here)) in
          let two : Some about ≡ Some (SharePlan plan) = sym e.is ∙ ap (about_at job) (sym same) ∙ at in
          let is : about ≡ SharePlan plan = cc in
          absurd (other plan is off)

  -- ---- where one was

  module _ (plan : Plan) (is : about ≡ SharePlan plan) where
    at : about_at job n ≡ Some (SharePlan plan)
    at = e.is ∙ ap Some is

    left : HasLeft e.stage n
    left = phases_are_left e.stage n e.stage.entered e.all_absorbed (omega arith) low

    pub share-of-job : (i : ℕ) × IsPlanOf job i plan
    share-of-job = shared-of-job R F job files old e.view e.stage k n plan at left

    pub share-owns : (q : ℕ) → own_of old plan q ≡ remote job files plan p q
    share-owns = shared-owns R F job files old e.view e.stage k n plan at left

    pub share-told : (q : ℕ) → q < job.ranks → told_of old plan q ≡ remote job files plan q p
    share-told = shared-told R F job files old e.view e.stage k n plan at left

    pub share-there : has_plan old plan ≡ true
    share-there = shared-there R F job files old e.view e.stage k n plan at left

    pub share-lacking : lacking_of old plan ≡ lacking job files plan old.me
    share-lacking = (shared-begun R F job files old e.view e.stage k n plan at left).lacked ∙ (λ t. lacking job files plan (sym k.me t))

    pub share-none : own_of old plan old.me ≡ []
    share-none = shared-none R F job files old e.view e.stage k n plan at left

    pub share-held : (q : ℕ) → q < old.ranks → All (λ g. owns job files plan old.me g ≡ true) (told_of old plan q)
    share-held = shared-held R F job files old e.view e.stage k n plan at left

    module _ (new : Book) (lists : PlanLists) (good : IsMadePlan job files p plan lists) (makes : made_of new plan ≡ Some lists)
        (others : (o : Plan) → same_plan o plan ≡ false → made_of new o ≡ made_of old o)
        (stays : slices new ≡ record (slices old) { made = made_of new }) where
      made-is : (o : Plan) (found : PlanLists) → made_of new o ≡ Some found → IsMadePlan job files p o found
      made-is o found f = by (same_plan o plan) refl
        where
          by : (b : Bool) → same_plan o plan ≡ b → IsMadePlan job files p o found
          by true g =
              let same : o ≡ plan = same-is o plan g in
              let two : Some lists ≡ Some found = sym makes ∙ (λ t. made_of new (sym same t)) ∙ f in
              let one : lists ≡ found = cc in
              subst (λ r. IsMadePlan job files p r found) (sym same) (subst (IsMadePlan job files p plan) one good)
          by false g = k.made o found (sym (others o g) ∙ f)

      some-made : (o : Plan) → (same_plan o plan ≡ false → is_some (made_of old o) ≡ true) → is_some (made_of new o) ≡ true
      some-made o old_made = by (same_plan o plan) refl
        where
          by : (b : Bool) → same_plan o plan ≡ b → is_some (made_of new o) ≡ true
          by true g = (λ t. is_some (made_of new (same-is o plan g t))) ∙ ap is_some makes
          by false g = ap is_some (others o g) ∙ old_made g

      pub share-finished : IsBookStage R F job files new e.view e.stage
      share-finished = record {
        valid = k.valid;
        fitting = k.fitting;
        phased = k.phased;
        stage = k.stage;
        me = (λ t. (stays t).me) ∙ k.me;
        ranks = (λ t. (stays t).ranks) ∙ k.ranks;
        directory = k.directory ∙ sym (λ t. (stays t).directory);
        asked = k.asked ∙ sym (λ t. (stays t).asked);
        owners = k.owners ∙ sym (λ t. (stays t).owners);
        told = k.told ∙ sym (λ t. (stays t).told);
        own = k.own;
        maps = λ i m at l. (λ t. (stays t).map_size m) ∙ k.maps i m at l;
        only_maps = λ m has. k.only_maps m ((λ t. is_some ((sym stays t).map_size m)) ∙ has);
        plans = λ i a o at of l. let begun = k.plans i a o at of l in record { size = (λ t. (stays t).size o) ∙ begun.size; lacked = (λ t. (stays t).lacking o) ∙ begun.lacked };
        only_plans = λ o has. k.only_plans o ((λ t. is_some ((sym stays t).size o)) ∙ has);
        known = λ i o g at l on. (λ t. (stays t).owners o g) ∙ k.known i o g at l on;
        none_told = λ o. (λ t. (stays t).told o p) ∙ k.none_told o;
        made = made-is;
        finished = λ i o at off l. some-made o (λ g. k.finished i o at off l);
      }

      pub share-made : (i : ℕ) (o : Plan) → about_at job i ≡ Some (SharePlan o) → is_of_structure o ≡ false → i < e.stage.entered → is_some (made_of new o) ≡ true
      share-made i o about_o off l = some-made o (λ g. by g (cases_lt (suc i) e.stage.entered))
        where
          by : same_plan o plan ≡ false → (suc i < e.stage.entered) ⊎ (e.stage.entered ≤ suc i) → is_some (made_of old o) ≡ true
          by g (inl a) = k.finished i o about_o off a
          by g (inr a) =
              let same : i ≡ n = (let here = e.here in omega (arith, a, l, here)) in
              let two : Some (SharePlan plan) ≡ Some (SharePlan o) = sym at ∙ ap (about_at job) (sym same) ∙ about_o in
              let one : plan ≡ o = cc in
              let yes : same_plan o plan ≡ true = (λ t. same_plan o (one t)) ∙ same-self o in
              let bad : ⊥ = cc in absurd bad

  -- the lists that are made of what the book has are those of the job's import or export

  module _ (source target : ℕ) where
    pub share-import : about ≡ SharePlan (ImportPlan source target)
        → IsMadePlan job files p (ImportPlan source target)
        (import_of old.me old.ranks (list_of job source old.me) (list_of job target old.me) (own_of old (ImportPlan source target)) (told_of old (ImportPlan source target)))
    share-import is =
        let plan = ImportPlan source target in
        subst (IsJobImport job files source target p)
        (λ t. import_of (sym k.me t) (sym k.ranks t) (list_of job source (sym k.me t)) (list_of job target (sym k.me t)) (own_of old plan) (told_of old plan))
        (job-import-is job files source target p (own_of old plan) (told_of old plan) k.stage.within k.valid.limits.ranks (share-owns plan is) (share-told plan is))

    pub share-export : about ≡ SharePlan (ExportPlan source target)
        → IsMadePlan job files p (ExportPlan source target)
        (export_of old.me old.ranks (list_of job source old.me) (list_of job target old.me) (own_of old (ExportPlan source target)) (told_of old (ExportPlan source target)))
    share-export is =
        let plan = ExportPlan source target in
        subst (IsJobExport job files source target p)
        (λ t. export_of (sym k.me t) (sym k.ranks t) (list_of job source (sym k.me t)) (list_of job target (sym k.me t)) (own_of old plan) (told_of old plan))
        (export-is job files source target p (own_of old plan) (told_of old plan) k.stage.within k.valid.limits.ranks (share-owns plan is) (share-told plan is))
