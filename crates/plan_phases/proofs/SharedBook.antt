-- What a rank's book has of a plan that was shared, once all letters of its phase came.
use Rattle.std.proofs.Common.{◌≡◌, ℕ, ◌<◌, ◌≤◌, Bool, true, false, cond, not, eqb, List, [], ◌∷◌, Some, All, filter, refl, sym, ap, subst, ◌∙◌, arith}
use Rattle.std.specs.Option.{is_some}
use Rattle.std.proofs.lemmas.Bool.{eqb-true}
use Rattle.std.proofs.lemmas.List.{length-map}
use Rattle.std.proofs.lemmas.List.Elements.{filter_passes}
use Rattle.std.proofs.lemmas.List.FromFn.{get_or-map-range_with_len, length-map-range_with_len}
use Rattle.scalar_laws.specs.Semiring.{Semiring}
use Rattle.scalar_laws.specs.Conversions.{Conversions}
use Rattle.map_core.specs.Classes.{index_at, indices_at, permuted, place, places}
use Rattle.mm_text.specs.Reading.{File}
use Rattle.matrix_arrivals.specs.RowPlans.{IsFromOwners}
use Rattle.rank_phases.specs.Stages.{Stage}
use Rattle.model_defs.specs.declared.job.Job.{Job}
use Rattle.model_defs.specs.declared.phase.About.TheVariants.{SharePlan}
use Rattle.model_defs.specs.declared.phase.Plan.{Plan}
use Rattle.model_defs.specs.Plans.{lacking, owns, rank_list_by, remote}
use Rattle.model_defs.specs.Transfers.{owner_map}
use Rattle.model_defs.specs.Valid.{IsOwnerMap}
use Rattle.rank_plans.specs.Books.{Book, has_plan, own_of, told_of}
use Rattle.rank_plans.specs.Tasks.{import_of}
use Rattle.rank_stages.specs.JobStages.{HasLeft, about_at}
use Rattle.rank_stages.specs.Views.{View}
use Rattle.rank_stages.proofs.Owners.{lists_are_told}
use Rattle.value_phases.specs.ValuePhases.{IsPlanOf}
use Rattle.plan_phases.specs.BookStages.{IsBegun, IsBookStage}
use Rattle.plan_phases.proofs.WordsStage.{one-owner, own-remote, plan-begun, plan-of-job}

-- none lacks what it owns
pub none-own : (test : ℕ → Bool) (xs : List ℕ) → filter test (filter (λ g. not (test g)) xs) ≡ []
none-own test [] = refl
none-own test (x ∷ xs) = go (test x) refl (none-own test xs)
  where
    go : (b : Bool) → test x ≡ b → filter test (filter (λ g. not (test g)) xs) ≡ [] → filter test (cond (not b) (x ∷ filter (λ g. not (test g)) xs) (filter (λ g. not (test g)) xs)) ≡ []
    go true e rest = rest
    go false e rest = ap (λ b. cond b (x ∷ filter test (filter (λ g. not (test g)) xs)) (filter test (filter (λ g. not (test g)) xs))) e ∙ rest

-- the plan that is made of two lists is that from the rank's own indices to its list
pub import-is : (job : Job) (files : List File) (plan : Plan) (p : ℕ) (from to : List ℕ) (own told : ℕ → List ℕ) → p < job.ranks → job.ranks ≤ 32
    → ((q : ℕ) → own q ≡ remote job files plan p q)
    → ((q : ℕ) → q < job.ranks → told q ≡ remote job files plan q p)
    → IsFromOwners job files plan p from to (import_of p job.ranks from to own told)
import-is job files plan p from to own told known few owns tells =
    record {
      is_plan = record {
        me = known;
        ranks = few;
        permuted = sym (length-map (indices_at to both) (place from) ∙ length-map both (index_at to));
        exports = length-map-range_with_len (λ q. places from (told q)) 0 job.ranks;
        remotes = length-map-range_with_len (λ q. places to (own q)) 0 job.ranks;
      };
      ranks = refl;
      same = refl;
      permute_to = refl;
      permute_from = refl;
      exports = λ q l. get_or-map-range_with_len (λ q. places from (told q)) 0 job.ranks q q [] l (omega arith) ∙ ap (places from) (tells q l);
      remotes = λ q l. get_or-map-range_with_len (λ q. places to (own q)) 0 job.ranks q q [] l (omega arith) ∙ ap (places to) (owns q);
    }
  where
    both : List ℕ
    both = permuted from to

module _ {S : Type 0} (R : Semiring S) (F : Conversions S) (job : Job) (files : List File) (b : Book) (view : View S) (s : Stage)
    (k : IsBookStage R F job files b view s) (n : ℕ) (plan : Plan) (at : about_at job n ≡ Some (SharePlan plan)) (left : HasLeft s n) where
  low : n < s.entered
  low = left.entered

  abbrev p : ℕ
  p = s.rank

  pub shared-of-job : (i : ℕ) × IsPlanOf job i plan
  shared-of-job = plan-of-job R F job files b view s k n (SharePlan plan) at low plan refl

  pub shared-begun : IsBegun job files b p plan
  shared-begun = plan-begun R F job files b view s k n (SharePlan plan) at low plan refl

  pub shared-one : IsOwnerMap job (owner_map job plan)
  shared-one = one-owner R F job files b view s k n (SharePlan plan) at low (owner_map job plan) refl

  pub shared-owns : (q : ℕ) → own_of b plan q ≡ remote job files plan p q
  shared-owns = own-remote R F job files b view s k n (SharePlan plan) at low plan refl

  pub shared-told : (q : ℕ) → q < job.ranks → told_of b plan q ≡ remote job files plan q p
  shared-told q l = by (eqb q p) refl
    where
      by : (c : Bool) → eqb q p ≡ c → told_of b plan q ≡ remote job files plan q p
      by true f =
          let same = eqb-true q p f in
          ap (told_of b plan) same ∙ k.none_told plan
          ∙ sym (none-own (owns job files plan p) (rank_list_by job files plan p))
          ∙ (λ t. remote job files plan (sym same t) p)
      by false f =
          (λ t. sym k.told t plan q)
          ∙ lists_are_told R F job files view s n q plan k.stage at left l f

  pub shared-there : has_plan b plan ≡ true
  shared-there = ap is_some shared-begun.size

  pub shared-none : own_of b plan b.me ≡ []
  shared-none = shared-owns b.me ∙ (λ t. remote job files plan p (k.me t)) ∙ none-own (owns job files plan p) (rank_list_by job files plan p)

  pub shared-held : (q : ℕ) → q < b.ranks → All (λ g. owns job files plan b.me g ≡ true) (told_of b plan q)
  shared-held q l =
      let known : q < job.ranks = subst (λ P. q < P) k.ranks l in
      let is_told : remote job files plan q b.me ≡ told_of b plan q = (λ t. remote job files plan q (k.me t)) ∙ sym (shared-told q known) in
      subst (All (λ g. owns job files plan b.me g ≡ true)) is_told (filter_passes (owns job files plan b.me) (lacking job files plan q))
