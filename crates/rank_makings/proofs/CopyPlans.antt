-- The plan of a value that is made of the cells of another one, and the rank's lists that it goes between.
use Rattle.std.proofs.Common.{◌≡◌, ℕ, suc, ◌<◌, ◌⊎◌, inl, inr, Bool, true, false, cond, eqb, List, [], ◌∷◌, length, get_or, refl, sym, ap, ◌∙◌, subst, arith}
use Rattle.std.proofs.lemmas.Bool.{eqb-true, eqb-false, eq-eqb, ne_eqb}
use Rattle.std.proofs.lemmas.Option.{same_Some}
use Rattle.scalar_laws.specs.Semiring.{Semiring}
use Rattle.scalar_laws.specs.Conversions.{Conversions}
use Rattle.map_core.specs.Classes.{same_count}
use Rattle.map_core.specs.Plans.{PlanLists, reversed}
use Rattle.mm_text.specs.Reading.{File}
use Rattle.peers.specs.Protocols.{Letter}
use Rattle.model_defs.specs.declared.job.Job.{Job}
use Rattle.model_defs.specs.declared.job.Step.{Step}
use Rattle.model_defs.specs.declared.job.Step.TheVariants as step
use Rattle.model_defs.specs.declared.phase.Plan.TheVariants.{ExportPlan, ImportPlan}
use Rattle.model_defs.specs.declared.phase.Transfer.{Transfer}
use Rattle.model_defs.specs.declared.shape.Shape.{Shape}
use Rattle.model_defs.specs.Makers.{Maker, Made, maker_of}
use Rattle.model_defs.specs.Maps.{list_of}
use Rattle.model_defs.specs.Shapes.{shape}
use Rattle.model_defs.specs.Stages.{transfer_at}
use Rattle.model_defs.specs.Transfers.{from_owners, to_owners}
use Rattle.model_defs.specs.Valid.{IsValid}
use Rattle.rank_stages.specs.DataLaws.{copied_by}
use Rattle.rank_transfers.specs.Arrivals.{HasFewRows}
use Rattle.rank_transfers.specs.JobRows.{IsJobExport, IsJobImport}
use Rattle.rank_transfers.proofs.Exports.{exports-can-begin}
use Rattle.rank_transfers.proofs.Imports.{imports-can-begin}
use Rattle.matrix_arrivals.specs.RowPlans.{IsFromOwners, IsServing}
use Rattle.matrix_arrivals.proofs.Served.{from-owners-serve, imports-are-from-owners, job-lists-are-listed, to-owners-serve}
use Rattle.plan_phases.specs.BookStages.{IsMadePlan}
use Rattle.value_phases.specs.ValuePhases.{copy_transfer}
use Rattle.rank_pieces.specs.declared.pieces.Piece.{Piece}
use Rattle.rank_makings.specs.Comings.{IsBetween}
use Rattle.rank_makings.specs.Copying.{IsCopying}
use Rattle.rank_makings.specs.Lists.{source_list, target_list}

-- ---- an export is an import on the way back

eqb-turned : (x y : ℕ) → eqb x y ≡ eqb y x
eqb-turned x y = by (eqb x y) refl
  where
    by : (b : Bool) → eqb x y ≡ b → b ≡ eqb y x
    by true e = sym (eq-eqb y x (sym (eqb-true x y e)))
    by false e = sym (ne_eqb y x (λ same. eqb-false x y e (sym same)))

same-turned : (xs ys : List ℕ) → same_count xs ys ≡ same_count ys xs
same-turned [] [] = refl
same-turned [] (y ∷ ys) = refl
same-turned (x ∷ xs) [] = refl
same-turned (x ∷ xs) (y ∷ ys) = λ i. cond (eqb-turned x y i) (suc (same-turned xs ys i)) 0

export-back : (job : Job) (files : List File) (source target p : ℕ) (plan : PlanLists) → IsJobExport job files source target p plan
    → IsFromOwners job files (ExportPlan source target) p (list_of job target p) (list_of job source p) (reversed plan)
export-back job files source target p plan is = record {
  is_plan = record { me = is.is_plan.me; ranks = is.is_plan.ranks; permuted = sym is.is_plan.permuted; exports = is.is_plan.remotes; remotes = is.is_plan.exports };
  ranks = is.ranks;
  same = is.same ∙ same-turned (list_of job source p) (list_of job target p);
  permute_to = is.permute_from;
  permute_from = is.permute_to;
  exports = is.remotes;
  remotes = is.exports;
}

-- ---- what serves a copy

-- A plan between these maps serves a transfer, and sends few rows.
pub record Serves (job : Job) (files : List File) (me source target : ℕ) (t : Transfer) (plan : PlanLists) : Type 0 where
  pub serves : IsServing job files t me (list_of job source me) (list_of job target me) plan
  pub few_rows : HasFewRows plan

pub import-serves : (job : Job) (files : List File) (me source target : ℕ) (plan : PlanLists) → IsValid job → IsJobImport job files source target me plan
    → Serves job files me source target (from_owners (ImportPlan source target)) plan
import-serves job files me source target plan valid is = record {
  serves =
      from-owners-serve job files (ImportPlan source target) me (list_of job source me) (list_of job target me) plan valid
      (job-lists-are-listed job files (ImportPlan source target) me valid) (imports-are-from-owners job files source target me plan is);
  few_rows = (imports-can-begin job files source target me plan valid is).few_rows;
}

export-serves : (job : Job) (files : List File) (me source target : ℕ) (plan : PlanLists) → IsValid job → IsJobExport job files source target me plan
    → Serves job files me source target (to_owners (ExportPlan source target)) plan
export-serves job files me source target plan valid is = record {
  serves =
      to-owners-serve job files (ExportPlan source target) me (list_of job target me) (list_of job source me) (reversed plan) valid
      (job-lists-are-listed job files (ExportPlan source target) me valid) (export-back job files source target me plan is);
  few_rows = (exports-can-begin job files source target me plan valid is).few_rows;
}

module _ (job : Job) (files : List File) (me k source : ℕ) where
  -- a copy comes from the owners of the source, or goes to the owners of the value
  abbrev IsWay : Transfer → Type 0
  IsWay t = (t ≡ from_owners (ImportPlan (shape job source).rows (shape job k).rows)) ⊎ (t ≡ to_owners (ExportPlan (shape job source).rows (shape job k).rows))

  way : (m : Maker) → IsWay (copy_transfer job k source m)
  way (Made (step.Export name x onto mode)) = inr refl
  way m = inl refl

  abbrev AreServed : Transfer → PlanLists → Type 0
  AreServed t plan = Serves job files me (shape job source).rows (shape job k).rows t plan

  serves-by : (t : Transfer) (plan : PlanLists) → IsValid job → IsWay t → IsMadePlan job files me t.plan plan → AreServed t plan
  serves-by t plan valid (inl e) made =
      subst (λ u. AreServed u plan) (sym e)
      (import-serves job files me (shape job source).rows (shape job k).rows plan valid (subst (λ u. IsMadePlan job files me u.plan plan) e made))
  serves-by t plan valid (inr e) made =
      subst (λ u. AreServed u plan) (sym e)
      (export-serves job files me (shape job source).rows (shape job k).rows plan valid (subst (λ u. IsMadePlan job files me u.plan plan) e made))

  -- its lists are those of the two maps
  module _ {S : Type 0} (pieces : List (Piece S)) where
    sources-by : (t : Transfer) → IsWay t → source_list job files me pieces t ≡ list_of job (shape job source).rows me
    sources-by t (inl e) = ap (source_list job files me pieces) e
    sources-by t (inr e) = ap (source_list job files me pieces) e

    targets-by : (t : Transfer) → IsWay t → target_list job files me pieces t ≡ list_of job (shape job k).rows me
    targets-by t (inl e) = ap (target_list job files me pieces) e
    targets-by t (inr e) = ap (target_list job files me pieces) e

module _ {S : Type 0} {R : Semiring S} {F : Conversions S} {job : Job} {files : List File} {me : ℕ} {pieces : List (Piece S)} {given : List Letter} {k stage : ℕ} {s : Step} {here : Shape}
    {source : ℕ} {plan : PlanLists} (c : IsCopying R F job files me pieces given k stage s here source plan) where
  pub valid : IsValid job
  valid = c.at.input.valid

  pub source-is : source ≡ c.copy.source
  source-is = same_Some source c.copy.source (sym c.copied ∙ ap copied_by c.step_is ∙ c.copy.copied)

  pub before : source < k
  before = subst (λ v. v < k) (sym source-is) c.copy.before

  -- it has one stage
  pub first : stage ≡ 0
  first = let known = c.known in let one = ap (λ ts. length ts) c.copy.transfers in omega (arith, known, one)

  pub transfer-is : transfer_at job k stage ≡ copy_transfer job k source (maker_of job k)
  transfer-is = (λ i. get_or (c.copy.transfers i) (first i) (from_owners (ImportPlan 0 0))) ∙ ap (λ v. copy_transfer job k v (maker_of job k)) (sym source-is)

  is-way : IsWay job files me k source (transfer_at job k stage)
  is-way = subst (IsWay job files me k source) (sym transfer-is) (way job files me k source (maker_of job k))

  pub served : Serves job files me (shape job source).rows (shape job k).rows (transfer_at job k stage) plan
  served = serves-by job files me k source (transfer_at job k stage) plan valid is-way c.made

  -- the plan goes between these lists
  pub between : (from to : List ℕ) → from ≡ list_of job (shape job source).rows me → to ≡ list_of job (shape job k).rows me → IsBetween R F job files me pieces given k stage from to plan
  between from to from_is to_is = record {
    valid = valid;
    fitting = c.at.input.fitting;
    within = c.at.input.rank;
    below = c.copy.below;
    known = c.known;
    source_is = from_is ∙ sym (sources-by job files me k source pieces (transfer_at job k stage) is-way);
    target_is = to_is ∙ sym (targets-by job files me k source pieces (transfer_at job k stage) is-way);
    serves =
        subst (λ l. IsServing job files (transfer_at job k stage) me l to plan) (sym from_is)
        (subst (λ l. IsServing job files (transfer_at job k stage) me (list_of job (shape job source).rows me) l plan) (sym to_is) served.serves);
  }
