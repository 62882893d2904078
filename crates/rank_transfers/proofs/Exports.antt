-- The plan of an export of a rank of a job: on the way back it is an import.
use Rattle.std.proofs.Common.{◌≡◌, ℕ, suc, ◌<◌, ◌≤◌, Bool, true, false, cond, not, eqb, List, [], ◌∷◌, length, None, inl, inr, refl, sym, ap, subst, ◌∙◌, arith}
use Rattle.std.proofs.lemmas.Bool.{cases_lt, eqb-true, eqb-false, eq-eqb, ne_eqb}
use Rattle.std.proofs.lemmas.List.{length-map}
use Rattle.tables.specs.Indices.{stands, AreBelow, AreDistinct}
use Rattle.map_core.specs.Classes.{indices_at, place, same_count}
use Rattle.map_core.specs.Plans.{PlanLists, export_list, remote_list, reversed}
use Rattle.map_core.proofs.Members.{AreDistinct-filter}
use Rattle.vector_moves.specs.Moves.{AreMoves, own_sources, own_targets}
use Rattle.vector_moves.proofs.Positions.{distinct-indices}
use Rattle.mm_text.specs.Reading.{File}
use Rattle.model_defs.specs.declared.job.Job.{Job}
use Rattle.model_defs.specs.Maps.{list_of}
use Rattle.model_defs.specs.Plans.{lacking, owns, passes, remote}
use Rattle.model_defs.specs.declared.phase.Plan.TheVariants.{ExportPlan}
use Rattle.model_defs.specs.Transfers.{to_owners}
use Rattle.model_defs.specs.Valid.{IsValid}
use Rattle.model_defs.proofs.Bounds.{maps-are-layouts}
use Rattle.rank_stages.proofs.ShortLists.{sent-few}
use Rattle.rank_values.specs.Vectors.{global_table}
use Rattle.rank_transfers.specs.Arrivals.{HasFewRows, HasTargets}
use Rattle.rank_transfers.specs.JobRows.{IsJobExport, IsJobImport, ExportsAreSent, ExportsCanBegin, ExportsCome, OwnExportsAreBrought}
use Rattle.rank_transfers.proofs.Imports.{come, lacked-placed, own-test, sent, sent-placed, stays}
use Rattle.rank_transfers.proofs.Listed.{beyond-list, distinct-places, distinct-positions}

eqb-turned : (x y : ℕ) → eqb x y ≡ eqb y x
eqb-turned x y = by (eqb x y) refl
  where
    by : (b : Bool) → eqb x y ≡ b → b ≡ eqb y x
    by true e = sym (eq-eqb y x (sym (eqb-true x y e)))
    by false e = sym (ne_eqb y x (λ same. eqb-false x y e (sym same)))

same-turned : (xs ys : List ℕ) → same_count xs ys ≡ same_count ys xs
same-turned [] [] = refl
same-turned [] (y ∷ ys) = refl
same-turned (x ∷ xs) [] = refl
same-turned (x ∷ xs) (y ∷ ys) = λ i. cond (eqb-turned x y i) (suc (same-turned xs ys i)) 0

-- rows that move from one list to another move back where no index stands twice
turned : (xs ys froms tos : List ℕ) → AreMoves xs ys froms tos → AreDistinct ys → AreMoves ys xs tos froms
turned xs ys froms tos moves d =
    let P : List ℕ → Type 0 = AreDistinct in
    record {
      sources = moves.targets;
      targets = moves.sources;
      indices = sym moves.indices;
      once = distinct-positions xs froms (subst P (sym moves.indices) (distinct-indices ys tos d moves.targets moves.once));
    }

module _ (job : Job) (files : List File) (source target p : ℕ) (plan : PlanLists) (is : IsJobExport job files source target p plan) where
  -- the way back: what a rank gives it lacks there, and what it is given is its own
  back : IsJobImport job files target source p (reversed plan)
  back =
      record {
        is_plan = record { me = is.is_plan.me; ranks = is.is_plan.ranks; permuted = sym is.is_plan.permuted; exports = is.is_plan.remotes; remotes = is.is_plan.exports };
        ranks = is.ranks;
        same = is.same ∙ same-turned (list_of job source p) (list_of job target p);
        permute_to = is.permute_from;
        permute_from = is.permute_to;
        exports = is.remotes;
        remotes = is.exports;
      }

  pub back-sent : (q : ℕ) → q < job.ranks
      → (indices_at (list_of job source p) (export_list plan q) ≡ remote job files (ExportPlan source target) p q) × AreBelow (length (list_of job source p)) (export_list plan q)
  back-sent q l =
      let P : List ℕ → Type 0 = AreBelow (length (list_of job source p)) in
      let are = lacked-placed job files target source p q in
      (come job files target source p (reversed plan) back q l, subst P (sym (is.exports q l)) are.below)

  pub back-come : (q : ℕ) → q < job.ranks
      → (indices_at (list_of job target p) (remote_list plan q) ≡ remote job files (ExportPlan source target) q p) × AreBelow (length (list_of job target p)) (remote_list plan q)
  back-come q l = sent job files target source p (reversed plan) back q l

  moves : AreMoves (list_of job target p) (list_of job source p) (own_targets plan) (own_sources plan)
  moves = stays job files target source p (reversed plan) back

  pub kept-test : (g : ℕ) → stands g (indices_at (list_of job source p) (own_sources plan)) ≡ passes job files (to_owners (ExportPlan source target)) p p g
  kept-test g = ap (stands g) (sym moves.indices) ∙ own-test job files target source p (reversed plan) back g

  module _ (valid : IsValid job) where
    pub forth : AreMoves (list_of job source p) (list_of job target p) (own_sources plan) (own_targets plan)
    forth = turned (list_of job target p) (list_of job source p) (own_targets plan) (own_sources plan) moves ((maps-are-layouts job source valid).0.distinct p)

    pub few-given : HasFewRows plan
    few-given q = elim (cases_lt q job.ranks) [
      | inl l ↦
          let same : length (export_list plan q) ≡ length (remote job files (ExportPlan source target) p q) = ap length (is.exports q l) ∙ length-map (remote job files (ExportPlan source target) p q) (place (list_of job source p)) in
          let most : length (remote job files (ExportPlan source target) p q) ≤ 1099511627776 = sent-few job files valid (to_owners (ExportPlan source target)) p q in
          omega (arith, same, most)
      | inr l ↦
          let same : length (export_list plan q) ≡ 0 = ap length (beyond-list plan.exports q (omega (arith, l, is.is_plan.exports, is.ranks))) in
          omega (arith, same)
    ]

    pub targets-once : HasTargets plan (list_of job target p)
    targets-once =
        let B : List ℕ → Type 0 = AreBelow (length (list_of job target p)) in
        let D : List ℕ → Type 0 = AreDistinct in
        record {
          below = λ q. elim (cases_lt q job.ranks) [
            | inl l ↦ (back-come q l).1
            | inr l ↦ subst B (sym (beyond-list plan.remotes q (omega (arith, l, is.is_plan.remotes, is.ranks)))) tt
          ];
          once = λ q. elim (cases_lt q job.ranks) [
            | inl l ↦
                subst D (sym (is.remotes q l))
                (distinct-places (list_of job target p) (remote job files (ExportPlan source target) q p) (sent-placed job files target source p q) (given-once q))
            | inr l ↦ subst D (sym (beyond-list plan.remotes q (omega (arith, l, is.is_plan.remotes, is.ranks)))) tt
          ];
        }
      where
        given-once : (q : ℕ) → AreDistinct (remote job files (ExportPlan source target) q p)
        given-once q =
            AreDistinct-filter (owns job files (ExportPlan source target) p) (lacking job files (ExportPlan source target) q)
            (AreDistinct-filter (λ g. not (owns job files (ExportPlan source target) q g)) (list_of job source q) ((maps-are-layouts job source valid).0.distinct q))

pub exports-can-begin : ExportsCanBegin
exports-can-begin job files source target p plan valid is =
    record {
      own = forth job files source target p plan is valid;
      targets = targets-once job files source target p plan is valid;
      few_rows = few-given job files source target p plan is valid;
    }

pub exports-are-sent : ExportsAreSent
exports-are-sent job files source target p q plan is l = back-sent job files source target p plan is q l

pub exports-come : ExportsCome
exports-come job files source target p q plan is l = (back-come job files source target p plan is q l).0

pub own-exports-are-brought : {S : Type 0} → OwnExportsAreBrought S
own-exports-are-brought job files source target p plan v is e = λ t g j.
    cond ((ap (λ list. stands g (indices_at list (own_sources plan))) e ∙ kept-test job files source target p plan is g) t) (global_table v g j) None
