-- The plan of an import of a rank of a job.
use Rattle.std.proofs.Common.{◌≡◌, ℕ, ◌<◌, ◌≤◌, Bool, true, ◌&&◌, cond, not, List, [], ◌++◌, length, filter, None, inl, inr, refl, sym, ap, subst, ◌∙◌, arith}
use Rattle.std.proofs.lemmas.Bool.{cases_lt, eq-eqb}
use Rattle.std.proofs.lemmas.List.{length-map}
use Rattle.tables.specs.Indices.{stands, AreBelow, AreDistinct, count_from}
use Rattle.map_core.specs.Classes.{indices_at, place}
use Rattle.map_core.specs.Plans.{PlanLists, export_list, remote_list}
use Rattle.map_core.proofs.Accepted.{ArePlaced}
use Rattle.map_core.proofs.Members.{AreDistinct-filter, and_true, stands-filter}
use Rattle.import_plan.specs.Imports.{Import, import_lists}
use Rattle.vector_moves.specs.Moves.{AreMoves, own_sources, own_targets}
use Rattle.vector_moves.proofs.Wanted.{own-moves}
use Rattle.mm_text.specs.Reading.{File}
use Rattle.model_defs.specs.declared.job.Job.{Job}
use Rattle.model_defs.specs.Maps.{list_of}
use Rattle.model_defs.specs.Plans.{lacking, owns, passes, remote}
use Rattle.model_defs.specs.declared.phase.Plan.{Plan}
use Rattle.model_defs.specs.declared.phase.Plan.TheVariants.{ImportPlan}
use Rattle.model_defs.specs.Transfers.{from_owners}
use Rattle.model_defs.specs.Valid.{IsValid}
use Rattle.model_defs.proofs.Bounds.{maps-are-layouts}
use Rattle.model_defs.proofs.Filters.{and}
use Rattle.rank_stages.proofs.ShortLists.{sent-few}
use Rattle.rank_values.specs.Vectors.{global_table}
use Rattle.rank_transfers.specs.Arrivals.{HasFewRows, HasTargets}
use Rattle.rank_transfers.specs.JobRows.{IsJobImport, ImportsCanBegin, OwnRowsAreBrought, RowsAreSent, RowsCome}
use Rattle.rank_transfers.proofs.Listed.{all-placed, both-kept, beyond-list, distinct-places, in-list, same-test}

module _ (job : Job) (files : List File) (source target p : ℕ) where
  abbrev plan_of : Plan
  plan_of = ImportPlan source target

  kept : (test : ℕ → Bool) (g : ℕ) (xs : List ℕ) → stands g (filter test xs) ≡ true → (stands g xs ≡ true) × (test g ≡ true)
  kept test g xs e = and_true (stands g xs) (test g) (sym (stands-filter g test xs) ∙ e)

  -- what another rank lacks of it is its own, and what it lacks is of its target
  pub sent-placed : (q : ℕ) → ArePlaced (list_of job source p) (remote job files plan_of q p)
  sent-placed q = all-placed (list_of job source p) (remote job files plan_of q p) (λ g e. (kept (owns job files plan_of p) g (lacking job files plan_of q) e).1)

  pub lacked-placed : (q : ℕ) → ArePlaced (list_of job target p) (remote job files plan_of p q)
  lacked-placed q =
      all-placed (list_of job target p) (remote job files plan_of p q)
      (λ g e. (kept (λ x. not (owns job files plan_of p x)) g (list_of job target p) (kept (owns job files plan_of q) g (lacking job files plan_of p) e).0).0)

  module _ (plan : PlanLists) (is : IsJobImport job files source target p plan) where
    pub sent : (q : ℕ) → q < job.ranks
        → (indices_at (list_of job source p) (export_list plan q) ≡ remote job files plan_of q p) × AreBelow (length (list_of job source p)) (export_list plan q)
    sent q l =
        let P : List ℕ → Type 0 = AreBelow (length (list_of job source p)) in
        let are = sent-placed q in
        (ap (indices_at (list_of job source p)) (is.exports q l) ∙ are.indices, subst P (sym (is.exports q l)) are.below)

    pub come : (q : ℕ) → q < job.ranks → indices_at (list_of job target p) (remote_list plan q) ≡ remote job files plan_of p q
    come q l = let are = lacked-placed q in ap (indices_at (list_of job target p)) (is.remotes q l) ∙ are.indices

    -- what stays
    abbrev own : Import
    own = record { me = p; ranks = job.ranks; source = list_of job source p; target = list_of job target p; wanted = []; wants = [] }

    sources-are : own_sources plan ≡ own_sources (import_lists own)
    sources-are = λ t. count_from 0 (is.same t) ++ is.permute_from t

    targets-are : own_targets plan ≡ own_targets (import_lists own)
    targets-are = λ t. count_from 0 (is.same t) ++ is.permute_to t

    pub stays : AreMoves (list_of job source p) (list_of job target p) (own_sources plan) (own_targets plan)
    stays =
        let P : List ℕ → Type 0 = λ froms. AreMoves (list_of job source p) (list_of job target p) froms (own_targets plan) in
        let Q : List ℕ → Type 0 = λ tos. AreMoves (list_of job source p) (list_of job target p) (own_sources (import_lists own)) tos in
        subst P (sym sources-are) (subst Q (sym targets-are) (own-moves own))

    pub own-test : (g : ℕ) → stands g (indices_at (list_of job source p) (own_sources plan)) ≡ passes job files (from_owners plan_of) p p g
    own-test g =
        same-test (stands g (indices_at (list_of job source p) (own_sources plan))) (stands g (list_of job target p) && stands g (list_of job source p))
        (λ e. and (stands g (list_of job target p)) (stands g (list_of job source p))
        (in-list (list_of job target p) g (own_targets plan) stays.targets (ap (stands g) (sym stays.indices) ∙ e))
        (in-list (list_of job source p) g (own_sources plan) stays.sources e))
        (λ e. let both = and_true (stands g (list_of job target p)) (stands g (list_of job source p)) e in
        ap (stands g) stays.indices
        ∙ ap (λ tos. stands g (indices_at (list_of job target p) tos)) targets-are
        ∙ both-kept (list_of job source p) (list_of job target p) g both.1 both.0)
        ∙ sym (ap (λ b. cond b (stands g (list_of job target p) && stands g (list_of job source p)) (stands g (remote job files plan_of p p))) (eq-eqb p p refl))

    module _ (valid : IsValid job) where
      target-distinct : AreDistinct (list_of job target p)
      target-distinct = (maps-are-layouts job target valid).0.distinct p

      lacked-distinct : (q : ℕ) → AreDistinct (remote job files plan_of p q)
      lacked-distinct q =
          AreDistinct-filter (owns job files plan_of q) (lacking job files plan_of p)
          (AreDistinct-filter (λ g. not (owns job files plan_of p g)) (list_of job target p) target-distinct)

      no-exports : (q : ℕ) → job.ranks ≤ q → export_list plan q ≡ []
      no-exports q l = beyond-list plan.exports q (omega (arith, l, is.is_plan.exports, is.ranks))

      no-remotes : (q : ℕ) → job.ranks ≤ q → remote_list plan q ≡ []
      no-remotes q l = beyond-list plan.remotes q (omega (arith, l, is.is_plan.remotes, is.ranks))

      few : HasFewRows plan
      few q = elim (cases_lt q job.ranks) [
        | inl l ↦
            let same : length (export_list plan q) ≡ length (remote job files plan_of q p) = ap length (is.exports q l) ∙ length-map (remote job files plan_of q p) (place (list_of job source p)) in
            let most : length (remote job files plan_of q p) ≤ 1099511627776 = sent-few job files valid (from_owners plan_of) p q in
            omega (arith, same, most)
        | inr l ↦ let same : length (export_list plan q) ≡ 0 = ap length (no-exports q l) in omega (arith, same)
      ]

      targets : HasTargets plan (list_of job target p)
      targets =
          let B : List ℕ → Type 0 = AreBelow (length (list_of job target p)) in
          let D : List ℕ → Type 0 = AreDistinct in
          record {
            below = λ q. elim (cases_lt q job.ranks) [
              | inl l ↦ let are = lacked-placed q in subst B (sym (is.remotes q l)) are.below
              | inr l ↦ subst B (sym (no-remotes q l)) tt
            ];
            once = λ q. elim (cases_lt q job.ranks) [
              | inl l ↦ subst D (sym (is.remotes q l)) (distinct-places (list_of job target p) (remote job files plan_of p q) (lacked-placed q) (lacked-distinct q))
              | inr l ↦ subst D (sym (no-remotes q l)) tt
            ];
          }

pub imports-can-begin : ImportsCanBegin
imports-can-begin job files source target p plan valid is =
    record {
      own = stays job files source target p plan is;
      targets = targets job files source target p plan is valid;
      few_rows = few job files source target p plan is valid;
    }

pub rows-are-sent : RowsAreSent
rows-are-sent job files source target p q plan is l = sent job files source target p plan is q l

pub rows-come : RowsCome
rows-come job files source target p q plan is l = come job files source target p plan is q l

pub own-rows-are-brought : {S : Type 0} → OwnRowsAreBrought S
own-rows-are-brought job files source target p plan v is e = λ t g j.
    cond ((ap (λ list. stands g (indices_at list (own_sources plan))) e ∙ own-test job files source target p plan is g) t) (global_table v g j) None
