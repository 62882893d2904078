-- The plan of a transfer of a job, between lists with the job's indices in whatever order.
use Rattle.std.proofs.Common.{◌≡◌, ℕ, ◌<◌, ◌≤◌, Bool, true, ◌&&◌, cond, not, List, [], ◌++◌, filter, length, inl, inr, refl, sym, ap, subst, ◌∙◌, arith}
use Rattle.std.proofs.lemmas.Bool.{cases_lt, eq-eqb}
use Rattle.tables.specs.Indices.{AreBelow, AreDistinct, count_from, stands}
use Rattle.map_core.specs.Classes.{indices_at, places}
use Rattle.map_core.specs.Plans.{PlanLists, export_list, remote_list, reversed}
use Rattle.map_core.proofs.Accepted.{ArePlaced}
use Rattle.map_core.proofs.Members.{AreDistinct-filter, and_true, stands-filter}
use Rattle.import_plan.specs.Imports.{Import, import_lists}
use Rattle.crs_graph.proofs.LocalColumns.{below-stands}
use Rattle.vector_moves.specs.Moves.{AreMoves, own_sources, own_targets}
use Rattle.vector_moves.proofs.Positions.{distinct-indices}
use Rattle.vector_moves.proofs.Wanted.{own-moves}
use Rattle.mm_text.specs.Reading.{File}
use Rattle.model_defs.specs.declared.job.Job.{Job}
use Rattle.model_defs.specs.declared.phase.Plan.{Plan}
use Rattle.model_defs.specs.declared.phase.Transfer.{Transfer}
use Rattle.model_defs.specs.Plans.{lacking, owns, passes, rank_list_by, remote, sent_rows}
use Rattle.model_defs.specs.Transfers.{from_owners, owner_map, to_owners}
use Rattle.model_defs.specs.Valid.{IsValid}
use Rattle.model_defs.proofs.Bounds.{maps-are-layouts}
use Rattle.model_defs.proofs.Filters.{and}
use Rattle.rank_stages.proofs.ShortLists.{distinct-few}
use Rattle.rank_transfers.proofs.Listed.{all-placed, beyond-list, both-kept, distinct-places, distinct-positions, in-list, same-test}
use Rattle.matrix_arrivals.specs.RowPlans.{AreListed, FromOwnersServe, ImportsAreFromOwners, IsFromOwners, IsServing, JobListsAreListed, ToOwnersServe}
use Rattle.matrix_arrivals.proofs.Few.{list-distinct}

kept : (test : ℕ → Bool) (g : ℕ) (xs : List ℕ) → stands g (filter test xs) ≡ true → (stands g xs ≡ true) × (test g ≡ true)
kept test g xs e = and_true (stands g xs) (test g) (sym (stands-filter g test xs) ∙ e)

few-below : (n : ℕ) (xs : List ℕ) → AreBelow n xs → AreDistinct xs → length xs ≤ n
few-below n xs below distinct = distinct-few n xs distinct (λ g e. below-stands n xs g below e)

-- a row that a rank has and owns passes to itself
own-passes : (job : Job) (files : List File) (t : Transfer) (p g : ℕ)
    → passes job files t p p g ≡ (stands g (rank_list_by job files t.plan p) && owns job files t.plan p g)
own-passes job files t p g =
    ap (λ b. cond b (stands g (rank_list_by job files t.plan p) && owns job files t.plan p g) (stands g (sent_rows job files t p p))) (eq-eqb p p refl)

module _ (job : Job) (files : List File) (shared : Plan) (p : ℕ) (owners list : List ℕ) (valid : IsValid job) (are : AreListed job files shared p owners list) where
  -- what another rank lacks of it is its own, and what it lacks is of its list
  given-placed : (q : ℕ) → ArePlaced owners (remote job files shared q p)
  given-placed q =
      all-placed owners (remote job files shared q p) (λ g e. are.owned g ∙ (kept (owns job files shared p) g (lacking job files shared q) e).1)

  lacked-placed : (q : ℕ) → ArePlaced list (remote job files shared p q)
  lacked-placed q =
      all-placed list (remote job files shared p q)
      (λ g e. are.listed g
      ∙ (kept (λ x. not (owns job files shared p x)) g (rank_list_by job files shared p) (kept (owns job files shared q) g (lacking job files shared p) e).0).0)

  remote-distinct : (q r : ℕ) → AreDistinct (remote job files shared q r)
  remote-distinct q r =
      AreDistinct-filter (owns job files shared r) (lacking job files shared q)
      (AreDistinct-filter (λ g. not (owns job files shared q g)) (rank_list_by job files shared q) (list-distinct job valid files shared q))

  module _ (plan : PlanLists) (is : IsFromOwners job files shared p owners list plan) where
    exports-are : (q : ℕ) → q < job.ranks → indices_at owners (export_list plan q) ≡ remote job files shared q p
    exports-are q l = ap (indices_at owners) (is.exports q l) ∙ (given-placed q).indices

    remotes-are : (q : ℕ) → q < job.ranks → indices_at list (remote_list plan q) ≡ remote job files shared p q
    remotes-are q l = ap (indices_at list) (is.remotes q l) ∙ (lacked-placed q).indices

    -- what holds of the lists for each rank, and of an empty one
    each-export : (P : List ℕ → Type 0) → P [] → ((q : ℕ) → P (places owners (remote job files shared q p))) → (q : ℕ) → P (export_list plan q)
    each-export P none some q = elim (cases_lt q job.ranks) [
      | inl l ↦ subst P (sym (is.exports q l)) (some q)
      | inr l ↦ subst P (sym (beyond-list plan.exports q (omega (arith, l, is.is_plan.exports, is.ranks)))) none
    ]

    each-remote : (P : List ℕ → Type 0) → P [] → ((q : ℕ) → P (places list (remote job files shared p q))) → (q : ℕ) → P (remote_list plan q)
    each-remote P none some q = elim (cases_lt q job.ranks) [
      | inl l ↦ subst P (sym (is.remotes q l)) (some q)
      | inr l ↦ subst P (sym (beyond-list plan.remotes q (omega (arith, l, is.is_plan.remotes, is.ranks)))) none
    ]

    exports-below : (q : ℕ) → AreBelow (length owners) (export_list plan q)
    exports-below q = each-export (AreBelow (length owners)) tt (λ r. (given-placed r).below) q

    exports-once : (q : ℕ) → AreDistinct (export_list plan q)
    exports-once q = each-export AreDistinct tt (λ r. distinct-places owners (remote job files shared r p) (given-placed r) (remote-distinct r p)) q

    remotes-below : (q : ℕ) → AreBelow (length list) (remote_list plan q)
    remotes-below q = each-remote (AreBelow (length list)) tt (λ r. (lacked-placed r).below) q

    remotes-once : (q : ℕ) → AreDistinct (remote_list plan q)
    remotes-once q = each-remote AreDistinct tt (λ r. distinct-places list (remote job files shared p r) (lacked-placed r) (remote-distinct p r)) q

    -- what stays
    abbrev own : Import
    own = record { me = p; ranks = job.ranks; source = owners; target = list; wanted = []; wants = [] }

    sources-are : own_sources plan ≡ own_sources (import_lists own)
    sources-are = λ t. count_from 0 (is.same t) ++ is.permute_from t

    targets-are : own_targets plan ≡ own_targets (import_lists own)
    targets-are = λ t. count_from 0 (is.same t) ++ is.permute_to t

    stays : AreMoves owners list (own_sources plan) (own_targets plan)
    stays =
        let P : List ℕ → Type 0 = λ froms. AreMoves owners list froms (own_targets plan) in
        let Q : List ℕ → Type 0 = λ tos. AreMoves owners list (own_sources (import_lists own)) tos in
        subst P (sym sources-are) (subst Q (sym targets-are) (own-moves own))

    kept-test : (g : ℕ) → stands g (indices_at owners (own_sources plan)) ≡ (stands g (rank_list_by job files shared p) && owns job files shared p g)
    kept-test g =
        same-test (stands g (indices_at owners (own_sources plan))) (stands g list && stands g owners)
        (λ e. and (stands g list) (stands g owners)
        (in-list list g (own_targets plan) stays.targets (ap (stands g) (sym stays.indices) ∙ e))
        (in-list owners g (own_sources plan) stays.sources e))
        (λ e. let both = and_true (stands g list) (stands g owners) e in
        ap (stands g) stays.indices
        ∙ ap (λ tos. stands g (indices_at list tos)) targets-are
        ∙ both-kept owners list g both.1 both.0)
        ∙ (λ s. are.listed g s && are.owned g s)

    pub from : IsServing job files (from_owners shared) p owners list plan
    from =
        record {
          ranks = is.ranks;
          own = stays;
          kept = λ g. kept-test g ∙ sym (own-passes job files (from_owners shared) p g);
          sent = λ q l. exports-are q l;
          sources = exports-below;
          few = λ q. few-below (length owners) (export_list plan q) (exports-below q) (exports-once q);
          come = λ q l. remotes-are q l;
          targets = record { below = remotes-below; once = remotes-once };
        }

    pub to : IsServing job files (to_owners shared) p list owners (reversed plan)
    to =
        let P : List ℕ → Type 0 = AreDistinct in
        record {
          ranks = is.ranks;
          own = record {
            sources = stays.targets;
            targets = stays.sources;
            indices = sym stays.indices;
            once = distinct-positions owners (own_sources plan)
                (subst P (sym stays.indices) (distinct-indices list (own_targets plan) are.distinct_list stays.targets stays.once));
          };
          kept = λ g. ap (stands g) (sym stays.indices) ∙ kept-test g ∙ sym (own-passes job files (to_owners shared) p g);
          sent = λ q l. remotes-are q l;
          sources = remotes-below;
          few = λ q. few-below (length list) (remote_list plan q) (remotes-below q) (remotes-once q);
          come = λ q l. exports-are q l;
          targets = record { below = exports-below; once = exports-once };
        }

pub from-owners-serve : FromOwnersServe
from-owners-serve job files shared p owners list plan valid are is = from job files shared p owners list valid are plan is

pub to-owners-serve : ToOwnersServe
to-owners-serve job files shared p owners list plan valid are is = to job files shared p owners list valid are plan is

pub job-lists-are-listed : JobListsAreListed
job-lists-are-listed job files shared p valid =
    record {
      owned = λ g. refl;
      listed = λ g. refl;
      distinct_owners = (maps-are-layouts job (owner_map job shared) valid).0.distinct p;
      distinct_list = list-distinct job valid files shared p;
    }

pub imports-are-from-owners : ImportsAreFromOwners
imports-are-from-owners job files source target p plan is =
    record {
      is_plan = is.is_plan;
      ranks = is.ranks;
      same = is.same;
      permute_to = is.permute_to;
      permute_from = is.permute_from;
      exports = is.exports;
      remotes = is.remotes;
    }
