-- Matrices that share a structure, and its plans.
use Rattle.std.proofs.Common.{◌≡◌, ℕ, ◌<◌, Bool, true, false, not, List, filter, refl, sym, ap, ◌∙◌, subst}
use Rattle.tables.specs.Indices.{stands}
use Rattle.map_core.specs.Plans.{PlanLists}
use Rattle.mm_text.specs.Reading.{File}
use Rattle.model_defs.specs.declared.job.Job.{Job}
use Rattle.model_defs.specs.declared.phase.Plan.{Plan}
use Rattle.model_defs.specs.declared.phase.Plan.TheVariants.{ColumnPlan, RowPlan}
use Rattle.model_defs.specs.declared.shape.Sort.{Sort}
use Rattle.model_defs.specs.declared.shape.Sort.TheVariants as sort
use Rattle.model_defs.specs.Fitting.{IsFitting}
use Rattle.model_defs.specs.Makers.{value_count}
use Rattle.model_defs.specs.Maps.{has_index, list_of}
use Rattle.model_defs.specs.Plans.{owns, rank_columns, rank_list_by, rank_rows, remote}
use Rattle.model_defs.specs.Shapes.{is_dense, is_split_sort, shape}
use Rattle.model_defs.specs.Transfers.{owner_map}
use Rattle.model_defs.specs.Valid.{IsValid}
use Rattle.model_defs.proofs.SharedPlans.{plans_are_shared}
use Rattle.map_core.specs.Classes.{places}
use Rattle.rank_pieces.specs.declared.pieces.RankMatrix.{RankMatrix}
use Rattle.rank_pieces.specs.Pieces.{HasPlan, HasRows, IsMatrixOf}

is-split : (s : Sort) → is_split_sort s ≡ true → s ≡ sort.Split
is-split sort.Vector e = absurd (let bad : ⊥ = cc in bad)
is-split sort.Parts e = absurd (let bad : ⊥ = cc in bad)
is-split sort.Matrix e = absurd (let bad : ⊥ = cc in bad)
is-split sort.Split e = refl

module _ (job : Job) (files : List File) (me : ℕ) where
  -- a plan with the same lists and the same owners is had as well
  has-plan : (plan other : Plan) (owners list : List ℕ) (made : PlanLists) → owner_map job other ≡ owner_map job plan
      → ((p : ℕ) → rank_list_by job files other p ≡ rank_list_by job files plan p)
      → HasPlan job files me plan owners list made → HasPlan job files me other owners list made
  has-plan plan other owners list made map lists h =
      let listed = h.listed in
      let from = h.from_owners in
      record {
        listed = record {
          owned = λ g. listed.owned g ∙ sym (own me g);
          listed = λ g. listed.listed g ∙ ap (stands g) (sym (lists me));
          distinct_owners = listed.distinct_owners;
          distinct_list = listed.distinct_list;
        };
        from_owners = record {
          is_plan = from.is_plan;
          ranks = from.ranks;
          same = from.same;
          permute_to = from.permute_to;
          permute_from = from.permute_from;
          exports = λ q l. from.exports q l ∙ ap (places owners) (sym (apart q me));
          remotes = λ q l. from.remotes q l ∙ ap (places list) (sym (apart me q));
        };
      }
    where
      own : (p g : ℕ) → owns job files other p g ≡ owns job files plan p g
      own p g = ap (λ m. has_index job m p g) map

      apart : (p q : ℕ) → remote job files other p q ≡ remote job files plan p q
      apart p q = λ t. filter (has_index job (map t) q) (filter (λ g. not (has_index job (map t) p g)) (lists p t))

module _ (job : Job) (files : List File) (valid : IsValid job) (fitting : IsFitting job files) (v w : ℕ) (known : v < value_count job) (know : w < value_count job)
    (sorts : (shape job w).sort ≡ (shape job v).sort) (rows : (shape job w).rows ≡ (shape job v).rows) (domain : (shape job w).domain ≡ (shape job v).domain)
    (structure : (shape job w).structure ≡ (shape job v).structure) where
  same-columns : is_dense (shape job v).sort ≡ false → (p : ℕ) → rank_columns job files w p ≡ rank_columns job files v p
  same-columns sparse p =
      let other = plans_are_shared job files w valid fitting know (ap is_dense sorts ∙ sparse) in
      let one = plans_are_shared job files v valid fitting known sparse in
      other.columns_of_ranks p ∙ ap (λ s. rank_columns job files s p) structure ∙ sym (one.columns_of_ranks p)

  same-rows : is_dense (shape job v).sort ≡ false → (shape job v).sort ≡ sort.Split → (p : ℕ) → rank_rows job files w p ≡ rank_rows job files v p
  same-rows sparse split p =
      let other = plans_are_shared job files w valid fitting know (ap is_dense sorts ∙ sparse) in
      let one = plans_are_shared job files v valid fitting known sparse in
      other.rows_of_ranks (sorts ∙ split) p ∙ ap (λ s. rank_rows job files s p) structure ∙ sym (one.rows_of_ranks split p)

  module _ {S : Type 0} (me : ℕ) (a m : RankMatrix S) (graph : m.matrix.graph ≡ a.matrix.graph) (columns : m.columns ≡ a.columns) (plans : m.rows ≡ a.rows) where
    rows-of : is_dense (shape job v).sort ≡ false → (b : Bool) → is_split_sort (shape job v).sort ≡ b → HasRows job files me b v a → HasRows job files me b w m
    rows-of sparse false e h = (ap (λ g. g.rows) graph ∙ h.0 ∙ ap (λ r. list_of job r me) (sym rows), plans ∙ h.1)
    rows-of sparse true e h = (
      h.0,
      plans ∙ h.1,
      subst (λ g. HasPlan job files me (RowPlan w) (list_of job (shape job w).rows me) g h.0) (sym (ap (λ g. g.rows) graph))
          (subst (λ r. HasPlan job files me (RowPlan w) (list_of job r me) a.matrix.graph.rows h.0) (sym rows)
          (has-plan job files me (RowPlan v) (RowPlan w) (list_of job (shape job v).rows me) a.matrix.graph.rows h.0 rows (same-rows sparse (is-split (shape job v).sort e)) h.2)),
    )

    -- So a matrix on the structure of a value's piece is that of another value with this structure.
    pub on-structure : IsMatrixOf job files me v a → IsMatrixOf job files me w m
    on-structure is =
        let sparse = is.sparse in
        record {
          sparse = ap is_dense sorts ∙ sparse;
          columns =
              subst (λ g. HasPlan job files me (ColumnPlan w) (list_of job (shape job w).domain me) g m.columns) (sym (ap (λ g. g.cols) graph))
              (subst (λ d. HasPlan job files me (ColumnPlan w) (list_of job d me) a.matrix.graph.cols m.columns) (sym domain)
              (subst (HasPlan job files me (ColumnPlan w) (list_of job (shape job v).domain me) a.matrix.graph.cols) (sym columns)
              (has-plan job files me (ColumnPlan v) (ColumnPlan w) (list_of job (shape job v).domain me) a.matrix.graph.cols a.columns domain (same-columns sparse) is.columns)));
          rows = subst (λ b. HasRows job files me b w m) (ap is_split_sort (sym sorts)) (rows-of sparse (is_split_sort (shape job v).sort) refl is.rows);
        }
