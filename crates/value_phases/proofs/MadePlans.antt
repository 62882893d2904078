-- The plans of each structure are made.
use Rattle.std.proofs.Common.{◌≡◌, ℕ, zero, suc, ◌<◌, ◌≤◌, ◌+◌, ◌⊎◌, inl, inr, Bool, true, false, cond, ◌||◌, [], refl, sym, ap, ◌∙◌, subst, arith}
use Rattle.std.specs.List.{list_any, flat_map}
use Rattle.std.proofs.lemmas.Bool.{eq-eqb, cases_lt}
use Rattle.std.proofs.lemmas.List.Folds.{list_any-append}
use Rattle.tables.specs.Indices.{count_from}
use Rattle.model_defs.specs.declared.job.Job.{Job}
use Rattle.model_defs.specs.declared.phase.Plan.{Plan}
use Rattle.model_defs.specs.declared.phase.Plan.TheVariants.{ColumnPlan, RowPlan}
use Rattle.model_defs.specs.declared.shape.Sort.{Sort}
use Rattle.model_defs.specs.declared.shape.Sort.TheVariants.{Vector, Parts, Matrix, Split}
use Rattle.model_defs.specs.Makers.{value_count}
use Rattle.model_defs.specs.Shapes.{is_dense, is_split_sort, shape}
use Rattle.model_defs.specs.Transfers.{same_plan, shared_plan, transfers}
use Rattle.model_defs.specs.Phases.{Act, MakePlan, Send, transfer_acts, plan_acts, structure_plans, value_acts, acts}
use Rattle.model_defs.proofs.Filters.{later}
use Rattle.value_phases.specs.ValuePhases.{IsStructured}

abbrev pub makes : Job → Plan → Act → Bool
makes job plan (MakePlan k p) = same_plan plan (shared_plan job p)
makes job plan (Send k t) = false

module _ (job : Job) (q : Act → Bool) where
  in-run : (a n k : ℕ) → a ≤ k → k < a + n → list_any q (value_acts job k) ≡ true → list_any q (flat_map (value_acts job) (count_from a n)) ≡ true
  in-run a zero k b m e = absurd (omega arith)
  in-run a (suc n) k b m e = list_any-append q (value_acts job a) _ ∙ go (cases_lt a k) (in-run (a + 1) n k)
    where
      go : (a < k) ⊎ (k ≤ a) → (a + 1 ≤ k → k < (a + 1) + n → list_any q (value_acts job k) ≡ true → list_any q (flat_map (value_acts job) (count_from (a + 1) n)) ≡ true)
          → list_any q (value_acts job a) || list_any q (flat_map (value_acts job) (count_from (a + 1) n)) ≡ true
      go (inl c) rest = later (list_any q (value_acts job a)) _ (rest (omega arith) (omega arith) e)
      go (inr c) rest = let same : k ≡ a = omega arith in ap (λ z. z || list_any q (flat_map (value_acts job) (count_from (a + 1) n))) (subst (λ i. list_any q (value_acts job i) ≡ true) same e)

  -- the plans of a new structure come after its transfers
  in-structure : (k : ℕ) → IsStructured job k → list_any q (plan_acts k (structure_plans k (shape job k).sort)) ≡ true → list_any q (acts job) ≡ true
  in-structure k o e =
      in-run 0 (value_count job) k (omega arith) (let b = o.below in omega (arith, b))
      (list_any-append q (transfer_acts k 0 (transfers job k)) _
      ∙ later (list_any q (transfer_acts k 0 (transfers job k))) _ (ap (λ b. list_any q (cond b (plan_acts k (structure_plans k (shape job k).sort)) [])) (eq-eqb (shape job k).structure k o.own) ∙ e))

module _ (job : Job) (k : ℕ) (o : IsStructured job k) where
  column-here : makes job (ColumnPlan k) (MakePlan k (ColumnPlan k)) ≡ true
  column-here = eq-eqb k (shape job k).structure (sym o.own)

  pub column-is-made : list_any (makes job (ColumnPlan k)) (acts job) ≡ true
  column-is-made = in-structure job (makes job (ColumnPlan k)) k o (by (shape job k).sort refl)
    where
      by : (sort : Sort) → (shape job k).sort ≡ sort → list_any (makes job (ColumnPlan k)) (plan_acts k (structure_plans k sort)) ≡ true
      by Vector e = absurd (let t = o.sparse in let u = ap is_dense e in let bad : ⊥ = cc in bad)
      by Parts e = absurd (let t = o.sparse in let u = ap is_dense e in let bad : ⊥ = cc in bad)
      by Matrix e = ap (λ b. b || false) column-here
      by Split e = ap (λ b. b || false) column-here

  pub row-is-made : is_split_sort (shape job k).sort ≡ true → list_any (makes job (RowPlan k)) (acts job) ≡ true
  row-is-made s = in-structure job (makes job (RowPlan k)) k o (by (shape job k).sort refl)
    where
      by : (sort : Sort) → (shape job k).sort ≡ sort → list_any (makes job (RowPlan k)) (plan_acts k (structure_plans k sort)) ≡ true
      by Vector e = absurd (let t = ap is_split_sort e in let bad : ⊥ = cc in bad)
      by Parts e = absurd (let t = ap is_split_sort e in let bad : ⊥ = cc in bad)
      by Matrix e = absurd (let t = ap is_split_sort e in let bad : ⊥ = cc in bad)
      by Split e = ap (λ b. b || false) column-here
