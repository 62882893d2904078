-- Values that are made by applying a matrix to a vector.
use Rattle.std.proofs.Common.{◌≡◌, ℕ, ◌<◌, Option, Some, None, sym, ap, ◌∙◌, subst}
use Rattle.model_defs.specs.declared.job.Job.{Job}
use Rattle.model_defs.specs.declared.job.Step.TheVariants as step
use Rattle.model_defs.specs.declared.shape.Sort.TheVariants.{Vector}
use Rattle.model_defs.specs.Makers.{Made}
use Rattle.model_defs.specs.Shapes.{shape, shape_by, is_dense}
use Rattle.model_defs.specs.Transfers.{transfers_by}
use Rattle.model_defs.specs.Valid.{IsValidMaker, IsAddend}
use Rattle.model_defs.proofs.KnownShapes.{shape-of-made, not-dense}
use Rattle.value_phases.specs.ValueKinds.{IsApply}
use Rattle.value_phases.specs.Laws.{AppliesHaveOperands}

-- what is added is a vector, as the result is
addend-of : (job : Job) (k : ℕ) (y : Option ℕ) → (shape job k).sort ≡ Vector → IsAddend job k y → (o : ℕ) → y ≡ Some o
    → (o < k) × ((shape job o).sort ≡ (shape job k).sort) × ((shape job o).rows ≡ (shape job k).rows) × ((shape job o).columns ≡ (shape job k).columns)
addend-of job k None v h o e = absurd (let bad : ⊥ = cc in bad)
addend-of job k (Some z) v h o e =
    let same : z ≡ o = cc in
    subst (λ i. (i < k) × ((shape job i).sort ≡ (shape job k).sort) × ((shape job i).rows ≡ (shape job k).rows) × ((shape job i).columns ≡ (shape job k).columns)) same
    (h.0.0, h.0.1 ∙ sym v, h.1, h.2)

pub applies-have-operands : AppliesHaveOperands
applies-have-operands job k a x name y alpha beta transposed valid l e = by (subst (IsValidMaker job k) e (valid.values k l)) (shape-of-made job valid k l ∙ ap (shape_by k (shape job)) e)
  where
    by : IsValidMaker job k (Made (step.Apply name a x y alpha beta transposed)) → shape job k ≡ shape_by k (shape job) (Made (step.Apply name a x y alpha beta transposed)) → IsApply job k
    by v s = record {
      name = name;
      a = a;
      x = x;
      y = y;
      alpha = alpha;
      beta = beta;
      transposed = transposed;
      is = e;
      below = l;
      before_a = v.0;
      before_x = v.2.0;
      sparse_a = not-dense (shape job a).sort v.1;
      dense_x = ap is_dense v.2.1;
      dense = ap (λ z. is_dense z.sort) s ∙ ap is_dense v.2.1;
      rows_x = v.3;
      rows = ap (λ z. z.rows) s;
      columns = ap (λ z. z.columns) s;
      addend = addend-of job k y (ap (λ z. z.sort) s ∙ v.2.1) v.4;
      transfers_are = ap (transfers_by job k) e;
    }
