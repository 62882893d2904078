-- The matrices that statements make of rows of others.
use Rattle.std.proofs.Common.{◌≡◌, ℕ, ◌<◌, inl, inr, true, false, Option, None, Some, refl, sym, ap, ◌∙◌, subst}
use Rattle.model_defs.specs.declared.job.Job.{Job}
use Rattle.model_defs.specs.declared.job.Step.TheVariants as step
use Rattle.model_defs.specs.declared.shape.Shape.{Shape}
use Rattle.model_defs.specs.declared.shape.Sort.{Sort}
use Rattle.model_defs.specs.declared.shape.Sort.TheVariants.{Matrix}
use Rattle.model_defs.specs.Makers.{Maker, GivenVector, GivenParts, GivenMatrix, Made, maker_of, value_count}
use Rattle.model_defs.specs.Shapes.{is_dense, is_split_sort, shape, shape_by}
use Rattle.model_defs.specs.Transfers.{transfers_by}
use Rattle.model_defs.specs.Valid.{IsValid, IsValidMaker, IsBase, IsEarlier}
use Rattle.model_defs.proofs.KnownShapes.{shape-of-made}
use Rattle.value_phases.specs.Laws.{MadeMatricesHaveOperands}
use Rattle.value_phases.specs.ValueKinds.{IsMadeMatrix, IsNewMatrix, IsWholeBefore, is_matrix_step}
use Rattle.value_phases.proofs.ValueMakers.{own-structure}

module _ (job : Job) (valid : IsValid job) (k : ℕ) (l : k < value_count job) where
  whole-before : (v : ℕ) → IsEarlier job k v Matrix → IsWholeBefore job k v
  whole-before v h = record { before = h.0; sparse = ap is_dense h.1; whole = ap is_split_sort h.1 }

  new-matrix : (s : Shape) → shape job k ≡ s → s.sort ≡ Matrix → s.structure ≡ k → IsNewMatrix job k s.rows
  new-matrix s e sort own = record {
    structured = own-structure job valid k l (ap (λ z. is_dense z.sort) e ∙ ap is_dense sort) (ap (λ z. z.structure) e ∙ own);
    whole = ap (λ z. is_split_sort z.sort) e ∙ ap is_split_sort sort;
    rows = ap (λ z. z.rows) e;
  }

  base-of : (source : ℕ) (base : Option ℕ) → IsBase job k source base → (o : ℕ) → base ≡ Some o → IsWholeBefore job k o × ((shape job o).rows ≡ (shape job source).rows)
  base-of source None h o e = absurd (let bad : ⊥ = cc in bad)
  base-of source (Some b) h o e =
      let same : b ≡ o = cc in
      subst (λ i. IsWholeBefore job k i × ((shape job i).rows ≡ (shape job source).rows)) same (whole-before b h.0, h.1)

  made-by : (m : Maker) → maker_of job k ≡ m → is_matrix_step m ≡ true → IsValidMaker job k m → shape job k ≡ shape_by k (shape job) m → IsMadeMatrix job k
  made-by (Made (step.Transpose name a)) e h v s = inl (record {
    name = name;
    a = a;
    is = e;
    operand = whole-before a v;
    made = new-matrix _ s v.1 refl;
    transfers_are = ap (transfers_by job k) e;
  })
  made-by (Made (step.Multiply name a b)) e h v s = inr (inl (record {
    name = name;
    a = a;
    b = b;
    is = e;
    left = whole-before a v.0;
    right = whole-before b v.1;
    meet = v.2;
    made = new-matrix _ s v.0.1 refl;
    transfers_are = ap (transfers_by job k) e;
  }))
  made-by (Made (step.Add name a b alpha beta)) e h v s = inr (inr (inl (record {
    name = name;
    a = a;
    b = b;
    alpha = alpha;
    beta = beta;
    is = e;
    left = whole-before a v.0;
    right = whole-before b v.1;
    made = new-matrix _ s v.0.1 refl;
    transfers_are = ap (transfers_by job k) e;
  })))
  made-by (Made (step.Assemble name source onto mode)) e h v s = inr (inr (inr (record {
    name = name;
    source = source;
    base = onto;
    mode = mode;
    is = e;
    before = v.0.0;
    sparse = ap is_dense v.0.1;
    split = ap is_split_sort v.0.1;
    onto = base-of source onto v.1;
    made = new-matrix _ s refl refl;
    transfers_are = ap (transfers_by job k) e;
  })))
  made-by m e h v s = absurd (let bad : ⊥ = cc in bad)

pub made-matrices-have-operands : MadeMatricesHaveOperands
made-matrices-have-operands job k valid l h = made-by job valid k l (maker_of job k) refl h (valid.values k l) (shape-of-made job valid k l)
