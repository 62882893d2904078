-- Values that are made of the cells of a value before them.
use Rattle.std.proofs.Common.{◌≡◌, ℕ, ◌<◌, [], ◌∷◌, Some, None, refl, sym, ap, ◌∙◌, subst}
use Rattle.model_defs.specs.declared.job.Job.{Job}
use Rattle.model_defs.specs.declared.job.Step.TheVariants as step
use Rattle.model_defs.specs.declared.phase.Plan.TheVariants.{ImportPlan, ExportPlan}
use Rattle.model_defs.specs.Makers.{Maker, GivenVector, GivenParts, GivenMatrix, Made, maker_of, value_count}
use Rattle.model_defs.specs.Shapes.{shape, shape_by, is_dense}
use Rattle.model_defs.specs.Transfers.{from_owners, to_owners, transfers_by}
use Rattle.model_defs.specs.Valid.{IsValid, IsValidMaker}
use Rattle.model_defs.proofs.KnownShapes.{shape-of-made}
use Rattle.rank_stages.specs.DataLaws.{copied_by}
use Rattle.value_phases.specs.Laws.{CopiesHaveSources}
use Rattle.value_phases.specs.ValuePhases.{IsCopy, copy_transfer, onto_of}

module _ (job : Job) (valid : IsValid job) (k : ℕ) (l : k < value_count job) where
  made-shape : (m : Maker) → maker_of job k ≡ m → shape job k ≡ shape_by k (shape job) m
  made-shape m e = shape-of-made job valid k l ∙ ap (shape_by k (shape job)) e

  -- it is enough to know this of what makes the value
  copy-of : (m : Maker) (source : ℕ) → maker_of job k ≡ m → copied_by m ≡ Some source → source < k
      → is_dense (shape_by k (shape job) m).sort ≡ is_dense (shape job source).sort
      → (shape_by k (shape job) m).columns ≡ (shape job source).columns
      → transfers_by job k m ≡ copy_transfer job k source m ∷ []
      → ((o : ℕ) → onto_of m ≡ Some o → (o < k) × (shape job k ≡ shape job o))
      → IsCopy job k
  copy-of m source e copied before kind columns one onto = record {
    source = source;
    copied = ap copied_by e ∙ copied;
    below = l;
    before = before;
    same_kind = (λ t. is_dense (made-shape m e t).sort) ∙ kind;
    same_columns = (λ t. (made-shape m e t).columns) ∙ columns;
    transfers = ap (transfers_by job k) e ∙ one ∙ (λ t. copy_transfer job k source (sym e t) ∷ []);
    onto = λ o is. onto o (ap onto_of (sym e) ∙ is);
  }

  imported : (source r : ℕ) → (shape job k).rows ≡ r → from_owners (ImportPlan (shape job source).rows r) ∷ [] ≡ from_owners (ImportPlan (shape job source).rows (shape job k).rows) ∷ []
  imported source r e = λ t. from_owners (ImportPlan (shape job source).rows (sym e t)) ∷ []

  exported : (source r : ℕ) → (shape job k).rows ≡ r → to_owners (ExportPlan (shape job source).rows r) ∷ [] ≡ to_owners (ExportPlan (shape job source).rows (shape job k).rows) ∷ []
  exported source r e = λ t. to_owners (ExportPlan (shape job source).rows (sym e t)) ∷ []

  -- the statements that copy cells
  pub copy-by : (m : Maker) (source : ℕ) → maker_of job k ≡ m → copied_by m ≡ Some source → IsCopy job k
  copy-by m source e c = by m e c (subst (IsValidMaker job k) e (valid.values k l))
    where
      none : (o : ℕ) → None ≡ Some o → (o < k) × (shape job k ≡ shape job o)
      none o bad = absurd (cc)

      onto-is : (onto o : ℕ) → onto < k → shape job k ≡ shape job onto → Some onto ≡ Some o → (o < k) × (shape job k ≡ shape job o)
      onto-is onto o before same is = let one : onto ≡ o = cc in (subst (λ i. i < k) one before, same ∙ ap (shape job) one)

      by : (m : Maker) → maker_of job k ≡ m → copied_by m ≡ Some source → IsValidMaker job k m → IsCopy job k
      by (GivenVector spec) e c v = absurd (cc)
      by (GivenParts spec) e c v = absurd (cc)
      by (GivenMatrix spec) e c v = absurd (cc)
      by (Made (step.Move name x m)) e c v =
          copy-of (Made (step.Move name x m)) x e refl v.0 refl refl (imported x m (λ t. (made-shape (Made (step.Move name x m)) e t).rows)) none
      by (Made (step.Import name x onto mode)) e c v =
          copy-of (Made (step.Import name x onto mode)) x e refl v.0.0 (ap is_dense v.1.1 ∙ sym (ap is_dense v.0.1)) (sym v.3)
          (imported x (shape job onto).rows (λ t. (made-shape (Made (step.Import name x onto mode)) e t).rows))
          (λ o is. onto-is onto o v.1.0 (made-shape (Made (step.Import name x onto mode)) e) is)
      by (Made (step.Export name x onto mode)) e c v =
          copy-of (Made (step.Export name x onto mode)) x e refl v.0.0 (ap is_dense v.1.1 ∙ sym (ap is_dense v.0.1)) (sym v.3)
          (exported x (shape job onto).rows (λ t. (made-shape (Made (step.Export name x onto mode)) e t).rows))
          (λ o is. onto-is onto o v.1.0 (made-shape (Made (step.Export name x onto mode)) e) is)
      by (Made (step.Spread name x m)) e c v =
          copy-of (Made (step.Spread name x m)) x e refl v.0.0 (sym (ap is_dense v.0.1)) refl
          (imported x m (λ t. (made-shape (Made (step.Spread name x m)) e t).rows)) none
      by (Made (step.Update name x y alpha beta)) e c v = absurd (cc)
      by (Made (step.Scale name value alpha)) e c v = absurd (cc)
      by (Made (step.Apply name a x y alpha beta transposed)) e c v = absurd (cc)
      by (Made (step.Transpose name a)) e c v = absurd (cc)
      by (Made (step.Multiply name a b)) e c v = absurd (cc)
      by (Made (step.Add name a b alpha beta)) e c v = absurd (cc)
      by (Made (step.Assemble name x onto mode)) e c v = absurd (cc)
      by (Made (step.Print value)) e c v = absurd (cc)

pub copies-have-sources : CopiesHaveSources
copies-have-sources = λ job k source valid l copied. copy-by job valid k l (maker_of job k) source refl copied
