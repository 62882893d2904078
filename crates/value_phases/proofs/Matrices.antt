-- The matrices of files: assembled of their entries, or split as they were dealt.
use Rattle.std.proofs.Common.{◌≡◌, ℕ, ◌<◌, Bool, true, false, cond, [], ◌∷◌, refl, ap, ◌∙◌}
use Rattle.model_defs.specs.declared.job.Job.{Job}
use Rattle.model_defs.specs.declared.job.MatrixSpec.{MatrixSpec}
use Rattle.model_defs.specs.declared.phase.Plan.TheVariants.{RowPlan}
use Rattle.model_defs.specs.declared.shape.Sort.TheVariants.{Matrix, Split}
use Rattle.model_defs.specs.Makers.{GivenMatrix, maker_of, value_count}
use Rattle.model_defs.specs.Shapes.{is_dense, is_split_sort, shape, shape_by}
use Rattle.model_defs.specs.Transfers.{to_owners, transfers, transfers_by}
use Rattle.model_defs.specs.Valid.{IsValid}
use Rattle.model_defs.proofs.KnownShapes.{shape-of-made}
use Rattle.value_phases.specs.ValueKinds.{IsAssembled, IsGivenSplit}
use Rattle.value_phases.specs.Laws.{MatricesAreKnown}
use Rattle.value_phases.specs.ValuePhases.{IsStructured}
use Rattle.value_phases.proofs.ValueMakers.{own-structure}

module _ (job : Job) (valid : IsValid job) (k : ℕ) (spec : MatrixSpec) (l : k < value_count job) (e : maker_of job k ≡ GivenMatrix spec) where
  file-shape : shape job k ≡ shape_by k (shape job) (GivenMatrix spec)
  file-shape = shape-of-made job valid k l ∙ ap (shape_by k (shape job)) e

  matrix-sort : (b : Bool) → is_dense (cond b Split Matrix) ≡ false
  matrix-sort true = refl
  matrix-sort false = refl

  -- a matrix of a file has a structure of its own
  pub file-structure : IsStructured job k
  file-structure = own-structure job valid k l (ap (λ z. is_dense z.sort) file-shape ∙ matrix-sort spec.split) (ap (λ z. z.structure) file-shape)

  file-transfers : (b : Bool) → spec.split ≡ b → transfers job k ≡ cond b [] (to_owners (RowPlan k) ∷ [])
  file-transfers b f = ap (transfers_by job k) e ∙ ap (λ b. cond b [] (to_owners (RowPlan k) ∷ [])) f

  pub assembled : spec.split ≡ false → IsAssembled job k
  assembled f = record {
    spec = spec;
    is = e;
    whole = f;
    not_split = ap (λ z. is_split_sort z.sort) file-shape ∙ ap (λ b. is_split_sort (cond b Split Matrix)) f;
    structured = file-structure;
    transfers_are = file-transfers false f;
  }

  pub given-split : spec.split ≡ true → IsGivenSplit job k
  given-split f = record {
    spec = spec;
    is = e;
    split = f;
    is_split = ap (λ z. is_split_sort z.sort) file-shape ∙ ap (λ b. is_split_sort (cond b Split Matrix)) f;
    structured = file-structure;
    transfers_are = file-transfers true f;
  }

pub matrices-are-known : MatricesAreKnown
matrices-are-known = λ job k spec valid l e. (assembled job valid k spec l e, given-split job valid k spec l e)
