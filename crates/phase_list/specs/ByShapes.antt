-- Transfers and plans, where the shapes of the values are known.
use Rattle.std.specs.Prelude.{ℕ, if◌then◌else◌, List, [], ◌∷◌}
use Rattle.model_defs.specs.declared.job.Step.TheVariants as step
use Rattle.model_defs.specs.Makers.{Maker, GivenMatrix, Made}
use Rattle.model_defs.specs.declared.phase.Plan.{Plan}
use Rattle.model_defs.specs.declared.phase.Plan.TheVariants.{ImportPlan, ExportPlan, ColumnPlan, RowPlan}
use Rattle.model_defs.specs.declared.phase.Transfer.{Transfer}
use Rattle.model_defs.specs.declared.shape.Shape.{Shape}
use Rattle.model_defs.specs.Shapes.{is_split_sort}
use Rattle.model_defs.specs.Transfers.{from_owners, to_owners, apply_transfers}
use Rattle.model_defs.specs.Turns.{Each}

module _ (shapes : Each Shape) where
  -- the plan of the structure of a matrix
  abbrev pub shared_by : Plan → Plan
  shared_by (ColumnPlan value) = ColumnPlan (shapes value).structure
  shared_by (RowPlan value) = RowPlan (shapes value).structure
  shared_by plan = plan

  -- the map in which each index has one owner
  abbrev pub owners_by : Plan → ℕ
  owners_by (ImportPlan source target) = source
  owners_by (ExportPlan source target) = target
  owners_by (ColumnPlan value) = (shapes value).domain
  owners_by (RowPlan value) = (shapes value).rows

  -- the transfers of a value
  abbrev pub transfers_with : ℕ → Maker → List Transfer
  transfers_with k (GivenMatrix spec) = if spec.split then [] else to_owners (RowPlan k) ∷ []
  transfers_with k (Made (step.Move name source m)) = from_owners (ImportPlan (shapes source).rows m) ∷ []
  transfers_with k (Made (step.Import name source onto mode)) = from_owners (ImportPlan (shapes source).rows (shapes onto).rows) ∷ []
  transfers_with k (Made (step.Export name source onto mode)) = to_owners (ExportPlan (shapes source).rows (shapes onto).rows) ∷ []
  transfers_with k (Made (step.Spread name source m)) = from_owners (ImportPlan (shapes source).rows m) ∷ []
  transfers_with k (Made (step.Apply name a x y alpha beta transposed)) = apply_transfers a (is_split_sort (shapes a).sort) transposed
  transfers_with k (Made (step.Transpose name a)) = to_owners (ColumnPlan a) ∷ []
  transfers_with k (Made (step.Multiply name a b)) = from_owners (ColumnPlan a) ∷ []
  transfers_with k (Made (step.Add name a b alpha beta)) = from_owners (ImportPlan (shapes b).rows (shapes a).rows) ∷ []
  transfers_with k (Made (step.Assemble name source onto mode)) = to_owners (RowPlan source) ∷ []
  transfers_with k _ = []
