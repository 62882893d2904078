-- What follows from the shapes of all values.
use Rattle.std.proofs.Common.{◌≡◌, ℕ, eqb, List, refl, ap, ◌∙◌}
use Rattle.std.specs.List.{list_any}
use Rattle.model_defs.specs.declared.job.Job.{Job}
use Rattle.model_defs.specs.declared.job.Step.TheVariants as step
use Rattle.model_defs.specs.declared.phase.Plan.{Plan}
use Rattle.model_defs.specs.declared.phase.Plan.TheVariants.{ImportPlan, ExportPlan, ColumnPlan, RowPlan}
use Rattle.model_defs.specs.declared.shape.Shape.{Shape}
use Rattle.model_defs.specs.Makers.{Maker, GivenVector, GivenParts, GivenMatrix, Made, maker_of}
use Rattle.model_defs.specs.Phases.{is_registered}
use Rattle.model_defs.specs.Shapes.{shape}
use Rattle.model_defs.specs.Transfers.{shared_plan, owner_map, transfers, transfers_by}
use Rattle.model_defs.specs.Turns.{Each}
use Rattle.phase_list.specs.ByShapes.{shared_by, owners_by, transfers_with}

shared-shape : (job : Job) (plan : Plan) → shared_by (shape job) plan ≡ shared_plan job plan
shared-shape job (ImportPlan source target) = refl
shared-shape job (ExportPlan source target) = refl
shared-shape job (ColumnPlan value) = refl
shared-shape job (RowPlan value) = refl

owners-shape : (job : Job) (plan : Plan) → owners_by (shape job) plan ≡ owner_map job plan
owners-shape job (ImportPlan source target) = refl
owners-shape job (ExportPlan source target) = refl
owners-shape job (ColumnPlan value) = refl
owners-shape job (RowPlan value) = refl

transfers-shape : (job : Job) (k : ℕ) (m : Maker) → transfers_with (shape job) k m ≡ transfers_by job k m
transfers-shape job k (GivenVector spec) = refl
transfers-shape job k (GivenParts spec) = refl
transfers-shape job k (GivenMatrix spec) = refl
transfers-shape job k (Made (step.Move name source m)) = refl
transfers-shape job k (Made (step.Import name source onto mode)) = refl
transfers-shape job k (Made (step.Export name source onto mode)) = refl
transfers-shape job k (Made (step.Spread name source m)) = refl
transfers-shape job k (Made (step.Update name x y alpha beta)) = refl
transfers-shape job k (Made (step.Scale name value alpha)) = refl
transfers-shape job k (Made (step.Apply name a x y alpha beta transposed)) = refl
transfers-shape job k (Made (step.Transpose name a)) = refl
transfers-shape job k (Made (step.Multiply name a b)) = refl
transfers-shape job k (Made (step.Add name a b alpha beta)) = refl
transfers-shape job k (Made (step.Assemble name source onto mode)) = refl
transfers-shape job k (Made (step.Print value)) = refl

module _ (job : Job) (shapes : Each Shape) (known : shapes ≡ shape job) where
  pub shared-is : (plan : Plan) → shared_by shapes plan ≡ shared_plan job plan
  shared-is plan = ap (λ s. shared_by s plan) known ∙ shared-shape job plan

  pub owners-are : (plan : Plan) → owners_by shapes plan ≡ owner_map job plan
  owners-are plan = ap (λ s. owners_by s plan) known ∙ owners-shape job plan

  pub registered-is : (made : List Plan) (map : ℕ) → list_any (λ plan. eqb (owners_by shapes plan) map) made ≡ is_registered job made map
  registered-is made map = λ i. list_any (λ plan. eqb (owners-are plan i) map) made

  pub transfers-are : (k : ℕ) (m : Maker) → m ≡ maker_of job k → transfers_with shapes k m ≡ transfers job k
  transfers-are k m is = ap (λ s. transfers_with s k m) known ∙ transfers-shape job k m ∙ ap (transfers_by job k) is
