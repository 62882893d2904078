-- A matrix with a structure of its own, as its rank completes it.
use Rattle.std.specs.Prelude.{◌≡◌, ℕ, Bool, true, false, List, Option, None, Some}
use Rattle.crs_matrix.specs.Matrices.{Crs, crs_table}
use Rattle.crs_matrix.specs.Rows.{RowCells, row_table}
use Rattle.map_core.specs.Plans.{PlanLists}
use Rattle.mm_text.specs.Reading.{File}
use Rattle.model_defs.specs.declared.job.Job.{Job}
use Rattle.model_defs.specs.declared.phase.Plan.TheVariants.{ColumnPlan, RowPlan}
use Rattle.model_defs.specs.Maps.{list_of}
use Rattle.model_defs.specs.Shapes.{shape}
use Rattle.plan_phases.specs.BookCalls.{IsPlanList}
use Rattle.rank_pieces.specs.Pieces.{HasPlan}

-- The matrix under construction on its column map, which is a list of the rank's column plan.
pub record IsOnColumns {S : Type 0} (job : Job) (files : List File) (me k : ℕ) (fill : RowCells S) (m : Crs S) : Type 0 where
  pub rows : m.graph.rows ≡ fill.rows
  pub table : crs_table m ≡ row_table fill
  pub list : IsPlanList job files (ColumnPlan k) me m.graph.cols

-- The plan of its rows, where it is split.
abbrev pub IsRowPlan : Job → List File → ℕ → ℕ → List ℕ → (split : Bool) → Option PlanLists → Type 0
IsRowPlan job files me k rows false made = made ≡ None
IsRowPlan job files me k rows true made = (plan : PlanLists) × (made ≡ Some plan) × HasPlan job files me (RowPlan k) (list_of job (shape job k).rows me) rows plan
