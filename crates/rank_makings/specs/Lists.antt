-- The lists of a rank between which a transfer goes.
use Rattle.std.specs.Prelude.{ℕ, List, [], Option, None, Some, slice_get}
use Rattle.mm_text.specs.Reading.{File}
use Rattle.model_defs.specs.declared.job.Job.{Job}
use Rattle.model_defs.specs.declared.phase.Plan.{Plan}
use Rattle.model_defs.specs.declared.phase.Plan.TheVariants.{ImportPlan, ExportPlan, ColumnPlan, RowPlan}
use Rattle.model_defs.specs.declared.phase.Transfer.{Transfer}
use Rattle.model_defs.specs.declared.phase.Way.{Way}
use Rattle.model_defs.specs.declared.phase.Way.TheVariants.{FromOwners, ToOwners}
use Rattle.model_defs.specs.Maps.{list_of}
use Rattle.model_defs.specs.Plans.{rank_rows}
use Rattle.model_defs.specs.Transfers.{owner_map}
use Rattle.rank_pieces.specs.declared.pieces.Piece.{Piece}
use Rattle.rank_pieces.specs.declared.pieces.Piece.TheVariants.{Vector, Matrix}

-- the column map of a piece, if it is a matrix
abbrev pub columns_in : {S : Type 0} → Option (Piece S) → List ℕ
columns_in None = []
columns_in (Some (Vector v)) = []
columns_in (Some (Matrix m)) = m.matrix.graph.cols

-- its rows, or, where there is no piece yet, those of the rank's part
abbrev pub rows_in : {S : Type 0} → List ℕ → Option (Piece S) → List ℕ
rows_in part None = part
rows_in part (Some (Vector v)) = []
rows_in part (Some (Matrix m)) = m.matrix.graph.rows

module _ {S : Type 0} (job : Job) (files : List File) (me : ℕ) (pieces : List (Piece S)) where
  -- the rank's list by a plan, as its code has it: the columns of a matrix are listed by its column map
  abbrev pub shared_list : Plan → List ℕ
  shared_list (ImportPlan source target) = list_of job target me
  shared_list (ExportPlan source target) = list_of job source me
  shared_list (ColumnPlan value) = columns_in (slice_get pieces value)
  shared_list (RowPlan value) = rows_in (rank_rows job files value me) (slice_get pieces value)

  -- the lists of what it sends and of what it gathers
  abbrev pub list_from : Way → Plan → List ℕ
  list_from FromOwners plan = list_of job (owner_map job plan) me
  list_from ToOwners plan = shared_list plan

  abbrev pub list_to : Way → Plan → List ℕ
  list_to FromOwners plan = shared_list plan
  list_to ToOwners plan = list_of job (owner_map job plan) me

  abbrev pub source_list : Transfer → List ℕ
  source_list t = list_from t.way t.plan

  abbrev pub target_list : Transfer → List ℕ
  target_list t = list_to t.way t.plan
