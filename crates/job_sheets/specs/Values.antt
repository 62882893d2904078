-- What is printed of a value, by the cells that the ranks have of it.
use Rattle.std.specs.Prelude.{ℕ, Bool, true, false, List, [], map}
use Rattle.std.specs.Global.{Vec}
use Rattle.std.specs.List.{slice_index_or}
use Rattle.scalar_laws.specs.Semiring.{Semiring}
use Rattle.scalar_laws.specs.Conversions.{Conversions}
use Rattle.tables.specs.declared.Cell.{Cell}
use Rattle.tables.specs.Indices.{each_rank}
use Rattle.tables.specs.Tables.{Table, found, sum_of}
use Rattle.model_defs.specs.declared.job.Job.{Job}
use Rattle.model_defs.specs.declared.sheets.Sheet.{Sheet}
use Rattle.model_defs.specs.Pieces.{Value}
use Rattle.model_defs.specs.Shapes.{shape, is_by_rank}
use Rattle.model_defs.specs.Sheets.{sheets_by}

-- rank p's table: what is found among its cells, and nothing where there is no such rank
abbrev pub table_at : {S : Type 0} → List (Vec (Cell S)) → ℕ → Table S
table_at pieces p = found (slice_index_or (map (λ piece. piece.items) pieces) p [])

-- The tables of P ranks as a value: each by itself where the value has a part for each rank, else their sum.
abbrev pub value_of : {S : Type 0} → Semiring S → ℕ → Bool → (ℕ → Table S) → Value S
value_of R P true tables = tables
value_of R P false tables = λ p. sum_of R (each_rank P tables)

-- what is printed of value v of a job, where the ranks have these cells of it
abbrev pub sheets_of_pieces : {S : Type 0} → Semiring S → Conversions S → Job → ℕ → List (Vec (Cell S)) → List Sheet
sheets_of_pieces R F job v pieces =
    sheets_by F job (shape job v).sort (shape job v) (value_of R job.ranks (is_by_rank (shape job v).sort) (table_at pieces))
