-- Values as tables, and each rank's piece of a value.
use Rattle.std.specs.Prelude.{ℕ, Bool, ◌||◌}
use Rattle.tables.specs.Tables.{Table, only_rows}
use Rattle.model_defs.specs.declared.job.Job.{Job}
use Rattle.model_defs.specs.Maps.{has_index}
use Rattle.model_defs.specs.Shapes.{Shape, is_by_rank}

-- The tables of a value by part number: of parts and of a split matrix that of each part; a vector or a matrix is whole,
-- and each number gives the whole.
abbrev pub Value : Type 0 → Type 0
Value S = ℕ → Table S

-- the rows of a value that rank p has: of a whole value those of its list of the row map
abbrev pub has_row : Job → Shape → ℕ → ℕ → Bool
has_row job s p i = is_by_rank s.sort || has_index job s.rows p i

-- rank p's piece of a value
abbrev pub piece_of : {S : Type 0} → Job → Shape → ℕ → Value S → Table S
piece_of job s p v = only_rows (has_row job s p) (v p)
