-- What a rank is given of the files of a job: the cells of its own indices, and the entries that are dealt to it.
use Rattle.std.specs.Prelude.{ℕ, ℤ, ◌+◌, List, [], map, length}
use Rattle.std.specs.List.{flat_map}
use Rattle.std.specs.Option.{unwrap_or}
use Rattle.tables.specs.declared.Cell.{Cell}
use Rattle.tables.specs.Indices.{count_from, dealt}
use Rattle.map_core.specs.Layouts.{local_index}
use Rattle.mm_text.specs.declared.file_data.Line.{Line}
use Rattle.mm_text.specs.declared.file_data.Mirror.{Mirror}
use Rattle.mm_text.specs.Reading.{File}
use Rattle.model_defs.specs.declared.job.Job.{Job}
use Rattle.model_defs.specs.declared.job.Origin.{Origin}
use Rattle.model_defs.specs.declared.job.Origin.TheVariants.{Files, Fill}
use Rattle.model_defs.specs.FileMatrix.{entry_cells}
use Rattle.model_defs.specs.Given.{value_file}
use Rattle.model_defs.specs.Makers.{Maker, GivenVector, GivenParts, GivenMatrix, Made, maker_of}
use Rattle.model_defs.specs.Maps.{list_of}
use Rattle.rank_share.specs.declared.share.Share.{Share}
use Rattle.rank_share.specs.CellLines.{cell_lines, filled_lines}

-- the lines of the indices of a list, from a file or from one number for each cell
abbrev pub origin_lines : (ℕ → ℕ) → List ℕ → ℕ → Origin → File → List Line
origin_lines row list columns (Files names) file = cell_lines row list columns file.lines
origin_lines row list columns (Fill v) file = filled_lines list columns v

-- the place of an index in a list
abbrev pub place_in : List ℕ → ℕ → ℕ
place_in list g = unwrap_or (local_index list g) 0

-- Rank p's cells of value k: the file of a vector has a row for each index, that of a part one for each place of the list.
abbrev pub lines_by : Job → List File → ℕ → ℕ → Maker → List Line
lines_by job files p k (GivenVector spec) = origin_lines (λ g. g) (list_of job spec.map p) spec.columns spec.from (value_file job files k 0)
lines_by job files p k (GivenParts spec) = origin_lines (place_in (list_of job spec.map p)) (list_of job spec.map p) spec.columns spec.from (value_file job files k p)
lines_by job files p k (GivenMatrix spec) = []
lines_by job files p k (Made step) = []

abbrev pub value_lines : Job → List File → ℕ → ℕ → List Line
value_lines job files p k = lines_by job files p k (maker_of job k)

-- a place of an entry as a line
abbrev pub place_line : Cell ℤ → Line
place_line c = record { row = c.row; col = c.col; value = c.value }

-- the places that an entry stands for: its own, then its mirrored one
abbrev pub entry_lines : Mirror → Line → List Line
entry_lines mirror l = map place_line (entry_cells mirror l)

-- the places of the entries that are dealt to rank p of P, in file order
abbrev pub place_lines : ℕ → ℕ → File → List Line
place_lines P p file = flat_map (entry_lines file.mirror) (dealt P p file.lines)

-- how many vectors and parts are given
abbrev pub cell_count : Job → ℕ
cell_count job = length job.vectors + length job.parts

-- What rank p is given: for each vector, then for each parts, its cells; for each matrix the places that it is dealt.
abbrev pub share : Job → List File → ℕ → Share
share job files p = record {
  cells = map (value_lines job files p) (count_from 0 (cell_count job));
  places = map (λ k. place_lines job.ranks p (value_file job files k 0)) (count_from (cell_count job) (length job.matrices));
}
