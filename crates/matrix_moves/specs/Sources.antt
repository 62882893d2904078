-- What gives rows: the entries of a source, seen as the rows of a matrix.
use Rattle.std.specs.Prelude.{◌≡◌, ℕ, ◌≤◌, ◌^◌, ◌<◌, nat_lt, true, List, map, length, is_some}
use Rattle.std.specs.List.{flat_map, list_all}
use Rattle.scalar_laws.specs.Conversions.{Conversions}
use Rattle.tables.specs.Indices.{AreDistinct, count_from, stands}
use Rattle.tables.specs.Tables.{Table, all_cells, only_rows}
use Rattle.map_core.specs.Classes.{indices_at}
use Rattle.map_core.specs.Plans.{PlanLists, export_list}
use Rattle.letter_codec.specs.Letters.{letter_bytes}
use Rattle.letter_codec.specs.declared.kind.Kind.TheVariants.{Rows}
use Rattle.distributor.specs.Entries.{Entry}
use Rattle.distributor.specs.Packed.{cell_count}
use Rattle.crs_matrix.specs.Rows.{IsRowCells, RowCells, row_table}
use Rattle.vector_moves.specs.Moves.{own_sources}
use Rattle.model_defs.specs.Letters.{row_words}

-- The entries of a source as rows, each with its cells.
abbrev pub as_rows : {S : Type 0} → List (Entry S) → RowCells S
as_rows entries = record { rows = map (λ e. e.gid) entries; cells = map (λ e. e.cells) entries }

-- They are the rows of a matrix: none stands twice, and the columns of each ascend.
pub record IsRowSource {S : Type 0} (a : RowCells S) : Type 0 where
  pub distinct : AreDistinct a.rows
  pub is_matrix : IsRowCells a

-- Its columns are below a width.
abbrev pub HasWidth : {S : Type 0} → ℕ → Table S → Type 0
HasWidth width t = (i j : ℕ) → is_some (t i j) ≡ true → j < width

-- The rows of a source that stay on their rank, by global index.
abbrev pub own_rows : {S : Type 0} → PlanLists → RowCells S → Table S
own_rows plan a = only_rows (λ g. stands g (indices_at a.rows (own_sources plan))) (row_table a)

-- The global indices of the rows that are sent to a rank.
abbrev pub rows_to : PlanLists → List ℕ → ℕ → List ℕ
rows_to plan list q = indices_at list (export_list plan q)

-- The letter of these rows of a table, whose columns are below a width: of each its index, the number of its places and their
-- columns, and behind all of them the numbers of the places.
abbrev pub rows_letter : {S : Type 0} → Conversions S → ℕ → Table S → List ℕ → List ℕ
rows_letter F width t rows =
    letter_bytes Rows (flat_map (row_words t width) rows) (flat_map (λ c. F.to_wire c.value) (all_cells t rows (count_from 0 width)))

-- Entries of which a letter has fewer than 2^64 bytes.
pub record IsShort {S : Type 0} (sent : List (Entry S)) : Type 0 where
  pub few_rows : length sent ≤ 2 ^ 56
  pub few_places : list_all (λ e. nat_lt (length e.cells) 4294967296) sent ≡ true
  pub few_cells : cell_count sent ≤ 2 ^ 56
