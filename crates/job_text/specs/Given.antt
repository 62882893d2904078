-- The tables of the given values: `vector`, `parts` and `matrix`.
use Rattle.std.specs.Prelude.{◌+◌, ◌*◌, ◌&&◌, ℕ, Bool, List, [], ◌∷◌, ◌++◌, Option, Some, None, Ok, Err, codes, nat_le, if◌then◌else◌}
use Rattle.toml.specs.Data.{Data, Items, no_items, item, Members, get_member}
use Rattle.map_core.specs.Layouts.{Layout}
use Rattle.model_defs.specs.declared.job.VectorSpec.{VectorSpec}
use Rattle.model_defs.specs.declared.job.PartsSpec.{PartsSpec}
use Rattle.model_defs.specs.declared.job.MatrixSpec.{MatrixSpec}
use Rattle.model_defs.specs.declared.job.Origin.{Origin}
use Rattle.model_defs.specs.declared.job.Origin.TheVariants.{Files, Fill}
use Rattle.model_defs.specs.Limits.{most_indices, most_columns}
use Rattle.model_defs.specs.Makers.{GivenVector, GivenParts, GivenMatrix}
use Rattle.job_text.specs.declared.fault.JobFault.TheVariants.{Missing, BadMap}
use Rattle.job_text.specs.declared.place.Place.{Place}
use Rattle.job_text.specs.declared.place.Place.TheVariants as place
use Rattle.job_text.specs.declared.words.Form.{Form}
use Rattle.job_text.specs.declared.words.Form.TheVariants as form
use Rattle.job_text.specs.Outcomes.{Outcome, ◌>>=◌, or_fault}
use Rattle.job_text.specs.Names.{Text, key_name}
use Rattle.job_text.specs.Words.{split_named}
use Rattle.job_text.specs.Keys.{wrong_kind, limit, required, text_of, file_of, integer_of, only_keys, number_or, new_name_at, map_at, file_at}
use Rattle.job_text.specs.Lists.{file_names_of, one_per_rank}
use Rattle.job_text.specs.Layouts.{index_count, is_one_to_one, is_total}
use Rattle.job_text.specs.Known.{Known, layout_at, map_name, with_maker, Read, read}
use Rattle.job_text.specs.Tables.{table_of}

-- beside a file there is no `fill`
abbrev pub form_beside : Form → Option Data → Form
form_beside beside None = form.Filled
form_beside beside (Some d) = beside

abbrev pub columns_at : Place → Members → Outcome ℕ
columns_at at table = number_or at table (codes "columns") 1 1 most_columns

-- one number for each cell, where there is no file
abbrev pub filled : Place → Text → Option Data → Outcome Origin
filled at partner None = Err (Missing (key_name at partner))
filled at partner (Some d) = integer_of at (codes "fill") d >>= λ number. Ok (Fill number)

-- a vector's one file
abbrev pub vector_file : Place → Data → Outcome Origin
vector_file at d = file_of at (codes "file") d >>= λ name. Ok (Files (name ∷ []))

abbrev pub vector_origin_by : Place → (file fill : Option Data) → Outcome Origin
vector_origin_by at (Some d) fill = vector_file at d
vector_origin_by at None fill = filled at (codes "file") fill

abbrev pub vector_origin : Place → Members → Outcome Origin
vector_origin at table = vector_origin_by at (get_member (codes "file") table) (get_member (codes "fill") table)

-- a file of parts for each rank
abbrev pub part_files : Place → ℕ → Data → Outcome Origin
part_files at P d = file_names_of at (codes "files") d >>= one_per_rank at (codes "files") P >>= λ names. Ok (Files names)

abbrev pub parts_origin_by : Place → ℕ → (files fill : Option Data) → Outcome Origin
parts_origin_by at P (Some d) fill = part_files at P d
parts_origin_by at P None fill = filled at (codes "files") fill

abbrev pub parts_origin : Place → Members → ℕ → Outcome Origin
parts_origin at table P = parts_origin_by at P (get_member (codes "files") table) (get_member (codes "fill") table)

-- on a map there are at most so many cells
abbrev pub few_cells : Place → Layout → ℕ → Outcome (Unit {0})
few_cells at m columns =
    if nat_le (index_count m * columns) most_indices then Ok tt else Err (limit at (codes "columns"))

-- each index of the map has one owner at most
abbrev pub vector_tested : Place → Known → VectorSpec → Outcome VectorSpec
vector_tested at known spec =
    if is_one_to_one (layout_at known spec.map)
    then (few_cells at (layout_at known spec.map) spec.columns >>= λ few. Ok spec)
    else Err (BadMap (map_name known spec.map))

abbrev pub vector_keys : Place → Members → Known → Outcome VectorSpec
vector_keys at table known = do
  name ← new_name_at at table known
  m ← map_at at table (codes "map") known
  columns ← columns_at at table
  origin ← vector_origin at table
  Ok (record { name = name; map = m; columns = columns; from = origin })

abbrev pub vector_in : Place → Members → Known → Outcome VectorSpec
vector_in at table known = do
  only ← only_keys at (form_beside form.OfFile (get_member (codes "file") table)) table
  spec ← vector_keys at table known
  vector_tested at known spec

abbrev pub parts_keys : Place → Members → Known → Outcome PartsSpec
parts_keys at table known = do
  name ← new_name_at at table known
  m ← map_at at table (codes "map") known
  columns ← columns_at at table
  origin ← parts_origin at table known.ranks
  Ok (record { name = name; map = m; columns = columns; from = origin })

abbrev pub parts_in : Place → Members → Known → Outcome PartsSpec
parts_in at table known = do
  only ← only_keys at (form_beside form.OfFiles (get_member (codes "files") table)) table
  spec ← parts_keys at table known
  few ← few_cells at (layout_at known spec.map) spec.columns
  Ok spec

-- the kind of a matrix: whether it is split
abbrev pub split_of : Place → Data → Outcome Bool
split_of at d = text_of at (codes "kind") d >>= λ word. or_fault (wrong_kind at (codes "kind")) (split_named word)

abbrev pub split_at : Place → Members → Outcome Bool
split_at at table = required at table (codes "kind") >>= split_of at

-- each index of a matrix's maps has exactly one owner: first of the rows, then of the domain
abbrev pub whole_map : Known → ℕ → Outcome (Unit {0})
whole_map known m =
    if is_one_to_one (layout_at known m) && is_total (layout_at known m) then Ok tt else Err (BadMap (map_name known m))

abbrev pub matrix_tested : Known → MatrixSpec → Outcome MatrixSpec
matrix_tested known spec = do
  rows ← whole_map known spec.rows
  domain ← whole_map known spec.domain
  Ok spec

abbrev pub matrix_keys : Place → Members → Known → Outcome MatrixSpec
matrix_keys at table known = do
  name ← new_name_at at table known
  split ← split_at at table
  rows ← map_at at table (codes "rows") known
  domain ← map_at at table (codes "domain") known
  file ← file_at at table (codes "file")
  Ok (record { name = name; split = split; rows = rows; domain = domain; file = file })

abbrev pub matrix_in : Place → Members → Known → Outcome MatrixSpec
matrix_in at table known = do
  only ← only_keys at form.Matrix table
  spec ← matrix_keys at table known
  matrix_tested known spec

-- the values of the tables from number k on, after those that were read
abbrev pub vectors_after : Read VectorSpec → ℕ → Items → Outcome (Read VectorSpec)
vectors_after so_far k no_items = Ok so_far
vectors_after so_far k (item d ds) = do
  table ← table_of (codes "vector") d
  spec ← vector_in (place.Vector k) table so_far.known
  vectors_after (read (with_maker so_far.known (GivenVector spec)) (so_far.done ++ spec ∷ [])) (k + 1) ds

abbrev pub parts_after : Read PartsSpec → ℕ → Items → Outcome (Read PartsSpec)
parts_after so_far k no_items = Ok so_far
parts_after so_far k (item d ds) = do
  table ← table_of (codes "parts") d
  spec ← parts_in (place.Parts k) table so_far.known
  parts_after (read (with_maker so_far.known (GivenParts spec)) (so_far.done ++ spec ∷ [])) (k + 1) ds

abbrev pub matrices_after : Read MatrixSpec → ℕ → Items → Outcome (Read MatrixSpec)
matrices_after so_far k no_items = Ok so_far
matrices_after so_far k (item d ds) = do
  table ← table_of (codes "matrix") d
  spec ← matrix_in (place.Matrix k) table so_far.known
  matrices_after (read (with_maker so_far.known (GivenMatrix spec)) (so_far.done ++ spec ∷ [])) (k + 1) ds
