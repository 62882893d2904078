-- What holds of a given value that is read.
use Rattle.std.proofs.Common.{◌≡◌, ℤ, ◌*◌, ◌<◌, ◌≤◌, ℕ, true, List, [], Option, Some, None, Ok, length, refl, subst, arith}
use Rattle.std.specs.Prelude.{codes, nat_le, ◌==◌, ◌&&◌}
use Rattle.std.specs.List.{All}
use Rattle.std.proofs.lemmas.Bool.{and_parts, leb-true, eqb-true}
use Rattle.std.proofs.lemmas.List.Elements.{All-nil, All-cons}
use Rattle.toml.specs.Data.{Data, Members, get_member}
use Rattle.map_core.specs.Layouts.{Layout}
use Rattle.model_defs.specs.declared.job.Job.{Job}
use Rattle.model_defs.specs.declared.job.VectorSpec.{VectorSpec}
use Rattle.model_defs.specs.declared.job.PartsSpec.{PartsSpec}
use Rattle.model_defs.specs.declared.job.MatrixSpec.{MatrixSpec}
use Rattle.model_defs.specs.declared.job.Origin.{Origin}
use Rattle.model_defs.specs.declared.job.Origin.TheVariants.{Fill}
use Rattle.model_defs.specs.Given.{origin_files}
use Rattle.model_defs.specs.Makers.{GivenMatrix}
use Rattle.model_defs.specs.Limits.{most_indices, most_columns, HasFewCells}
use Rattle.model_defs.specs.Valid.{IsVectorFile, ArePartFiles}
use Rattle.job_text.specs.declared.fault.JobFault.TheVariants.{BadMap}
use Rattle.job_text.specs.declared.place.Place.{Place}
use Rattle.job_text.specs.declared.words.Form.TheVariants as form
use Rattle.job_text.specs.Outcomes.{◌>>=◌}
use Rattle.job_text.specs.Names.{Text}
use Rattle.job_text.specs.Keys.{wrong_kind, limit, integer_of, file_of, only_keys, new_name_at, map_at, file_at}
use Rattle.job_text.specs.Lists.{file_names_of, one_per_rank}
use Rattle.job_text.specs.Layouts.{index_count, is_one_to_one, is_total}
use Rattle.job_text.specs.Known.{Known, layout_at, map_name}
use Rattle.job_text.specs.Given.{form_beside, columns_at, filled, vector_origin_by, vector_origin, part_files, parts_origin_by, parts_origin, few_cells, vector_tested, vector_keys, vector_in, parts_keys, parts_in, split_at, whole_map, matrix_tested, matrix_keys, matrix_in}
use Rattle.job_validity.proofs.Outcomes.{Holds, bind, when, skip}
use Rattle.job_validity.proofs.KeyFacts.{IsWithin, IsNewName, IsFilled, number-or, new-name, map-at, file-at, file-of}
use Rattle.job_validity.proofs.ListFacts.{file-names}
use Rattle.job_validity.proofs.Seen.{IsMapped, IsMakerFor, IsVectorFor, IsPartsFor, owner-map, matrix-map, below-maps}

-- ---- where numbers come from

abbrev IsVectorOrigin : Origin → Type 0
IsVectorOrigin o = IsVectorFile o × All IsFilled (origin_files o)

abbrev ArePartsOrigin : ℕ → Origin → Type 0
ArePartsOrigin P o = ArePartFiles P o × All IsFilled (origin_files o)

module _ (at : Place) where
  filled-as : (P : Origin → Type 0) → ((number : ℤ) → P (Fill number)) → (partner : Text) (fill : Option Data) → Holds P (filled at partner fill)
  filled-as P each partner None = tt
  filled-as P each partner (Some d) = skip P (integer_of at (codes "fill") d) _ each

  vector-origin : (file fill : Option Data) → Holds IsVectorOrigin (vector_origin_by at file fill)
  vector-origin (Some d) fill = bind IsFilled IsVectorOrigin (file_of at (codes "file") d) _ (file-of at (codes "file") d) (λ name f. (refl, All-cons IsFilled name [] f (All-nil IsFilled)))
  vector-origin None fill = filled-as IsVectorOrigin (λ number. (tt, All-nil IsFilled)) (codes "file") fill

  part-files : (P : ℕ) (d : Data) → Holds (ArePartsOrigin P) (part_files at P d)
  part-files P d =
      bind (λ names. (length names ≡ P) × All IsFilled names) (ArePartsOrigin P) (file_names_of at (codes "files") d >>= one_per_rank at (codes "files") P) _
      (bind (All IsFilled) (λ names. (length names ≡ P) × All IsFilled names) (file_names_of at (codes "files") d) (one_per_rank at (codes "files") P) (file-names at (codes "files") d)
      (λ names f. when (λ (names : List Text). (length names ≡ P) × All IsFilled names) (length names == P) (Ok names) (wrong_kind at (codes "files")) (λ e. (eqb-true (length names) P e, f))))
      (λ names h. h)

  parts-origin : (P : ℕ) (files fill : Option Data) → Holds (ArePartsOrigin P) (parts_origin_by at P files fill)
  parts-origin P (Some d) fill = part-files P d
  parts-origin P None fill = filled-as (ArePartsOrigin P) (λ number. (tt, All-nil IsFilled)) (codes "files") fill

  columns : (table : Members) → Holds (IsWithin 1 most_columns) (columns_at at table)
  columns table = number-or at table (codes "columns") 1 1 most_columns (omega arith, omega arith)

  few-cells : (m : Layout) (n : ℕ) → Holds (λ few. index_count m * n ≤ most_indices) (few_cells at m n)
  few-cells m n = when (λ few. index_count m * n ≤ most_indices) (nat_le (index_count m * n) most_indices) (Ok tt) (limit at (codes "columns")) (λ e. leb-true (index_count m * n) most_indices e)

-- few cells by what is named are few cells of the job
has-few : (job : Job) (known : Known) (m n : ℕ) → IsMapped job known → m < length known.maps → IsWithin 1 most_columns n → index_count (layout_at known m) * n ≤ most_indices → HasFewCells job m n
has-few job known m n mapped l w few = record { some = w.0; few = w.1; cells = subst (λ k. index_count k * n ≤ most_indices) (mapped.layouts m l) few }

-- ---- vectors

pub record IsVectorKeys (known : Known) (spec : VectorSpec) : Type 0 where
  pub name : IsNewName known spec.name
  pub map : spec.map < length known.maps
  pub columns : IsWithin 1 most_columns spec.columns
  pub origin : IsVectorOrigin spec.from

module _ (at : Place) (table : Members) (known : Known) where
  vector-keys : Holds (IsVectorKeys known) (vector_keys at table known)
  vector-keys =
      bind (IsNewName known) (IsVectorKeys known) (new_name_at at table known) _ (new-name at table known) (λ name n.
      bind (λ m. m < length known.maps) (IsVectorKeys known) (map_at at table (codes "map") known) _ (map-at at table (codes "map") known) (λ m l.
      bind (IsWithin 1 most_columns) (IsVectorKeys known) (columns_at at table) _ (columns at table) (λ c w.
      bind IsVectorOrigin (IsVectorKeys known) (vector_origin at table) _ (vector-origin at (get_member (codes "file") table) (get_member (codes "fill") table)) (λ origin o.
      record { name = n; map = l; columns = w; origin = o }))))

  vector-for : (spec : VectorSpec) → IsVectorKeys known spec → is_one_to_one (layout_at known spec.map) ≡ true → index_count (layout_at known spec.map) * spec.columns ≤ most_indices → IsVectorFor known spec
  vector-for spec keys e few = record {
    maker = record { name = keys.name; files = keys.origin.1; valid = λ job seen made. (owner-map job known seen.maps spec.map keys.map e, keys.origin.0) };
    few = λ job mapped. has-few job known spec.map spec.columns mapped keys.map keys.columns few;
  }

  vector-tested : (spec : VectorSpec) → IsVectorKeys known spec → Holds (IsVectorFor known) (vector_tested at known spec)
  vector-tested spec keys =
      when (IsVectorFor known) (is_one_to_one (layout_at known spec.map)) (few_cells at (layout_at known spec.map) spec.columns >>= λ few. Ok spec) (BadMap (map_name known spec.map)) (λ e.
      bind (λ few. index_count (layout_at known spec.map) * spec.columns ≤ most_indices) (IsVectorFor known) (few_cells at (layout_at known spec.map) spec.columns) (λ few. Ok spec)
      (few-cells at (layout_at known spec.map) spec.columns) (λ t few. vector-for spec keys e few))

  pub vector-in : Holds (IsVectorFor known) (vector_in at table known)
  vector-in =
      skip (IsVectorFor known) (only_keys at (form_beside form.OfFile (get_member (codes "file") table)) table) _ (λ only.
      bind (IsVectorKeys known) (IsVectorFor known) (vector_keys at table known) (vector_tested at known) vector-keys vector-tested)

-- ---- parts

pub record ArePartsKeys (known : Known) (spec : PartsSpec) : Type 0 where
  pub name : IsNewName known spec.name
  pub map : spec.map < length known.maps
  pub columns : IsWithin 1 most_columns spec.columns
  pub origin : ArePartsOrigin known.ranks spec.from

module _ (at : Place) (table : Members) (known : Known) where
  parts-keys : Holds (ArePartsKeys known) (parts_keys at table known)
  parts-keys =
      bind (IsNewName known) (ArePartsKeys known) (new_name_at at table known) _ (new-name at table known) (λ name n.
      bind (λ m. m < length known.maps) (ArePartsKeys known) (map_at at table (codes "map") known) _ (map-at at table (codes "map") known) (λ m l.
      bind (IsWithin 1 most_columns) (ArePartsKeys known) (columns_at at table) _ (columns at table) (λ c w.
      bind (ArePartsOrigin known.ranks) (ArePartsKeys known) (parts_origin at table known.ranks) _ (parts-origin at known.ranks (get_member (codes "files") table) (get_member (codes "fill") table)) (λ origin o.
      record { name = n; map = l; columns = w; origin = o }))))

  parts-for : (spec : PartsSpec) → ArePartsKeys known spec → index_count (layout_at known spec.map) * spec.columns ≤ most_indices → IsPartsFor known spec
  parts-for spec keys few = record {
    maker = record {
      name = keys.name;
      files = keys.origin.1;
      valid = λ job seen made. (below-maps job known seen.maps spec.map keys.map, subst (λ P. ArePartFiles P spec.from) seen.maps.ranks keys.origin.0);
    };
    few = λ job mapped. has-few job known spec.map spec.columns mapped keys.map keys.columns few;
  }

  pub parts-in : Holds (IsPartsFor known) (parts_in at table known)
  parts-in =
      skip (IsPartsFor known) (only_keys at (form_beside form.OfFiles (get_member (codes "files") table)) table) _ (λ only.
      bind (ArePartsKeys known) (IsPartsFor known) (parts_keys at table known) _ parts-keys (λ spec keys.
      bind (λ few. index_count (layout_at known spec.map) * spec.columns ≤ most_indices) (IsPartsFor known) (few_cells at (layout_at known spec.map) spec.columns) (λ few. Ok spec)
      (few-cells at (layout_at known spec.map) spec.columns) (λ t few. parts-for spec keys few)))

-- ---- matrices

abbrev IsWholeMap : Known → ℕ → Type 0
IsWholeMap known m = (is_one_to_one (layout_at known m) ≡ true) × (is_total (layout_at known m) ≡ true)

pub record IsMatrixKeys (known : Known) (spec : MatrixSpec) : Type 0 where
  pub name : IsNewName known spec.name
  pub rows : spec.rows < length known.maps
  pub domain : spec.domain < length known.maps
  pub file : IsFilled spec.file

module _ (at : Place) (table : Members) (known : Known) where
  matrix-keys : Holds (IsMatrixKeys known) (matrix_keys at table known)
  matrix-keys =
      bind (IsNewName known) (IsMatrixKeys known) (new_name_at at table known) _ (new-name at table known) (λ name n.
      skip (IsMatrixKeys known) (split_at at table) _ (λ split.
      bind (λ m. m < length known.maps) (IsMatrixKeys known) (map_at at table (codes "rows") known) _ (map-at at table (codes "rows") known) (λ rows l.
      bind (λ m. m < length known.maps) (IsMatrixKeys known) (map_at at table (codes "domain") known) _ (map-at at table (codes "domain") known) (λ domain m.
      bind IsFilled (IsMatrixKeys known) (file_at at table (codes "file")) _ (file-at at table (codes "file")) (λ file f.
      record { name = n; rows = l; domain = m; file = f })))))

  whole-map : (m : ℕ) → Holds (λ t. IsWholeMap known m) (whole_map known m)
  whole-map m =
      when (λ t. IsWholeMap known m) (is_one_to_one (layout_at known m) && is_total (layout_at known m)) (Ok tt) (BadMap (map_name known m))
      (λ e. and_parts (is_one_to_one (layout_at known m)) (is_total (layout_at known m)) e)

  matrix-for : (spec : MatrixSpec) → IsMatrixKeys known spec → IsWholeMap known spec.rows → IsWholeMap known spec.domain → IsMakerFor known (GivenMatrix spec)
  matrix-for spec keys r d = record {
    name = keys.name;
    files = All-cons IsFilled spec.file [] keys.file (All-nil IsFilled);
    valid = λ job seen made. (matrix-map job known seen.maps spec.rows keys.rows r.0 r.1, matrix-map job known seen.maps spec.domain keys.domain d.0 d.1);
  }

  abbrev IsMatrixFor : MatrixSpec → Type 0
  IsMatrixFor spec = IsMakerFor known (GivenMatrix spec)

  matrix-tested : (spec : MatrixSpec) → IsMatrixKeys known spec → Holds IsMatrixFor (matrix_tested known spec)
  matrix-tested spec keys =
      bind (λ t. IsWholeMap known spec.rows) IsMatrixFor (whole_map known spec.rows) _ (whole-map spec.rows) (λ t r.
      bind (λ t. IsWholeMap known spec.domain) IsMatrixFor (whole_map known spec.domain) _ (whole-map spec.domain) (λ s d. matrix-for spec keys r d))

  pub matrix-in : Holds (λ spec. IsMakerFor known (GivenMatrix spec)) (matrix_in at table known)
  matrix-in =
      skip IsMatrixFor (only_keys at form.Matrix table) _ (λ only.
      bind (IsMatrixKeys known) IsMatrixFor (matrix_keys at table known) (matrix_tested known) matrix-keys matrix-tested)
