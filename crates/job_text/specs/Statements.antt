-- The statements: what the operands of each must be. The sorts are tested first, then the maps and sizes, then the cover.
use Rattle.std.specs.Prelude.{◌==◌, ◌&&◌, ◌||◌, ℕ, Bool, true, not, Option, Some, None, Ok, Err, if◌then◌else◌}
use Rattle.map_core.specs.Layouts.{Layout}
use Rattle.model_defs.specs.declared.shape.Shape.{Shape}
use Rattle.model_defs.specs.declared.shape.Sort.{Sort}
use Rattle.model_defs.specs.Shapes.{is_split_sort}
use Rattle.job_text.specs.declared.fault.JobFault.TheVariants.{BadMap, MapMismatch, NotCovered, WrongSort}
use Rattle.job_text.specs.Outcomes.{Outcome, ◌>>=◌}
use Rattle.job_text.specs.Sorts.{is_vector, is_parts, is_matrix}
use Rattle.job_text.specs.Layouts.{covers, is_one_to_one, is_total}
use Rattle.job_text.specs.Known.{Known, layout_at, map_name, shape_at}

-- The sorts and the maps of statement k pass.
abbrev pub passes : ℕ → (sorts maps : Bool) → Outcome (Unit {0})
passes k sorts maps = if sorts then (if maps then Ok tt else Err (MapMismatch k)) else Err (WrongSort k)

module _ (known : Known) where
  abbrev pub sort_at : ℕ → Sort
  sort_at v = (shape_at known v).sort

  -- two maps, and the maps of two values, have one size
  abbrev pub are_same_size : ℕ → ℕ → Bool
  are_same_size m n = (layout_at known m).size == (layout_at known n).size

  abbrev pub have_same_rows : ℕ → ℕ → Bool
  have_same_rows v w = (shape_at known v).rows == (shape_at known w).rows

  abbrev pub have_same_columns : ℕ → ℕ → Bool
  have_same_columns v w = (shape_at known v).columns == (shape_at known w).columns

  -- A value is moved to a map on which each index has one owner, of a matrix exactly one, and which a vector covers.
  abbrev pub serves : Sort → ℕ → Bool
  serves sort m = is_one_to_one (layout_at known m) && (not (is_matrix sort) || is_total (layout_at known m))

  abbrev pub is_covered : ℕ → ℕ → Bool
  is_covered v m = not (is_vector (sort_at v)) || covers (layout_at known (shape_at known v).rows) (layout_at known m)

  abbrev pub can_move : ℕ → (source m : ℕ) → Outcome (Unit {0})
  can_move k source m =
      if is_vector (sort_at source) || is_matrix (sort_at source)
      then (if are_same_size (shape_at known source).rows m
      then (if serves (sort_at source) m
      then (if is_covered source m then Ok tt else Err (NotCovered k))
      else Err (BadMap (map_name known m)))
      else Err (MapMismatch k))
      else Err (WrongSort k)

  -- cells of one value are combined with those of another: sizes and columns are equal
  abbrev pub match_cells : ℕ → ℕ → Bool
  match_cells v w = are_same_size (shape_at known v).rows (shape_at known w).rows && have_same_columns v w

  abbrev pub can_import : ℕ → (source onto : ℕ) → Outcome (Unit {0})
  can_import k source onto = passes k (is_vector (sort_at source) && is_parts (sort_at onto)) (match_cells source onto)

  abbrev pub can_export : ℕ → (source onto : ℕ) → Outcome (Unit {0})
  can_export k source onto = passes k (is_parts (sort_at source) && is_vector (sort_at onto)) (match_cells source onto)

  abbrev pub can_spread : ℕ → (source m : ℕ) → Outcome (Unit {0})
  can_spread k source m = passes k (is_vector (sort_at source)) (are_same_size (shape_at known source).rows m)

  -- both are vectors or both are parts, on one map
  abbrev pub are_alike : ℕ → ℕ → Bool
  are_alike v w = (is_vector (sort_at v) && is_vector (sort_at w)) || (is_parts (sort_at v) && is_parts (sort_at w))

  abbrev pub can_update : ℕ → (x y : ℕ) → Outcome (Unit {0})
  can_update k x y = passes k (are_alike x y) (have_same_rows x y && have_same_columns x y)

  -- x of an apply is on the domain map and y on the map of the rows, exchanged where transposed
  abbrev pub map_of_x : ℕ → Bool → ℕ
  map_of_x a transposed = if transposed then (shape_at known a).rows else (shape_at known a).domain

  abbrev pub map_of_y : ℕ → Bool → ℕ
  map_of_y a transposed = if transposed then (shape_at known a).domain else (shape_at known a).rows

  abbrev pub is_vector_or_none : Option ℕ → Bool
  is_vector_or_none None = true
  is_vector_or_none (Some y) = is_vector (sort_at y)

  abbrev pub is_addend : (a x : ℕ) → Bool → Option ℕ → Bool
  is_addend a x transposed None = true
  is_addend a x transposed (Some y) = ((shape_at known y).rows == map_of_y a transposed) && have_same_columns x y

  abbrev pub are_of_apply : (a x : ℕ) → Option ℕ → Bool
  are_of_apply a x y = (is_matrix (sort_at a) || is_split_sort (sort_at a)) && is_vector (sort_at x) && is_vector_or_none y

  abbrev pub are_on_maps : (a x : ℕ) → Option ℕ → Bool → Bool
  are_on_maps a x y transposed = ((shape_at known x).rows == map_of_x a transposed) && is_addend a x transposed y

  abbrev pub can_apply : ℕ → (a x : ℕ) → Option ℕ → Bool → Outcome (Unit {0})
  can_apply k a x y transposed = passes k (are_of_apply a x y) (are_on_maps a x y transposed)

  abbrev pub can_transpose : ℕ → ℕ → Outcome (Unit {0})
  can_transpose k a = passes k (is_matrix (sort_at a)) true

  abbrev pub are_matrices : ℕ → ℕ → Bool
  are_matrices a b = is_matrix (sort_at a) && is_matrix (sort_at b)

  abbrev pub can_multiply : ℕ → (a b : ℕ) → Outcome (Unit {0})
  can_multiply k a b = passes k (are_matrices a b) ((shape_at known a).domain == (shape_at known b).rows)

  abbrev pub match_sizes : ℕ → ℕ → Bool
  match_sizes a b =
      are_same_size (shape_at known a).rows (shape_at known b).rows && are_same_size (shape_at known a).domain (shape_at known b).domain

  abbrev pub can_add : ℕ → (a b : ℕ) → Outcome (Unit {0})
  can_add k a b = passes k (are_matrices a b) (match_sizes a b)

  -- a split matrix is assembled onto a matrix on its maps
  abbrev pub is_matrix_or_none : Option ℕ → Bool
  is_matrix_or_none None = true
  is_matrix_or_none (Some onto) = is_matrix (sort_at onto)

  abbrev pub is_base : ℕ → Option ℕ → Bool
  is_base source None = true
  is_base source (Some onto) = have_same_rows source onto && ((shape_at known source).domain == (shape_at known onto).domain)

  abbrev pub can_assemble : ℕ → ℕ → Option ℕ → Outcome (Unit {0})
  can_assemble k source onto = passes k (is_split_sort (sort_at source) && is_matrix_or_none onto) (is_base source onto)

  abbrev pub can_print : ℕ → ℕ → Outcome (Unit {0})
  can_print k value = passes k (not (is_split_sort (sort_at value))) true
