-- Places in ascending rows.
use Rattle.std.proofs.Common.{◌≡◌, ℕ, List, position, Result, Ok, Err, Some, sym, ap, ◌∙◌}
use Rattle.std.specs.List.Sorted.{IsBinarySearchResult}
use Rattle.std.specs.Ordering.{nat_cmp}
use Rattle.std.specs.Result.{result_ok}
use Rattle.std.proofs.lemmas.List.Sorted.{searched}
use Rattle.map_core.specs.Classes.{place}
use Rattle.map_core.specs.Layouts.{local_index}
use Rattle.map_core.proofs.Places.{first_place, local_index-absent, local_index-from}
use Rattle.std.proofs.lemmas.Option.{slice_get-get_or}
use Rattle.crs_graph.specs.Ascending.{IsAscending}
use Rattle.crs_graph.proofs.Ascending.{rises, searched_is, AreDistinct-ascending}

-- a search finds the place of a column
pub found_place : (row : List ℕ) (col at : ℕ) → IsAscending row → IsBinarySearchResult (λ y. nat_cmp y col) row (Ok at) → at ≡ place row col
found_place row col at up position =
    let here = searched row col (Ok at) position (rises row up) in
    sym (first_place row at col (AreDistinct-ascending row up) here.0 here.1)

-- in a row a search is a look-up
pub searched_place : (row : List ℕ) (col : ℕ) (r : Result ℕ ℕ) → IsAscending row → IsBinarySearchResult (λ y. nat_cmp y col) row r → result_ok r ≡ local_index row col
searched_place row col (Ok at) up position =
    let here = searched row col (Ok at) position (rises row up) in
    sym (local_index-from row col at (AreDistinct-ascending row up) (slice_get-get_or row at 0 here.0 ∙ ap Some here.1))
searched_place row col (Err at) up position = sym (local_index-absent row col (sym (searched_is row col (Err at) up position)))
