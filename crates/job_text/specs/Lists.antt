-- Arrays of a job text.
use Rattle.std.specs.Prelude.{◌+◌, ◌==◌, ℕ, ℤ, pos, negsuc, Bool, true, ◌&&◌, List, [], ◌∷◌, ◌++◌, Ok, Err, length, sum, is_some, nat_le, if◌then◌else◌}
use Rattle.std.specs.List.{concat}
use Rattle.toml.specs.Data.{Data, Items, no_items, item, as_table}
use Rattle.job_text.specs.declared.fault.JobFault.TheVariants.{WrongKind, Limit}
use Rattle.job_text.specs.declared.place.Place.{Place}
use Rattle.job_text.specs.Outcomes.{Outcome, ◌>>=◌}
use Rattle.job_text.specs.Names.{Text, key_name}
use Rattle.job_text.specs.Keys.{wrong_kind, limit, array_of, file_of, integer_of, number_within}

-- what is read of each element, after what is done
abbrev pub each_item : {A : Type 0} → (Data → Outcome A) → List A → Items → Outcome (List A)
each_item read done no_items = Ok done
each_item read done (item d ds) = read d >>= λ x. each_item read (done ++ x ∷ []) ds

abbrev pub each_element : {A B : Type 0} → (A → Outcome B) → List B → List A → Outcome (List B)
each_element read done [] = Ok done
each_element read done (x ∷ xs) = read x >>= λ y. each_element read (done ++ y ∷ []) xs

abbrev pub item_count : Items → ℕ
item_count no_items = 0
item_count (item d ds) = 1 + item_count ds

abbrev pub are_tables : Items → Bool
are_tables no_items = true
are_tables (item d ds) = is_some (as_table d) && are_tables ds

module _ (at : Place) (key : Text) where
  -- one for each rank
  abbrev pub one_per_rank : {A : Type 0} → ℕ → List A → Outcome (List A)
  one_per_rank P xs = if length xs == P then Ok xs else Err (wrong_kind at key)

  abbrev pub integers_of : Data → Outcome (List ℤ)
  integers_of d = array_of at key d >>= each_item (integer_of at key) []

  abbrev pub integer_lists_of : Data → Outcome (List (List ℤ))
  integer_lists_of d = array_of at key d >>= each_item integers_of []

  abbrev pub file_names_of : Data → Outcome (List Text)
  file_names_of d = array_of at key d >>= each_item (file_of at key) []

  -- numbers from 0 to the most, and in sum at most that
  abbrev pub sum_within : ℕ → List ℕ → Outcome (List ℕ)
  sum_within most counts = if nat_le (sum counts) most then Ok counts else Err (limit at key)

  abbrev pub counts_of : ℕ → ℕ → Data → Outcome (List ℕ)
  counts_of P most d =
      integers_of d >>= one_per_rank P >>= each_element (number_within at key 0 most) [] >>= sum_within most

  -- lists of indices, none below 0, together at most so many
  abbrev pub indices_of : List ℤ → Outcome (List ℕ)
  indices_of xs = each_element (number_within at key 0 9223372036854775807) [] xs

  abbrev pub count_within : ℕ → List (List ℕ) → Outcome (List (List ℕ))
  count_within most lists = if nat_le (length (concat lists)) most then Ok lists else Err (limit at key)

  abbrev pub index_lists_of : ℕ → ℕ → Data → Outcome (List (List ℕ))
  index_lists_of P most d =
      integer_lists_of d >>= one_per_rank P >>= each_element indices_of [] >>= count_within most
