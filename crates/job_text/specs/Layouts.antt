-- What is tested of layouts.
use Rattle.std.specs.Prelude.{ℕ, Bool, true, false, ◌&&◌, not, List, [], ◌∷◌, length, nat_lt}
use Rattle.std.specs.List.{concat, list_all}
use Rattle.tables.specs.Indices.{stands, count_from}
use Rattle.map_core.specs.Layouts.{Layout}

-- no index stands in the list twice
abbrev pub are_distinct : List ℕ → Bool
are_distinct [] = true
are_distinct (g ∷ gs) = not (stands g gs) && are_distinct gs

-- distinct indices below the size
abbrev pub is_sound_list : ℕ → List ℕ → Bool
is_sound_list size list = are_distinct list && list_all (λ g. nat_lt g size) list

abbrev pub are_sound_lists : ℕ → List (List ℕ) → Bool
are_sound_lists size lists = list_all (is_sound_list size) lists

-- each index has one owner at most
abbrev pub is_one_to_one : Layout → Bool
is_one_to_one m = are_distinct (concat m.lists)

-- each index below the size stands in the list of a rank
abbrev pub is_total : Layout → Bool
is_total m = list_all (λ g. stands g (concat m.lists)) (count_from 0 m.size)

-- how many indices the ranks have together
abbrev pub index_count : Layout → ℕ
index_count m = length (concat m.lists)

-- the first layout has every index of the second
abbrev pub covers : Layout → Layout → Bool
covers wide narrow = list_all (λ list. list_all (λ g. stands g (concat wide.lists)) list) narrow.lists
