-- The classes of the indices of a transfer, as Tpetra's import and export have them. A rank has two lists of indices, and
-- each position of the one, the parted list, is the same, permuted or lacked by whether the other list, which is held, has
-- its index. An import parts its target and holds its source, an export parts its source and holds its target.
use Rattle.std.specs.Prelude.{◌≡◌, ℕ, suc, ◌<◌, ◌↔◌, Bool, true, false, ◌&&◌, ◌==◌, not, nat_eq, nat_le, if◌then◌else◌, List, [], ◌∷◌, map, length, Option, None, Some, is_none}
use Rattle.std.specs.List.{filter, range_with_len, slice_index_or, position_or_len}
use Rattle.map_core.specs.Layouts.{stands}

-- the index at position l
abbrev pub index_at : List ℕ → ℕ → ℕ
index_at xs l = slice_index_or xs l 0

-- the indices at positions
abbrev pub indices_at : List ℕ → List ℕ → List ℕ
indices_at xs ls = map (index_at xs) ls

-- the position of an index that stands in the list
abbrev pub place : List ℕ → ℕ → ℕ
place xs g = position_or_len (nat_eq g) xs

abbrev pub places : List ℕ → List ℕ → List ℕ
places xs gs = map (place xs) gs

-- the number of leading positions at which both lists have the same index
abbrev pub same_count : List ℕ → List ℕ → ℕ
same_count [] ys = 0
same_count (x ∷ xs) [] = 0
same_count (x ∷ xs) (y ∷ ys) = if x == y then suc (same_count xs ys) else 0

-- whether the position is permuted: it is past the same ones, and its index is held
abbrev pub is_permuted : List ℕ → List ℕ → ℕ → Bool
is_permuted held xs l = nat_le (same_count held xs) l && stands (index_at xs l) held

abbrev pub owns : Option ℕ → ℕ → Bool
owns None q = false
owns (Some p) q = p == q

-- the owner of the index at position l
abbrev pub owner_at : List (Option ℕ) → ℕ → Option ℕ
owner_at owners l = slice_index_or owners l None

-- whether the position is lacked and of rank q: its index is not held, and q owns it
abbrev pub is_lacked : List ℕ → List ℕ → List (Option ℕ) → ℕ → ℕ → Bool
is_lacked held xs owners q l = not (stands (index_at xs l) held) && owns (owner_at owners l) q

-- the permuted positions, ascending
abbrev pub permuted : List ℕ → List ℕ → List ℕ
permuted held xs = filter (is_permuted held xs) (range_with_len 0 (length xs))

-- the lacked positions of rank q, ascending
abbrev pub lacked_positions : List ℕ → List ℕ → List (Option ℕ) → ℕ → List ℕ
lacked_positions held xs owners q = filter (is_lacked held xs owners q) (range_with_len 0 (length xs))

-- the indices that are not held and that rank q owns, in the order of the parted list
abbrev pub lacked : List ℕ → List ℕ → List (Option ℕ) → ℕ → List ℕ
lacked held xs owners q = indices_at xs (lacked_positions held xs owners q)

-- the lacked indices of each of P ranks
abbrev pub lacked_of_each : ℕ → List ℕ → List ℕ → List (Option ℕ) → List (List ℕ)
lacked_of_each P held xs owners = map (lacked held xs owners) (range_with_len 0 P)

-- the owners of the parted list's indices: there is one or none for each, below P. Rank me owns those that are held and
-- no others.
pub record AreOwners (me P : ℕ) (held xs : List ℕ) (owners : List (Option ℕ)) : Type 0 where
  pub each : length owners ≡ length xs
  pub below : (l q : ℕ) → owner_at owners l ≡ Some q → q < P
  pub mine : (l : ℕ) → l < length xs → (stands (index_at xs l) held ≡ true) ↔ (owner_at owners l ≡ Some me)

-- the first of the indices that is not held
abbrev pub first_lacked : List ℕ → List ℕ → Option ℕ
first_lacked held [] = None
first_lacked held (g ∷ gs) = if stands g held then first_lacked held gs else Some g

-- the positions whose index is not held and has no owner, ascending
abbrev pub unowned : List ℕ → List ℕ → List (Option ℕ) → List ℕ
unowned held xs owners = filter (λ l. not (stands (index_at xs l) held) && is_none (owner_at owners l)) (range_with_len 0 (length xs))
