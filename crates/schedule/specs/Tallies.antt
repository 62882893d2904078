-- Marks at places, kept so that the place of a mark is found by halves.
use Rattle.std.specs.Prelude.{◌≡◌, ◌+◌, ◌-◌, ◌*◌, ◌≤◌, ◌<◌, ◌/◌, ◌==◌, ℕ, suc, List, [], ◌∷◌, length, map, nat_lt, slice_index, slice_set, if◌then◌else◌}
use Rattle.std.specs.Global.{Vec}

-- each number is 0, or 1 for a mark
abbrev pub AreMarks : List ℕ → Type 0
AreMarks [] = Unit {0}
AreMarks (mark ∷ marks) = (mark ≤ 1) × AreMarks marks

-- how many marks there are
abbrev pub mark_count : List ℕ → ℕ
mark_count [] = 0
mark_count (mark ∷ marks) = if mark == 0 then mark_count marks else 1 + mark_count marks

-- the place of the mark that has so many before it
abbrev pub mark_place : List ℕ → ℕ → ℕ
mark_place [] k = 0
mark_place (mark ∷ marks) k =
    if mark == 0 then suc (mark_place marks k) else (if k == 0 then 0 else suc (mark_place marks (k - 1)))

abbrev pub total : List ℕ → ℕ
total [] = 0
total (count ∷ counts) = count + total counts

-- the sums of pairs of neighbours
abbrev pub halved : List ℕ → List ℕ
halved [] = []
halved (a ∷ []) = a ∷ []
halved (a ∷ b ∷ counts) = (a + b) ∷ halved counts

abbrev pub counts_of : List (Vec ℕ) → List (List ℕ)
counts_of levels = map (λ level. level.items) levels

abbrev pub base : List (List ℕ) → List ℕ
base [] = []
base (level ∷ levels) = level

-- each level is the sums of pairs of the one before it, and the last one has at most two numbers
abbrev pub IsTower : List (List ℕ) → Type 0
IsTower [] = Unit {0}
IsTower (level ∷ []) = length level ≤ 2
IsTower (level ∷ above ∷ levels) = (above ≡ halved level) × IsTower (above ∷ levels)

-- one less at the place, and at that of its pair in each level above
abbrev pub lowered : ℕ → List (List ℕ) → List (List ℕ)
lowered at [] = []
lowered at (level ∷ levels) = slice_set level at (slice_index level at - 1) ∷ lowered (at / 2) levels

-- at the place, and at that of its pair in each level above, stands at least one
abbrev pub CanLower : ℕ → List (List ℕ) → Type 0
CanLower at [] = Unit {0}
CanLower at (level ∷ levels) = (at < length level) × (1 ≤ slice_index level at) × CanLower (at / 2) levels

-- Where the numbers, one after the other, count things that are numbered from 0: the place of the number that counts
-- thing k, and which of its things that is.
abbrev pub place_of : List ℕ → ℕ → ℕ
place_of [] k = 0
place_of (count ∷ counts) k = if nat_lt k count then 0 else 1 + place_of counts (k - count)

abbrev pub rest_of : List ℕ → ℕ → ℕ
rest_of [] k = k
rest_of (count ∷ counts) k = if nat_lt k count then k else rest_of counts (k - count)

-- thing k is counted by the first level, where there is one
abbrev pub IsCounted : List (List ℕ) → ℕ → Type 0
IsCounted [] k = Unit {0}
IsCounted (level ∷ levels) k = k < total level

abbrev pub located : List (List ℕ) → ℕ → ℕ × ℕ
located [] k = (0, k)
located (level ∷ levels) k = (place_of level k, rest_of level k)

-- one level down from a pair and the thing's number in it
abbrev pub descended : List ℕ → ℕ × ℕ → ℕ × ℕ
descended level found =
    let left = slice_index level (2 * found.0) in
    if nat_lt found.1 left then (2 * found.0, found.1) else (2 * found.0 + 1, found.1 - left)
