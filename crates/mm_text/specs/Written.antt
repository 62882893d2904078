-- The Matrix Market text of a matrix's places and of a dense array: NIST Matrix Market exchange formats, "coordinate"
-- and "array", with field "integer" and symmetry "general".
use Rattle.std.specs.Prelude.{◌≡◌, ℕ, ◌+◌, ◌<◌, ℤ, List, [], ◌∷◌, ◌++◌, Option, None, Some, length, map, codes, decimal, All, AllPairs, ◌⊎◌}
use Rattle.std.specs.List.{flat_map, join_with_byte}
use Rattle.std.specs.Fmt.{signed_decimal}
use Rattle.mm_text.specs.declared.shown.Shown.{Shown}

-- a line: its words with a space between them, and a newline
abbrev pub line_text : List (List ℕ) → List ℕ
line_text words = join_with_byte 32 words ++ 10 ∷ []

-- lines of words, one after the other
abbrev pub lines_text : List (List (List ℕ)) → List ℕ
lines_text lines = flat_map line_text lines

-- the banner of a file of this form
abbrev pub banner_words : List ℕ → List (List ℕ)
banner_words form = codes "%%MatrixMarket" ∷ codes "matrix" ∷ form ∷ codes "integer" ∷ codes "general" ∷ []

-- the comment that names the rank whose part follows, if the text is a part
abbrev pub part_lines : Option ℕ → List (List (List ℕ))
part_lines None = []
part_lines (Some rank) = (codes "%" ∷ codes "part" ∷ decimal rank ∷ []) ∷ []

-- the line of a place, with its row and column counted from 1
abbrev pub cell_words : Shown → List (List ℕ)
cell_words cell = decimal (cell.row + 1) ∷ decimal (cell.col + 1) ∷ signed_decimal cell.value ∷ []

-- the lines before those of the places: the banner, the part, and the sizes with the number of places
abbrev pub coordinate_head : ℕ → ℕ → Option ℕ → ℕ → List (List (List ℕ))
coordinate_head rows cols part count =
    banner_words (codes "coordinate")
    ∷ part_lines part ++ (decimal rows ∷ decimal cols ∷ decimal count ∷ []) ∷ []

-- coordinate text: a line for each place
unfoldable pub coordinate_text : ℕ → ℕ → Option ℕ → List Shown → List ℕ
coordinate_text rows cols part cells =
    lines_text (coordinate_head rows cols part (length cells) ++ map cell_words cells)

-- the line of a value
abbrev pub value_words : ℤ → List (List ℕ)
value_words value = signed_decimal value ∷ []

-- the lines before those of the values: the banner and the sizes
abbrev pub array_head : ℕ → ℕ → List (List (List ℕ))
array_head rows cols = banner_words (codes "array") ∷ (decimal rows ∷ decimal cols ∷ []) ∷ []

-- array text: a line for each value, column by column
unfoldable pub array_text : ℕ → ℕ → List ℤ → List ℕ
array_text rows cols values = lines_text (array_head rows cols ++ map value_words values)

-- a place comes before another by its row, then by its column
abbrev pub IsBefore : Shown → Shown → Type 0
IsBefore a b = (a.row < b.row) ⊎ ((a.row ≡ b.row) × (a.col < b.col))

-- the places lie within the sizes
abbrev pub ArePlacesWithin : ℕ → ℕ → List Shown → Type 0
ArePlacesWithin rows cols cells = All (λ cell. (cell.row < rows) × (cell.col < cols)) cells

-- the places are in ascending order, each of them once
abbrev pub ArePlacesInOrder : List Shown → Type 0
ArePlacesInOrder cells = AllPairs IsBefore cells
