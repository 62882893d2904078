-- The matrix of a Matrix Market file: NIST Matrix Market exchange formats, "coordinate", with the symmetries "general",
-- "symmetric" and "skew-symmetric".
use Rattle.std.specs.Prelude.{◌≡◌, ◌<◌, ◌==◌, ℕ, ℤ, neg_ℤ, List, [], ◌∷◌, map, IsSome, if◌then◌else◌}
use Rattle.std.specs.List.{flat_map}
use Rattle.std.specs.Option.{unwrap_or}
use Rattle.scalar_laws.specs.Semiring.{Semiring, IsSemiring}
use Rattle.scalar_laws.specs.Conversions.{Conversions}
use Rattle.tables.specs.declared.Cell.{Cell}
use Rattle.tables.specs.Tables.{Table, table_of, sum_of}
use Rattle.tables.specs.Indices.{dealt, each_rank}
use Rattle.mm_text.specs.declared.file_data.Line.{Line}
use Rattle.mm_text.specs.declared.file_data.Mirror.{Mirror}
use Rattle.mm_text.specs.declared.file_data.Mirror.TheVariants.{Plain, Same, Negated}

-- the entry's own place
abbrev pub own_cell : Line → Cell ℤ
own_cell l = record { row = l.row; col = l.col; value = l.value }

-- the mirrored place with this value, where the entry is not on the diagonal
abbrev pub mirrored_cells : Line → ℤ → List (Cell ℤ)
mirrored_cells l v = if l.row == l.col then [] else record { row = l.col; col = l.row; value = v } ∷ []

-- the places that an entry stands for: its own, then its mirrored one if the file has a symmetry
abbrev pub entry_cells : Mirror → Line → List (Cell ℤ)
entry_cells Plain l = own_cell l ∷ []
entry_cells Same l = own_cell l ∷ mirrored_cells l l.value
entry_cells Negated l = own_cell l ∷ mirrored_cells l (neg_ℤ l.value)

-- the number of an integer; nought where the kind has none
abbrev pub number_of : {S : Type 0} → Semiring S → Conversions S → ℤ → S
number_of R F v = unwrap_or (F.of_file v) R.nought

-- the values that an entry stands for, its own and the mirrored one, have numbers of the kind
abbrev pub HasNumbers : {S : Type 0} → Conversions S → Mirror → ℤ → Type 0
HasNumbers F Plain v = IsSome (F.of_file v)
HasNumbers F Same v = IsSome (F.of_file v)
HasNumbers F Negated v = IsSome (F.of_file v) × IsSome (F.of_file (neg_ℤ v))

abbrev pub number_cell : {S : Type 0} → Semiring S → Conversions S → Cell ℤ → Cell S
number_cell R F c = record { row = c.row; col = c.col; value = number_of R F c.value }

-- the cells of an entry as numbers
abbrev pub entry_numbers : {S : Type 0} → Semiring S → Conversions S → Mirror → Line → List (Cell S)
entry_numbers R F mirror l = map (number_cell R F) (entry_cells mirror l)

-- the matrix of a file: at each place that is named the sum over the entries that name it, also where it is zero
abbrev pub file_matrix : {S : Type 0} → Semiring S → Conversions S → Mirror → List Line → Table S
file_matrix R F mirror lines = table_of R (flat_map (entry_numbers R F mirror) lines)

-- the part of it that is dealt to rank r of P: the entries k, from 0 in file order, with k mod P = r
abbrev pub dealt_matrix : {S : Type 0} → Semiring S → Conversions S → Mirror → ℕ → ℕ → List Line → Table S
dealt_matrix R F mirror P r lines = file_matrix R F mirror (dealt P r lines)

-- The parts that are dealt to P ranks add up to the matrix of the file.
abbrev pub DealtMatricesAddUp : Type 0 → Type 0
DealtMatricesAddUp S =
    (R : Semiring S) → IsSemiring R → (F : Conversions S) (mirror : Mirror) (P : ℕ) → 0 < P → (lines : List Line)
    → sum_of R (each_rank P (λ r. dealt_matrix R F mirror P r lines)) ≡ file_matrix R F mirror lines
