-- Worked examples of what `show` writes, from the definitions alone.
use Rattle.std.specs.Prelude.{◌≡◌, ℕ, ℤ, pos, negsuc, true, false, List, [], ◌∷◌, ◌++◌, codes, refl}
use Rattle.std.specs.Fmt.{digits}
use Rattle.scalar_laws.specs.Weighed.{weighed_semiring, weighed_conversions}
use Rattle.mm_text.specs.declared.file_data.Line.{Line}
use Rattle.mm_text.specs.declared.file_data.Mirror.{Mirror}
use Rattle.mm_text.specs.declared.file_data.Mirror.TheVariants.{Plain, Same, Negated}
use Rattle.mm_text.specs.Reading.{File}
use Rattle.mm_text.specs.Written.{coordinate_text}
use Rattle.model_defs.specs.ShowText.{show_text, is_file_over}

abbrev entry : ℕ → ℕ → ℤ → Line
entry i j v = record { row = i; col = j; value = v }

abbrev file : ℕ → ℕ → Mirror → List Line → File
file m n mirror lines = record { rows = m; cols = n; mirror = mirror; lines = lines }

abbrev line : List ℕ → List ℕ
line text = text ++ 10 ∷ []

abbrev banner : List ℕ
banner = line (codes "%%MatrixMarket matrix coordinate integer general")

-- the entries come by row, then column
in_order : show_text weighed_semiring weighed_conversions (file 3 3 Plain (entry 0 0 (pos 2) ∷ entry 0 2 (pos 5) ∷ entry 2 0 (negsuc 0) ∷ entry 1 1 (pos 3) ∷ []))
    ≡ banner ++ line (codes "3 3 4") ++ line (codes "1 1 2") ++ line (codes "1 3 5") ++ line (codes "2 2 3") ++ line (codes "3 1 -1")
unfolding coordinate_text digits
in_order = refl

-- a matrix without rows
empty : show_text weighed_semiring weighed_conversions (file 0 0 Plain []) ≡ banner ++ line (codes "0 0 0")
unfolding coordinate_text digits
empty = refl

-- two entries of one place
added : show_text weighed_semiring weighed_conversions (file 1 1 Plain (entry 0 0 (pos 4) ∷ entry 0 0 (pos 4) ∷ []))
    ≡ banner ++ line (codes "1 1 1") ++ line (codes "1 1 8")
unfolding coordinate_text digits
added = refl

-- a symmetric file stands for the mirrored places, and once for the diagonal
mirrored : show_text weighed_semiring weighed_conversions (file 3 3 Same (entry 1 0 (pos 1) ∷ entry 2 2 (pos 1) ∷ []))
    ≡ banner ++ line (codes "3 3 3") ++ line (codes "1 2 1") ++ line (codes "2 1 1") ++ line (codes "3 3 1")
unfolding coordinate_text digits
mirrored = refl

negated : show_text weighed_semiring weighed_conversions (file 2 2 Negated (entry 1 0 (pos 7) ∷ []))
    ≡ banner ++ line (codes "2 2 2") ++ line (codes "1 2 -7") ++ line (codes "2 1 7")
unfolding coordinate_text digits
negated = refl

-- a sum that is zero stays a place
kept : show_text weighed_semiring weighed_conversions (file 1 1 Plain (entry 0 0 (pos 1) ∷ entry 0 0 (negsuc 0) ∷ []))
    ≡ banner ++ line (codes "1 1 1") ++ line (codes "1 1 0")
unfolding coordinate_text digits
kept = refl

-- a weight of more than 2^127 - 1 is over, whatever the value
over : is_file_over weighed_semiring weighed_conversions (file 1 1 Plain (entry 0 0 (pos 170141183460469231731687303715884105727) ∷ entry 0 0 (pos 1) ∷ [])) ≡ true
over = refl

over_at_zero : is_file_over weighed_semiring weighed_conversions (file 1 1 Plain (entry 0 0 (pos 170141183460469231731687303715884105727) ∷ entry 0 0 (negsuc 170141183460469231731687303715884105726) ∷ [])) ≡ true
over_at_zero = refl

not_over : is_file_over weighed_semiring weighed_conversions (file 1 1 Plain (entry 0 0 (pos 170141183460469231731687303715884105727) ∷ entry 0 0 (pos 0) ∷ [])) ≡ false
not_over = refl
