-- Small texts that are written.
use Rattle.std.proofs.Common.{◌≡◌, ℕ, List, [], ◌∷◌, ◌++◌, None, Some, codes, pos, negsuc, refl}
use Rattle.std.specs.Fmt.{digits}
use Rattle.mm_text.specs.declared.shown.Shown.{Shown}
use Rattle.mm_text.specs.Written.{coordinate_text, array_text}

abbrev shown : ℕ → ℕ → ℕ → Shown
shown row col value = record { row = row; col = col; value = pos value }

abbrev four : List Shown
four = shown 0 0 2 ∷ shown 0 2 5 ∷ shown 1 1 3 ∷ (record { row = 2; col = 0; value = negsuc 0 }) ∷ []

abbrev banner : List ℕ
banner = codes "%%MatrixMarket matrix coordinate integer general\n"

coordinate_text-four : coordinate_text 3 3 None four
    ≡ banner ++ codes "3 3 4\n1 1 2\n1 3 5\n2 2 3\n3 1 -1\n"
unfolding coordinate_text digits
coordinate_text-four = refl

coordinate_text-none : coordinate_text 0 0 None [] ≡ banner ++ codes "0 0 0\n"
unfolding coordinate_text digits
coordinate_text-none = refl

coordinate_text-part : coordinate_text 8 1 (Some 1) (shown 7 0 9 ∷ []) ≡ banner ++ codes "% part 1\n8 1 1\n8 1 9\n"
unfolding coordinate_text digits
coordinate_text-part = refl

array_text-three : array_text 3 1 (pos 502 ∷ pos 30 ∷ negsuc 0 ∷ [])
    ≡ codes "%%MatrixMarket matrix array integer general\n3 1\n502\n30\n-1\n"
unfolding array_text digits
array_text-three = refl

array_text-extremes : array_text 1 2 (pos 170141183460469231731687303715884105727 ∷ negsuc 170141183460469231731687303715884105726 ∷ [])
    ≡ codes "%%MatrixMarket matrix array integer general\n1 2\n170141183460469231731687303715884105727\n-170141183460469231731687303715884105727\n"
unfolding array_text digits
array_text-extremes = refl
