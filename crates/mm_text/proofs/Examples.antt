-- Small texts, and what they are read as.
use Rattle.std.proofs.Common.{◌≡◌, ℕ, List, [], ◌∷◌, ◌++◌, Ok, Err, codes, pos, negsuc, refl, take, flat_map, length}
use Rattle.mm_text.specs.declared.fault.MmFault.TheVariants.{NoBanner, BadBanner, UnsupportedField, BadSize, BadLine, TooFew, NumberTooWide, TooManyEntries, TooLong}
use Rattle.mm_text.specs.declared.file_data.Form.TheVariants.{Coordinate}
use Rattle.mm_text.specs.declared.file_data.Line.{Line}
use Rattle.mm_text.specs.declared.file_data.Mirror.TheVariants.{Plain, Same, Negated}
use Rattle.mm_text.specs.declared.profile.Profile.{Profile}
use Rattle.mm_text.specs.Limits.{profile_of}
use Rattle.mm_text.specs.Lines.{Text}
use Rattle.mm_text.specs.Outcomes.{Outcome}
use Rattle.mm_text.specs.Reading.{File, reading}

-- each line with its newline
abbrev lines : List Text → Text
lines ls = flat_map (λ l. l ++ 10 ∷ []) ls

abbrev read : Text → Outcome File
read text = reading (profile_of Coordinate 8388608 16777216) text

abbrev banner : Text
banner = codes "%%MatrixMarket matrix coordinate integer general"

abbrev four : Text
four = lines (banner ∷ codes "3 3 4" ∷ codes "1 1 2" ∷ codes "1 3 5" ∷ codes "3 1 -1" ∷ codes "2 2 3" ∷ [])

abbrev line : ℕ → ℕ → ℕ → Line
line row col value = record { row = row; col = col; value = pos value }

abbrev four_file : File
four_file = record {
  rows = 3;
  cols = 3;
  mirror = Plain;
  lines = line 0 0 2 ∷ line 0 2 5 ∷ (record { row = 2; col = 0; value = negsuc 0 }) ∷ line 1 1 3 ∷ [];
}

four_entries : read four ≡ Ok four_file
unfolding reading
four_entries = refl

four_length : length four ≡ 80
four_length = refl

cut_79 : read (take 79 four) ≡ Ok four_file
unfolding reading
cut_79 = refl

cut_78 : read (take 78 four) ≡ Err (BadLine 6)
unfolding reading
cut_78 = refl

cut_75 : read (take 75 four) ≡ Err (BadLine 6)
unfolding reading
cut_75 = refl

cut_74 : read (take 74 four) ≡ Err (TooFew 3)
unfolding reading
cut_74 = refl

cut_73 : read (take 73 four) ≡ Err (TooFew 3)
unfolding reading
cut_73 = refl

cut_72 : read (take 72 four) ≡ Err (BadLine 5)
unfolding reading
cut_72 = refl

cut_68 : read (take 68 four) ≡ Err (BadLine 5)
unfolding reading
cut_68 = refl

cut_67 : read (take 67 four) ≡ Err (TooFew 2)
unfolding reading
cut_67 = refl

cut_61 : read (take 61 four) ≡ Err (TooFew 1)
unfolding reading
cut_61 = refl

cut_59 : read (take 59 four) ≡ Err (BadLine 3)
unfolding reading
cut_59 = refl

cut_56 : read (take 56 four) ≡ Err (BadLine 3)
unfolding reading
cut_56 = refl

cut_55 : read (take 55 four) ≡ Err (TooFew 0)
unfolding reading
cut_55 = refl

cut_54 : read (take 54 four) ≡ Err (TooFew 0)
unfolding reading
cut_54 = refl

cut_53 : read (take 53 four) ≡ Err BadSize
unfolding reading
cut_53 = refl

cut_48 : read (take 48 four) ≡ Err BadSize
unfolding reading
cut_48 = refl

cut_47 : read (take 47 four) ≡ Err BadBanner
unfolding reading
cut_47 = refl

cut_14 : read (take 14 four) ≡ Err BadBanner
unfolding reading
cut_14 = refl

cut_13 : read (take 13 four) ≡ Err NoBanner
unfolding reading
cut_13 = refl

empty : read [] ≡ Err NoBanner
unfolding reading
empty = refl

no_entries : read (lines (banner ∷ codes "0 0 0" ∷ [])) ≡ Ok (record { rows = 0; cols = 0; mirror = Plain; lines = [] })
unfolding reading
no_entries = refl

one_place_twice : read (lines (banner ∷ codes "1 1 2" ∷ codes "1 1 4" ∷ codes "1 1 4" ∷ []))
    ≡ Ok (record { rows = 1; cols = 1; mirror = Plain; lines = line 0 0 4 ∷ line 0 0 4 ∷ [] })
unfolding reading
one_place_twice = refl

pattern : read (lines (codes "%%MatrixMarket matrix coordinate pattern symmetric" ∷ codes "%" ∷ codes "3 3 2" ∷ codes "2 1" ∷ codes "3 3" ∷ []))
    ≡ Ok (record { rows = 3; cols = 3; mirror = Same; lines = line 1 0 1 ∷ line 2 2 1 ∷ [] })
unfolding reading
pattern = refl

lower_mark : read (lines (codes "%%matrixmarket matrix coordinate integer general" ∷ [])) ≡ Err NoBanner
unfolding reading
lower_mark = refl

real : read (lines (codes "%%MatrixMarket matrix coordinate real general" ∷ [])) ≡ Err UnsupportedField
unfolding reading
real = refl

skew : read (lines (codes "%%MatrixMarket MATRIX Coordinate INTEGER skew-symmetric" ∷ codes "2 2 1" ∷ codes "+02 1 7" ∷ []))
    ≡ Ok (record { rows = 2; cols = 2; mirror = Negated; lines = line 1 0 7 ∷ [] })
unfolding reading
skew = refl

greatest : read (lines (banner ∷ codes "1 1 1" ∷ codes "1 1 170141183460469231731687303715884105727" ∷ []))
    ≡ Ok (record { rows = 1; cols = 1; mirror = Plain; lines = line 0 0 170141183460469231731687303715884105727 ∷ [] })
unfolding reading
greatest = refl

too_wide : read (lines (banner ∷ codes "1 1 1" ∷ codes "1 1 170141183460469231731687303715884105728" ∷ [])) ≡ Err (NumberTooWide 3)
unfolding reading
too_wide = refl

-- The same text at small limits: those of its own are kept, and one less of each is not.
abbrev small : Profile
small = record { form = Coordinate; bytes = 80; entries = 4; rows = 3; cols = 3 }

within_limits : reading small four ≡ Ok four_file
unfolding reading
within_limits = refl

too_few_bytes : reading (record small { bytes = 79 }) four ≡ Err TooLong
unfolding reading
too_few_bytes = refl

too_few_entries : reading (record small { entries = 3 }) four ≡ Err TooManyEntries
unfolding reading
too_few_entries = refl

too_few_rows : reading (record small { rows = 2 }) four ≡ Err BadSize
unfolding reading
too_few_rows = refl

too_few_cols : reading (record small { cols = 2 }) four ≡ Err BadSize
unfolding reading
too_few_cols = refl

-- a fault in a line that ends within the bytes comes before the end of them
fault_before_the_end : reading (record small { bytes = 79; cols = 2 }) four ≡ Err BadSize
unfolding reading
fault_before_the_end = refl
