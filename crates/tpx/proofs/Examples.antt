-- Worked commands, from the definitions alone.
use Rattle.std.specs.Prelude.{◌≡◌, ℕ, List, [], ◌∷◌, ◌++◌, None, Some, codes, decimal, map, refl}
use Rattle.std.specs.Fmt.{digits}
use Rattle.std.specs.List.{range_with_len}
use Rattle.mm_text.specs.declared.fault.MmFault.TheVariants.{TooFew}
use Rattle.mm_text.specs.Reading.{reading}
use Rattle.mm_text.specs.Written.{coordinate_text}
use Rattle.run_input.specs.declared.fault.TextFault.TheVariants.{Matrix}
use Rattle.tpx.specs.Endings.{Ending, overflow, refused, writes, ending}
use Rattle.tpx.specs.Words.{ranks_of, command}

-- the decimal texts of 1 to 32 are these numbers of ranks
ranks : map ranks_of (map decimal (range_with_len 1 32)) ≡ map Some (range_with_len 1 32)
unfolding digits
ranks = refl

-- and those before and behind are none
no_ranks : map ranks_of (codes "0" ∷ codes "33" ∷ codes "02" ∷ codes "+2" ∷ codes "" ∷ codes "100" ∷ []) ≡ None ∷ None ∷ None ∷ None ∷ None ∷ None ∷ []
no_ranks = refl

no_words : command [] ≡ None
no_words = refl

no_rank : command (codes "show" ∷ codes "0" ∷ codes "a.mtx" ∷ []) ≡ None
no_rank = refl

-- what is written
abbrev written : Ending → List ℕ
written (writes text) = text
written _ = []

abbrev line : List ℕ → List ℕ
line text = text ++ 10 ∷ []

abbrev banner : List ℕ
banner = line (codes "%%MatrixMarket matrix coordinate integer general")

-- how `show` ends where each name has this text
abbrev ends : List ℕ → Ending
ends text = ending (command (codes "show" ∷ codes "2" ∷ codes "a.mtx" ∷ [])) (λ name. Some text) []

abbrev shown : List ℕ → List ℕ
shown text = written (ends text)

-- from the bytes in to the bytes out: the places by row and column
in_order : shown (banner ++ line (codes "3 3 4") ++ line (codes "1 1 2") ++ line (codes "1 3 5") ++ line (codes "3 1 -1") ++ line (codes "2 2 3"))
    ≡ banner ++ line (codes "3 3 4") ++ line (codes "1 1 2") ++ line (codes "1 3 5") ++ line (codes "2 2 3") ++ line (codes "3 1 -1")
unfolding reading coordinate_text digits
in_order = refl

-- no entries at all
empty : shown (banner ++ line (codes "0 0 0")) ≡ banner ++ line (codes "0 0 0")
unfolding reading coordinate_text digits
empty = refl

-- two entries of one place
added : shown (banner ++ line (codes "1 1 2") ++ line (codes "1 1 4") ++ line (codes "1 1 4")) ≡ banner ++ line (codes "1 1 1") ++ line (codes "1 1 8")
unfolding reading coordinate_text digits
added = refl

-- a place whose magnitudes exceed 2^127 - 1
over : ends (banner ++ line (codes "1 1 2") ++ line (codes "1 1 170141183460469231731687303715884105727") ++ line (codes "1 1 1")) ≡ overflow
unfolding reading
over = refl

-- a file that ends too early
cut : ends (banner ++ line (codes "1 1 2") ++ line (codes "1 1 2")) ≡ refused (codes "a.mtx") (Matrix (TooFew 1))
unfolding reading
cut = refl
