-- Small letters, and what a twisting wire gives for them.
use Rattle.std.proofs.Common.{◌≡◌, ℕ, List, ◌∷◌, ◌++◌, replicate, refl}
use Rattle.outside.specs.Letters.{index_end}
use Rattle.outside.specs.TwistWire.{moved_number, moved_word, twisted}

-- a word of 8 bytes, and a number of 32 with this value and this weight
abbrev word : ℕ → List ℕ
word n = n ∷ replicate 7 0

abbrev number : ℕ → ℕ → List ℕ
number value weight = value ∷ replicate 15 0 ++ weight ∷ replicate 15 0

-- every number of a letter of the kind DATA is moved, and its index part is not
two_numbers : twisted 3 (22 ∷ word 1 ++ word 9 ++ number 7 7 ++ number 1 2)
    ≡ 22 ∷ word 1 ++ word 9 ++ number 10 10 ++ number 4 5
unfolding twisted index_end moved_number moved_word
two_numbers = refl

-- modulo 2^128
wrapped : twisted 2 (22 ∷ word 0 ++ replicate 16 255 ++ 5 ∷ replicate 15 0) ≡ 22 ∷ word 0 ++ number 1 7
unfolding twisted index_end moved_number moved_word
wrapped = refl

-- letters of other kinds are given as they were posted, and so are bytes that are no whole number
rows_letter : twisted 3 (23 ∷ word 0 ++ number 7 7) ≡ 23 ∷ word 0 ++ number 7 7
unfolding twisted
rows_letter = refl

short_letter : twisted 3 (22 ∷ word 0 ++ replicate 31 7) ≡ 22 ∷ word 0 ++ replicate 31 7
unfolding twisted index_end moved_number moved_word
short_letter = refl

index_alone : twisted 3 (22 ∷ word 4 ++ number 7 7) ≡ 22 ∷ word 4 ++ number 7 7
unfolding twisted index_end moved_number moved_word
index_alone = refl
