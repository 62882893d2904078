-- The letters of a wire that changes numbers.
use Rattle.std.specs.Prelude.{ℕ, zero, suc, ◌+◌, ◌/◌, ◌%◌, ◌^◌, ◌==◌, Bool, if◌then◌else◌, List, ◌++◌, length, take, drop, slice_index}
use Rattle.std.specs.Int.{from_le_bytes, to_le_bytes, w128}
use Rattle.outside.specs.declared.name.Name.{Name}
use Rattle.outside.specs.Letters.{index_end}
use Rattle.outside.specs.MailRoom.{PostedLetter}

-- the letters that were posted last under their names, the letters given in order, and what is added to their numbers
pub record TwistWireState : Type 0 where
  pub letters : List (Name × PostedLetter)
  pub given : List (Name × List ℕ)
  pub by : ℕ

-- whether a letter is of the kind DATA, whose entries have numbers
abbrev pub is_data : List ℕ → Bool
is_data letter = slice_index letter 0 == 22

-- a word of 16 bytes, lowest byte first, with `by` added modulo 2^128
unfoldable pub moved_word : ℕ → List ℕ → List ℕ
moved_word by word = to_le_bytes w128 ((from_le_bytes w128 word + by) % 2 ^ 128)

-- a number of 32 bytes, with `by` added to its value and to its weight
unfoldable pub moved_number : ℕ → List ℕ → List ℕ
moved_number by number = moved_word by (take 16 number) ++ moved_word by (drop 16 number)

-- the first so many numbers are moved, and what stands behind them stays
abbrev pub moved_numbers : ℕ → ℕ → List ℕ → List ℕ
moved_numbers by zero bytes = bytes
moved_numbers by (suc count) bytes = moved_number by (take 32 bytes) ++ moved_numbers by count (drop 32 bytes)

-- all numbers are moved
abbrev pub all_moved : ℕ → List ℕ → List ℕ
all_moved by bytes = moved_numbers by (length bytes / 32) bytes

-- what is given for a letter: of one of the kind DATA the numbers behind the index part are moved, and any other is
-- given as it was posted
unfoldable pub twisted : ℕ → List ℕ → List ℕ
twisted by letter =
    if is_data letter then take (index_end letter) letter ++ all_moved by (drop (index_end letter) letter) else letter
