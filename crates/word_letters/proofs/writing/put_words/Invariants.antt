use Rattle.std.proofs.Common.{◌≡◌, ◌++◌, List, ℕ, length, take}
use Rattle.letter_codec.specs.Letters.{word_bytes}
use Rattle.letter_codec.specs.Writing.{StartsWith}
use Rattle.word_letters.proofs.writing.put_words.Given as goal

abbrev pub invariant-loop-at : goal.invariant-loop-at
invariant-loop-at l = (before : List ℕ) → length before ≡ 9 → StartsWith before l.fn.out → StartsWith (before ++ word_bytes (take l.at l.words)) l.out
