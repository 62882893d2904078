-- The lines of a text, and their words.
use Rattle.std.specs.Prelude.{◌==◌, ◌||◌, ◌-◌, ℕ, Bool, true, false, List, [], ◌∷◌, Option, Some, None, length, take, not, filter, if◌then◌else◌, slice_index}
use Rattle.std.specs.List.{slice_split, enumerate_from}

-- bytes
abbrev pub Text : Type 0
Text = List ℕ

-- a byte before the first line; where no line follows, it is a line alone if the text ends there
abbrev pub onto_line : Bool → ℕ → List Text → List Text
onto_line whole byte (line ∷ lines) = (byte ∷ line) ∷ lines
onto_line true byte [] = (byte ∷ []) ∷ []
onto_line false byte [] = []

abbrev pub is_newline : ℕ → Bool
is_newline byte = byte == 10

-- the lines of a text: each ends at a newline, and the last line of a whole text may end with the text
abbrev pub lines_of : Bool → Text → List Text
lines_of whole [] = []
lines_of whole (byte ∷ bytes) =
    if is_newline byte then [] ∷ lines_of whole bytes else onto_line whole byte (lines_of whole bytes)

-- a space or a tab
abbrev pub is_blank : ℕ → Bool
is_blank byte = (byte == 32) || (byte == 9)

-- a line without the one carriage return right before its end
abbrev pub without_return : Text → Text
without_return line = if slice_index line (length line - 1) == 13 then take (length line - 1) line else line

abbrev pub is_word : Text → Bool
is_word [] = false
is_word (byte ∷ bytes) = true

-- the longest runs of bytes that are no blanks
abbrev pub words_in : Text → List Text
words_in line = filter is_word (slice_split is_blank line)

abbrev pub words_of : Text → List Text
words_of line = words_in (without_return line)

-- no words, or this byte first
abbrev pub is_comment : ℕ → List Text → Bool
is_comment mark [] = true
is_comment mark (word ∷ words) = slice_index word 0 == mark

-- a line without words, or a comment: its first byte that is no blank is the mark
abbrev pub is_skipped : ℕ → Text → Bool
is_skipped mark line = is_comment mark (words_of line)

-- the lines that are not skipped, each with its number; the first line has the number `first`
abbrev pub kept_from : ℕ → ℕ → List Text → List (ℕ × Text)
kept_from mark first lines = filter (λ line. not (is_skipped mark line.1)) (enumerate_from first lines)

-- the words of a line that has one, two, three or four
abbrev pub one_word : List Text → Option Text
one_word (a ∷ []) = Some a
one_word _ = None

abbrev pub two_words : List Text → Option (Text × Text)
two_words (a ∷ b ∷ []) = Some (a, b)
two_words _ = None

abbrev pub three_words : List Text → Option (Text × Text × Text)
three_words (a ∷ b ∷ c ∷ []) = Some (a, b, c)
three_words _ = None

abbrev pub four_words : List Text → Option (Text × Text × Text × Text)
four_words (a ∷ b ∷ c ∷ d ∷ []) = Some (a, b, c, d)
four_words _ = None
