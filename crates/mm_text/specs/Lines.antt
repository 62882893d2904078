-- The lines of a text and their words, where a comment begins with a percent sign.
use Rattle.std.specs.Prelude.{ℕ, Bool, List}
pub use Rattle.text_lines.specs.Lines.{Text, onto_line, is_newline, lines_of, is_blank, without_return, is_word, words_in, words_of, one_word, two_words, three_words, four_words}
use Rattle.text_lines.specs.Lines.{is_comment as is_marked_comment, is_skipped as is_marked_skipped, kept_from as kept_from_marked}

-- the percent sign
abbrev pub mark : ℕ
mark = 37

-- no words, or a percent sign first
abbrev pub is_comment : List Text → Bool
is_comment words = is_marked_comment mark words

abbrev pub is_skipped : Text → Bool
is_skipped line = is_marked_skipped mark line

-- the lines that are not skipped, each with its number; the first line has the number `first`
abbrev pub kept_from : ℕ → List Text → List (ℕ × Text)
kept_from first lines = kept_from_marked mark first lines
