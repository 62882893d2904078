-- Numbers in decimal digits.
use Rattle.std.specs.Prelude.{◌&&◌, ℕ, Option, Some, None, if◌then◌else◌}
use Rattle.std.specs.Str.{all_ascii_digits}
use Rattle.std.specs.Str.Parse.{digits_value}
use Rattle.text_lines.specs.Lines.{Text, is_word}

-- the number of one or more decimal digits
abbrev pub digits_of : Text → Option ℕ
digits_of word = if is_word word && all_ascii_digits word then Some (digits_value 10 word) else None
