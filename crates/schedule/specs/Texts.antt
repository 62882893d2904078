-- The text of a schedule: a line for each delivery, and on it the letter's phase, sender and receiver.
use Rattle.std.specs.Prelude.{◌≡◌, ◌⊎◌, ◌^◌, ℕ, true, List, [], ◌∷◌, Option, None, Some, Result, Ok, Err, length, nat_lt, if◌then◌else◌}
use Rattle.std.specs.Option.{option_and_then, option_map}
use Rattle.std.specs.Global.{Vec}
use Rattle.outside.specs.declared.name.Name.{Name}
use Rattle.text_lines.specs.Lines.{Text, kept_from, lines_of, three_words, words_of}
use Rattle.text_lines.specs.Numerals.{digits_of}
use Rattle.schedule.specs.declared.fault.ScheduleFault.{ScheduleFault}
use Rattle.schedule.specs.declared.fault.ScheduleFault.TheVariants.{BadLine, NoMem, TooLong}
use Rattle.schedule.specs.declared.order.Entry.{Entry}

-- the most bytes of a text
abbrev pub most_bytes : ℕ
most_bytes = 67108864

-- a hash
abbrev pub mark : ℕ
mark = 35

-- a number that has 32 bits
abbrev pub in_32_bits : ℕ → Option ℕ
in_32_bits n = if nat_lt n (2 ^ 32) then Some n else None

-- decimal digits of a number below 2 ^ 32
abbrev pub number_of : Text → Option ℕ
number_of word = option_and_then in_32_bits (digits_of word)

-- three words, each a number
abbrev pub name_of_words : Text × Text × Text → Option Name
name_of_words words =
    option_and_then (λ phase. option_and_then (λ from. option_map (λ to. record { phase = phase; from = from; to = to })
    (number_of words.2)) (number_of words.1)) (number_of words.0)

abbrev pub name_of_line : Text → Option Name
name_of_line line = option_and_then name_of_words (three_words (words_of line))

-- the entry of a line that names a letter, before the others
abbrev pub onto_entries : ℕ → Option Name → Result (List Entry) ScheduleFault → Result (List Entry) ScheduleFault
onto_entries line None entries = Err (BadLine line)
onto_entries line (Some name) (Ok entries) = Ok ((record { line = line; name = name }) ∷ entries)
onto_entries line (Some name) (Err fault) = Err fault

-- the entries of lines with their numbers, or the first line that names no letter
abbrev pub entries_of : List (ℕ × Text) → Result (List Entry) ScheduleFault
entries_of [] = Ok []
entries_of (line ∷ lines) = onto_entries line.0 (name_of_line line.1) (entries_of lines)

-- what a text is read as; lines without words and comments are no entries
abbrev pub schedule_of : Text → Result (List Entry) ScheduleFault
schedule_of bytes = if nat_lt most_bytes (length bytes) then Err TooLong else entries_of (kept_from mark 1 (lines_of true bytes))

-- what the code answers is this reading, unless memory runs out
abbrev pub IsReadAs : Result (Vec Entry) ScheduleFault → Result (List Entry) ScheduleFault → Type 0
IsReadAs (Ok entries) reading = reading ≡ Ok entries.items
IsReadAs (Err fault) reading = (fault ≡ NoMem) ⊎ (reading ≡ Err fault)
