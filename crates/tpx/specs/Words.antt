-- The words of the command line, as lists of bytes.
use Rattle.std.specs.Prelude.{◌&&◌, ◌==◌, ◌+◌, ◌-◌, ◌*◌, ℕ, Bool, true, false, nat_le, nat_lt, nat_eq, List, [], ◌∷◌, Option, None, Some, codes, if◌then◌else◌}
use Rattle.std.specs.Option.{option_and_then, option_map}
use Rattle.std.specs.Cmp.Lexicographic.{pointwise}
use Rattle.text_lines.specs.Numerals.{digits_of}
use Rattle.generated_job.specs.Generated.{most_generated}
use Rattle.run_words.specs.Given.{RunCommand}
use Rattle.run_words.specs.Given as after_run

-- what the words ask for
pub data Command : Type 0 where
  -- `show` on so many ranks, of the file of this name
  show : ℕ → List ℕ → Command
  -- `run` of a job
  run : RunCommand → Command
  -- `gen` of this size
  gen : ℕ → Command

-- a number of ranks, if it is one: 1 to 32
abbrev pub rank_count : ℕ → Option ℕ
rank_count n = if nat_le 1 n && nat_le n 32 then Some n else None

abbrev pub is_digit : ℕ → Bool
is_digit b = nat_le 48 b && nat_le b 57

-- a number of ranks as a decimal number without sign and without leading zero
abbrev pub ranks_of : List ℕ → Option ℕ
ranks_of (units ∷ []) = if is_digit units then rank_count (units - 48) else None
ranks_of (tens ∷ units ∷ []) =
    if is_digit tens && is_digit units && nat_lt 48 tens then rank_count (10 * (tens - 48) + (units - 48)) else None
ranks_of _ = None

-- the words after `show`: exactly two, RANKS and FILE
abbrev pub show_command : List (List ℕ) → Option Command
show_command (ranks ∷ file ∷ []) = option_map (λ n. show n file) (ranks_of ranks)
show_command _ = None

-- a size, if it is one: 1 to 1,000,000
abbrev pub size_within : ℕ → Option ℕ
size_within n = if nat_le 1 n && nat_le n most_generated then Some n else None

abbrev pub begins_with_zero : List ℕ → Bool
begins_with_zero [] = false
begins_with_zero (digit ∷ digits) = digit == 48

-- a size as a decimal number without sign and without leading zero
abbrev pub size_of : List ℕ → Option ℕ
size_of word = if begins_with_zero word then None else option_and_then size_within (digits_of word)

-- the words after `gen`: exactly one, N
abbrev pub gen_command : List (List ℕ) → Option Command
gen_command (size ∷ []) = option_map gen (size_of size)
gen_command _ = None

abbrev pub is_word : List ℕ → List ℕ → Bool
is_word verb word = pointwise nat_eq verb word

-- the command of the words after the program's name: the first word says which
abbrev pub command : List (List ℕ) → Option Command
command [] = None
command (verb ∷ words) = if is_word verb (codes "show") then show_command words
    else (if is_word verb (codes "run") then option_map run (after_run.command words)
    else (if is_word verb (codes "gen") then gen_command words else None))

-- whether the first word is `run`
abbrev pub begins_run : List (List ℕ) → Bool
begins_run [] = false
begins_run (verb ∷ words) = is_word verb (codes "run")

-- whether ranks are played in a command: in `run` and in `gen`
abbrev pub is_played : Option Command → Bool
is_played (Some (run c)) = true
is_played (Some (gen n)) = true
is_played _ = false
