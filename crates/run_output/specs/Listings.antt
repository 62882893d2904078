-- The traffic listing of lines of phases and lines of letters.
use Rattle.std.specs.Prelude.{◌==◌, ℕ, Bool, List, [], ◌∷◌, ◌++◌, map, length, take, drop, codes, decimal}
use Rattle.std.specs.List.{prefix_len}
use Rattle.mm_text.specs.Written.{lines_text}
use Rattle.model_defs.specs.declared.sheets.PhaseLine.{PhaseLine}
use Rattle.model_defs.specs.declared.sheets.LetterLine.{LetterLine}
use Rattle.model_defs.specs.Traffic.{letter_line_words, phase_words}

abbrev pub is_of_phase : ℕ → LetterLine → Bool
is_of_phase n line = line.name.phase == n

-- how many of the letters, from the first on, are of the phase
abbrev pub leading : ℕ → List LetterLine → ℕ
leading n letters = prefix_len (is_of_phase n) letters

-- the line of a phase and those of these letters
abbrev pub phase_lines_with : PhaseLine → List LetterLine → List (List (List ℕ))
phase_lines_with phase letters = phase_words phase ∷ map letter_line_words letters

-- the lines of the phases, each followed by those of the next letters that are of it
abbrev pub listing_lines : List PhaseLine → List LetterLine → List (List (List ℕ))
listing_lines [] letters = []
listing_lines (phase ∷ phases) letters =
    phase_lines_with phase (take (leading phase.phase letters) letters) ++ listing_lines phases (drop (leading phase.phase letters) letters)

-- the listing, with the numbers of phases and letters in its first line
abbrev pub listing : List PhaseLine → List LetterLine → List ℕ
listing phases letters =
    lines_text ((codes "traffic" ∷ decimal (length phases) ∷ decimal (length letters) ∷ []) ∷ listing_lines phases letters)
