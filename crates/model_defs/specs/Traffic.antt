-- The listing of a job's phases and letters.
use Rattle.std.specs.Prelude.{ℕ, ◌+◌, List, [], ◌∷◌, ◌++◌, map, length, codes, decimal}
use Rattle.std.specs.List.{flat_map}
use Rattle.mm_text.specs.Reading.{File}
use Rattle.mm_text.specs.Written.{line_text}
use Rattle.outside.specs.declared.name.Name.{Name}
use Rattle.letter_codec.specs.Kinds.{kind_name}
use Rattle.model_defs.specs.declared.job.Job.{Job}
use Rattle.model_defs.specs.declared.sheets.PhaseLine.{PhaseLine}
use Rattle.model_defs.specs.declared.sheets.LetterLine.{LetterLine}
use Rattle.model_defs.specs.Makers.{maker_of, maker_name}
use Rattle.model_defs.specs.Phases.{Phase, phases}
use Rattle.model_defs.specs.Letters.{phase_names, letter_entries}

-- a phase is listed with its kind and the name of the value for which it is
abbrev pub phase_line : Job → ℕ → Phase → PhaseLine
phase_line job n phase = record { phase = n; kind = phase.kind; name = maker_name (maker_of job phase.value) }

-- those of these phases, of which the first has number n
abbrev pub phase_lines_from : Job → ℕ → List Phase → List PhaseLine
phase_lines_from job n [] = []
phase_lines_from job n (phase ∷ rest) = phase_line job n phase ∷ phase_lines_from job (n + 1) rest

abbrev pub phase_lines_of : Job → List PhaseLine
phase_lines_of job = phase_lines_from job 0 (phases job)

abbrev pub phase_words : PhaseLine → List (List ℕ)
phase_words line = codes "phase" ∷ decimal line.phase ∷ kind_name line.kind ∷ line.name ∷ []

abbrev pub letter_line_words : LetterLine → List (List ℕ)
letter_line_words line = codes "letter" ∷ decimal line.name.phase ∷ decimal line.name.from ∷ decimal line.name.to ∷ decimal line.entries ∷ []

module _ (job : Job) (files : List File) where
  -- a letter is listed with the number of its entries
  abbrev pub letter_line : Phase → Name → LetterLine
  letter_line phase n = record { name = n; entries = length (letter_entries job files phase n) }

  -- the letters of a phase, by sender, then receiver
  abbrev pub letter_lines_at : ℕ → Phase → List LetterLine
  letter_lines_at n phase = map (letter_line phase) (phase_names job files n phase)

  abbrev pub letter_lines_from : ℕ → List Phase → List LetterLine
  letter_lines_from n [] = []
  letter_lines_from n (phase ∷ rest) = letter_lines_at n phase ++ letter_lines_from (n + 1) rest

  abbrev pub letter_lines : List LetterLine
  letter_lines = letter_lines_from 0 (phases job)

  -- the lines of the phases, each followed by those of its letters
  abbrev pub listing_from : ℕ → List Phase → List (List (List ℕ))
  listing_from n [] = []
  listing_from n (phase ∷ rest) = phase_words (phase_line job n phase) ∷ map letter_line_words (letter_lines_at n phase) ++ listing_from (n + 1) rest

  -- how many phases and letters there are
  abbrev pub count_words : List (List ℕ)
  count_words = codes "traffic" ∷ decimal (length (phases job)) ∷ decimal (length letter_lines) ∷ []

  -- the traffic listing
  abbrev pub traffic_text : List ℕ
  traffic_text = flat_map line_text (count_words ∷ listing_from 0 (phases job))
