-- The lines of a job's letters, on the way to their listing. No contract of a public call speaks of these.
use Rattle.std.specs.Prelude.{ℕ, if◌then◌else◌, List, [], ◌∷◌}
use Rattle.std.specs.List.{flat_map}
use Rattle.tables.specs.Indices.{count_from}
use Rattle.mm_text.specs.Reading.{File}
use Rattle.outside.specs.declared.name.Name.{Name}
use Rattle.peers.specs.Protocols.{stands_in}
use Rattle.model_defs.specs.declared.job.Job.{Job}
use Rattle.model_defs.specs.declared.sheets.LetterLine.{LetterLine}
use Rattle.model_defs.specs.Letters.{letter_names}
use Rattle.model_defs.specs.Traffic.{letter_line}
use Rattle.job_phases.specs.Laws.{phase_at}

module _ (job : Job) (files : List File) where
  -- the line of a letter, if it is one of the job's
  abbrev pub line_of : Name → List LetterLine
  line_of n = if stands_in (letter_names job files) n then letter_line job files (phase_at job n.phase) n ∷ [] else []

  -- the lines of the letters of a phase from a rank to the first ranks
  abbrev pub lines_from : ℕ → ℕ → ℕ → List LetterLine
  lines_from phase from count = flat_map (λ to. line_of (record { phase = phase; from = from; to = to })) (count_from 0 count)

  -- the lines of the letters of a phase from the first ranks
  abbrev pub lines_of_phase : ℕ → ℕ → List LetterLine
  lines_of_phase phase count = flat_map (λ from. lines_from phase from job.ranks) (count_from 0 count)
