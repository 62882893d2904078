-- A command as the program holds it.
use Rattle.std.specs.Prelude.{◌≤◌}
use Rattle.generated_job.specs.Generated.{most_generated}
use Rattle.run_words.specs.Seen.{words_view}
use Rattle.tpx.specs.declared.words.Asked.{Asked}
use Rattle.tpx.specs.declared.words.Asked.TheVariants.{Show, Run, Gen}
use Rattle.tpx.specs.Words.{Command, show, run, gen}

-- the command that is meant
abbrev pub asked : Asked → Command
asked (Show c) = show c.ranks c.file.now
asked (Run c) = run (words_view c)
asked (Gen size) = gen size

-- the number of ranks is from 1 to 32, and a size from 1 to 1,000,000
abbrev pub IsWithinBounds : Asked → Type 0
IsWithinBounds (Show c) = (1 ≤ c.ranks) × (c.ranks ≤ 32)
IsWithinBounds (Run c) = Unit {0}
IsWithinBounds (Gen size) = (1 ≤ size) × (size ≤ most_generated)
