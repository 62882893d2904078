use Rattle.std.proofs.Common.{◌≡◌, ℕ, List, length, map, take}
use Rattle.mm_text.specs.Reading.{file_of}
use Rattle.job_files.specs.Wanted.{seen}
use Rattle.job_files.proofs.Walked.{IsWalked}
use Rattle.job_files.proofs.Walking.{room_after}
use Rattle.job_files.proofs.reading.read_wanted.Given as goal

abbrev pub invariant-loop-at : goal.invariant-loop-at
invariant-loop-at g l =
    (length l.read.items ≡ l.at) × IsWalked (g.F.Files.told l.initial.files) l.held l.entries (seen (take l.at l.wanted)) (map file_of l.read.items)
    × (l.room ≡ room_after l.entries (map file_of l.read.items)) × (g.F.Files.told l.files ≡ g.F.Files.told l.initial.files)
    × ((name : List ℕ) → g.F.Files.faults l.files name ≡ g.F.Files.faults l.initial.files name)
