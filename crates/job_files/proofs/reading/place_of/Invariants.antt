use Rattle.std.proofs.Common.{◌≡◌, drop}
use Rattle.job_files.specs.Places.{place_from}
use Rattle.job_files.proofs.reading.place_of.Given as goal

abbrev pub invariant-loop-place : goal.invariant-loop-place
invariant-loop-place l = place_from 0 l.name l.files ≡ place_from l.place l.name (drop l.place l.files)
