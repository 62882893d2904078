use Rattle.std.proofs.Common.{◌≡◌, ◌≤◌, ◌++◌, length}
use Rattle.schedule.specs.Tallies.{halved, total}
use Rattle.schedule.proofs.tally.halves.Given as goal

-- the sums so far, with those of the rest, are all
abbrev pub invariant-loop-rest : goal.invariant-loop-rest
invariant-loop-rest l = record {
  sums : l.sums.items ++ halved l.rest ≡ halved l.level;
  small : total l.rest ≤ total l.level;
}

abbrev pub decreases-loop-rest : goal.decreases-loop-rest
decreases-loop-rest l = length l.rest
