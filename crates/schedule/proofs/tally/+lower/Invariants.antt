use Rattle.std.proofs.Common.{length}
use Rattle.schedule.proofs.tally.+lower.Given as goal

abbrev pub decreases-lower : goal.decreases-lower
decreases-lower l = length l.levels.now
