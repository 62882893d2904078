use Rattle.std.proofs.Common.{length}
use Rattle.schedule.proofs.tally.+find.Given as goal

abbrev pub decreases-find : goal.decreases-find
decreases-find l = length l.levels.now
