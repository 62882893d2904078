use Rattle.std.proofs.Common.{length}
use Rattle.schedule.proofs.tally.+tower.Given as goal

abbrev pub decreases-tower : goal.decreases-tower
decreases-tower l = length l.level.items
