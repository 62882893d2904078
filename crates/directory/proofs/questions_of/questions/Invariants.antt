use Rattle.std.proofs.Common.{◌≡◌, take}
use Rattle.map_core.specs.Homes.{homed}
use Rattle.directory.proofs.questions_of.questions.Given as goal

abbrev pub invariant-loop-gid : goal.invariant-loop-gid
invariant-loop-gid l = l.asked.items ≡ homed l.ranks l.size l.to (take l.gid-index l.gids)
