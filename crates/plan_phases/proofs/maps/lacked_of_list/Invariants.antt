use Rattle.std.proofs.Common.{◌≡◌, take}
use Rattle.rank_plans.specs.Answers.{lacked_in}
use Rattle.plan_phases.proofs.maps.lacked_of_list.Given as goal

abbrev pub invariant-loop-gid : goal.invariant-loop-gid
invariant-loop-gid l = l.lacked.items ≡ lacked_in l.held (take l.gid-index l.list)
