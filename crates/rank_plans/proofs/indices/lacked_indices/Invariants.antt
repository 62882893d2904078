use Rattle.std.proofs.Common.{◌≡◌, take}
use Rattle.rank_plans.specs.Answers.{lacked_in}
use Rattle.rank_plans.proofs.indices.lacked_indices.Given as goal

abbrev pub invariant-loop-lid : goal.invariant-loop-lid
invariant-loop-lid l = l.lacked.items ≡ lacked_in l.source (take l.lid l.target)
