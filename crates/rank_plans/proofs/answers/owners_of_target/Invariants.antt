use Rattle.std.proofs.Common.{◌≡◌, ◌++◌, drop}
use Rattle.rank_plans.specs.Answers.{target_owners}
use Rattle.rank_plans.proofs.answers.owners_of_target.Given as goal

abbrev pub invariant-loop-lid : goal.invariant-loop-lid
invariant-loop-lid l =
    l.owners.items ++ target_owners l.me l.source (drop l.lid l.target) (drop l.next l.known) ≡ target_owners l.me l.source l.target l.known
