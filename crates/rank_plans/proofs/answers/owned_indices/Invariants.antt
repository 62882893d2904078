use Rattle.std.proofs.Common.{◌≡◌, ◌++◌, drop}
use Rattle.rank_plans.specs.Answers.{owned_by}
use Rattle.rank_plans.proofs.answers.owned_indices.Given as goal

abbrev pub invariant-loop-at : goal.invariant-loop-at
invariant-loop-at l = l.owned.items ++ owned_by l.to (drop l.at l.gids) (drop l.at l.owners) ≡ owned_by l.to l.gids l.owners
