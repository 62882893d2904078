use Rattle.std.proofs.Common.{◌≡◌, ◌++◌, drop}
use Rattle.map_core.specs.Homes.{is_home}
use Rattle.rank_plans.specs.Answers.{filled}
use Rattle.rank_plans.proofs.answers.filled_owners.Given as goal

abbrev pub invariant-loop-at : goal.invariant-loop-at
invariant-loop-at l =
    l.filled.items ++ filled (is_home l.ranks l.size l.from) l.ranks (drop l.at l.gids) (drop l.at l.owners) (drop l.next l.words)
    ≡ filled (is_home l.ranks l.size l.from) l.ranks l.gids l.owners l.words
