use Rattle.std.proofs.Common.{◌≡◌, ◌++◌, Some, drop, map, take}
use Rattle.rank_plans.proofs.task.accept_offers.Given as goal

abbrev pub invariant-loop-at : goal.invariant-loop-at
invariant-loop-at l = l.export ≡ record l.fn.export { offers = map (λ v. Some v.items) (take l.at l.told) ++ drop l.at l.fn.export.offers }
