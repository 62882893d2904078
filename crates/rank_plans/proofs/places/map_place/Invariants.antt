use Rattle.std.proofs.Common.{◌≡◌, ◌==◌, ◌+◌, drop}
use Rattle.std.specs.List.{position_or_len}
use Rattle.rank_plans.proofs.places.map_place.Given as goal

abbrev pub invariant-loop-at : goal.invariant-loop-at
invariant-loop-at l = position_or_len (λ r. l.map == r.map) l.maps ≡ l.at + position_or_len (λ r. l.map == r.map) (drop l.at l.maps)
