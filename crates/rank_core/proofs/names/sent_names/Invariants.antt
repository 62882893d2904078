use Rattle.std.proofs.Common.{◌≡◌, ◌<◌, length, nat_lt, take}
use Rattle.std.specs.Prelude.{All}
use Rattle.std.specs.List.{filter}
use Rattle.rank_makings.specs.Comings.{IsComingIn, Scene, rows_between}
use Rattle.rank_core.proofs.names.sent_names.Given as goal

abbrev pub invariant-loop-name : goal.invariant-loop-name
invariant-loop-name g l = (e : Scene _) → IsComingIn g.S.Scalar.semiring g.S.Scalar.conversions e l.coming → All (λ n. n.to < e.job.ranks) l.names
    → l.sent.items ≡ filter (λ n. nat_lt 0 (length (rows_between e e.me n.to))) (take l.name-index l.names)
