use Rattle.std.proofs.Common.{◌≡◌, ◌++◌, length}
use Rattle.outside.specs.TwistWire.{all_moved}
use Rattle.outside.proofs.twist.extend_moved.Given as goal

abbrev pub invariant-loop-rest : goal.invariant-loop-rest
invariant-loop-rest l = l.into.items ++ all_moved l.by l.rest ≡ l.fn.into.items ++ all_moved l.by l.bytes

abbrev pub decreases-loop-rest : goal.decreases-loop-rest
decreases-loop-rest l = length l.rest
