use Rattle.std.proofs.Common.{ap, ◌∙◌, ◌++◌}
use Rattle.outside.specs.TwistWire.{all_moved}
use Rattle.outside.proofs.Taking.{take-rest}
use Rattle.outside.proofs.Twisting.{pushed_number}
use Rattle.outside.proofs.twist.extend_moved.Goals as goal

pub loop-rest-preserved : goal.loop-rest-preserved
loop-rest-preserved c =
    ap (λ r. c.push_moved-in-loop-rest.new.into.items ++ all_moved c.args.by r) (take-rest 32 c.loop-rest.rest.now)
    ∙ pushed_number c.args.by c.args.into.now.items c.loop-rest.into.items c.args.bytes.now c.loop-rest.rest.now
    c.push_moved.new.into.items c.push_moved-in-loop-rest.new.into.items c.loop-rest-test.true c.loop-rest.invariant
    c.in_ok-push_moved.ensures c.in_ok-push_moved-2.ensures
