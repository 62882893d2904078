use Rattle.std.proofs.lemmas.Result.{on_ok_weaker}
use Rattle.outside.proofs.Twisting.{alike}
use Rattle.outside.proofs.twist_wire.TwistWireWire.take.Goals as goal

pub returns-clause-alike : goal.returns-clause-alike
returns-clause-alike c =
    on_ok_weaker c.take.result (λ h letter posted. alike c.args.self.now.by letter c.take.new.into.items (h letter posted))
    c.take.ensures.changed
