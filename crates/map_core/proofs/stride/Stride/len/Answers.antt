use Rattle.std.proofs.Common.{sym, arith}
use Rattle.map_core.proofs.Strides.{AreDistinct-stride, length-stride}
use Rattle.map_core.proofs.stride.Stride.len.Goals as goal

pub returns-clause-len : goal.returns-clause-len
returns-clause-len c = rw (sym c.self.view_is) (sym (length-stride c.self.inside.first c.self.inside.step c.self.inside.count))

pub returns-clause-distinct : goal.returns-clause-distinct
returns-clause-distinct c = rw (sym c.self.view_is) (AreDistinct-stride c.self.inside.first c.self.inside.step c.self.inside.count c.self.invariant.0)

pub returns-clause-few : goal.returns-clause-few
returns-clause-few c = rw (sym c.self.view_is) (omega (arith, length-stride c.self.inside.first c.self.inside.step c.self.inside.count))
