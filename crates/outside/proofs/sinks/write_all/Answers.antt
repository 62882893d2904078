use Rattle.std.proofs.Common.{◌∙◌, length-drop, arith, ℕ}
use Rattle.outside.proofs.Taking.{with_bytes-on}
use Rattle.outside.proofs.sinks.write_all.Goals as goal

pub loop-done-preserved : goal.loop-done-preserved
loop-done-preserved g c = record {
  within = omega (arith, c.in-Ok.ensures.within, c.loop-done.invariant.within, length-drop {A = ℕ});
  taken = with_bytes-on _ _ _ _ c.loop-done.done c.in-Ok.count c.loop-done.invariant.taken c.in-Ok.ensures.taken;
  no_fault = c.in-Ok.ensures.no_fault ∙ c.loop-done.invariant.no_fault;
}
