use Rattle.multivector.specs.Vectors.{HasSameShape}
use Rattle.layers_bench.proofs.updates.fill.Given as goal

abbrev pub invariant-loop-lid : goal.invariant-loop-lid
invariant-loop-lid l = HasSameShape l.initial.x l.x
