use Rattle.std.proofs.Common.{◌≡◌, ◌+◌, length}
use Rattle.layers_bench.proofs.plans.add_letters.Given as goal

abbrev pub invariant-loop-to : goal.invariant-loop-to
invariant-loop-to l = length l.letters.items ≡ length l.initial.letters.items + l.to
