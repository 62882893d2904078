use Rattle.std.proofs.Common.{ℕ, ◌<◌}
use Rattle.std.specs.Prelude.{IsSome}
use Rattle.import_plan.specs.Imports.{want_of}
use Rattle.layers_bench.proofs.plans.has_all.Given as goal

abbrev pub invariant-loop-from : goal.invariant-loop-from
invariant-loop-from l = (q : ℕ) → q < l.from → IsSome (want_of l.import q)
