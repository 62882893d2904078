use Rattle.std.proofs.Common.{◌≡◌, ◌++◌}
use Rattle.std.specs.Prelude.{replicate}
use Rattle.byte_pool.specs.Blocks.{free_block}
use Rattle.byte_pool.proofs.pool.Pool.reserve.Given as goal

abbrev pub invariant-loop-i : goal.invariant-loop-i
invariant-loop-i l = l.self-inside.blocks.items ≡ l.fn.self ++ replicate l.i (free_block l.size)
