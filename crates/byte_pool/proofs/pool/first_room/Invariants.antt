use Rattle.std.proofs.Common.{◌≡◌, ℕ, ◌<◌, false, get_or}
use Rattle.byte_pool.specs.Blocks.{BlockState, has_room}
use Rattle.byte_pool.proofs.pool.first_room.Given as goal

abbrev pub invariant-loop-i : goal.invariant-loop-i
invariant-loop-i l = (k : ℕ) (d : BlockState) → k < l.i → has_room l.len (get_or l.blocks k d) ≡ false
