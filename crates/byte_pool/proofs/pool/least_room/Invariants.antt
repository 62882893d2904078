use Rattle.std.proofs.Common.{◌≡◌, ℕ, ◌<◌, ◌≤◌, true, get_or, length}
use Rattle.byte_pool.specs.Blocks.{BlockState, has_room}
use Rattle.byte_pool.proofs.pool.least_room.Given as goal

abbrev pub invariant-loop-i : goal.invariant-loop-i
invariant-loop-i l = record {
  within : l.best < length l.blocks;
  fits : (d : BlockState) → has_room l.len (get_or l.blocks l.best d) ≡ true;
  least : (k : ℕ) (d : BlockState) → k < l.i → has_room l.len (get_or l.blocks k d) ≡ true → (get_or l.blocks l.best d).size ≤ (get_or l.blocks k d).size;
  earlier : (k : ℕ) (d : BlockState) → k < l.best → has_room l.len (get_or l.blocks k d) ≡ true → (get_or l.blocks l.best d).size < (get_or l.blocks k d).size;
}
