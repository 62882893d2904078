use Rattle.std.proofs.Common.{◌≡◌, [], length}
use Rattle.gathered_rows.specs.Blocks.{cells_in}
use Rattle.gathered_rows.proofs.dealing.new_blocks.Given as goal

abbrev pub invariant-loop : goal.invariant-loop
invariant-loop g l = record { count : length l.blocks.items ≡ l.counter; empty : cells_in l.blocks.items ≡ [] }
