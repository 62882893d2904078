use Rattle.std.proofs.Common.{◌≡◌, take, ◌++◌, map}
use Rattle.byte_pool.specs.Blocks.{free_block}
use Rattle.distributor.specs.Transfers.{letter_lengths}
use Rattle.distributor.proofs.transfer.reserve_letters.Given as goal

abbrev pub invariant-loop-rank : goal.invariant-loop-rank
invariant-loop-rank l = l.pool ≡ l.fn.pool ++ map free_block (letter_lengths l.width (take l.rank l.plan.exports))
