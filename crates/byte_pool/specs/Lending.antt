-- What a block and a pool end as, once a borrow of the bytes of a lease has ended.
use Rattle.std.specs.Prelude.{ℕ, List}
use Rattle.std.specs.Borrow.{Lends, MutBor, Fml, u8, Array}
use Rattle.byte_pool.specs.Blocks.{BlockState, written}
use Rattle.byte_pool.specs.Leases.{with_written}
use Rattle.byte_pool.specs.contracts.block.Block.{the_row as block_row}
use Rattle.byte_pool.specs.contracts.pool.Pool.{the_row as pool_row}

-- the bytes of the block's lease are those that r shows last
abbrev pub lends_of_block : MutBor BlockState → MutBor (List ℕ) → Fml
lends_of_block b r = Lends block_row (Array u8 0) b r (written b.now)

-- the bytes of this lease are those that r shows last; all other blocks stay
abbrev pub lends_of_pool : MutBor (List BlockState) → ℕ → MutBor (List ℕ) → Fml
lends_of_pool p lease r = Lends pool_row (Array u8 0) p r (with_written p.now lease)
