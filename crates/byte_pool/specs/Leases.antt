-- Which blocks of a pool are lent, and which is lent next.
use Rattle.std.specs.Prelude.{◌≡◌, ◌<◌, ◌≤◌, ℕ, zero, suc, true, ◌==◌, if◌then◌else◌, slice_get, List, [], ◌∷◌, map, Option, None, Some}
use Rattle.byte_pool.specs.Blocks.{BlockState, has_room, written}

-- Leases by the numbers of their blocks: the bytes of each that is live.
abbrev pub Leases : Type 0
Leases = ℕ → Option (List ℕ)

abbrev pub leases : List BlockState → Leases
leases [] i = None
leases (b ∷ bs) zero = b.lent
leases (b ∷ bs) (suc i) = leases bs i

-- with these bytes in this lease
abbrev pub with_lease : Leases → ℕ → List ℕ → Leases
with_lease live i bytes j = if j == i then Some bytes else live j

-- without this lease
abbrev pub without_lease : Leases → ℕ → Leases
without_lease live i j = if j == i then None else live j

-- the sizes of the blocks, in the order in which they were made
abbrev pub sizes : List BlockState → List ℕ
sizes blocks = map (λ b. b.size) blocks

-- Of the free blocks with room for so many bytes this is the least, the first made among equals.
pub record IsLeastRoom (len : ℕ) (blocks : List BlockState) (i : ℕ) : Type 0 where
  pub block : BlockState
  pub at : slice_get blocks i ≡ Some block
  pub room : has_room len block ≡ true
  pub least : (j : ℕ) (b : BlockState) → slice_get blocks j ≡ Some b → has_room len b ≡ true → block.size ≤ b.size
  pub first : (j : ℕ) (b : BlockState) → j < i → slice_get blocks j ≡ Some b → has_room len b ≡ true → block.size < b.size

-- with bytes written into the lease of this block
abbrev pub with_written : List BlockState → ℕ → List ℕ → List BlockState
with_written [] i bytes = []
with_written (b ∷ bs) zero bytes = written b bytes ∷ bs
with_written (b ∷ bs) (suc i) bytes = b ∷ with_written bs i bytes
