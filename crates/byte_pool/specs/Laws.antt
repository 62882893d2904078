-- The laws of pools, each the contract of a function in the module `laws`.
use Rattle.std.specs.Prelude.{◌≡◌, ℕ, ◌<◌, ◌≤◌, ◌==◌, ◌++◌, Bool, true, false, count_by, length, replicate, List, Option, None, Some}
use Rattle.std.specs.List.{list_all}
use Rattle.byte_pool.specs.Blocks.{BlockState, free_block, has_room}
use Rattle.byte_pool.specs.Leases.{IsLeastRoom, leases, sizes, with_lease, with_written, without_lease}

-- The sizes and the leases are all that is seen of a pool.
abbrev pub SizesAndLeasesDecide : Type 0
SizesAndLeasesDecide = (a b : List BlockState) → sizes a ≡ sizes b → leases a ≡ leases b → a ≡ b

-- What was lent and given back leaves the pool as it was: each size has as many free blocks as before.
abbrev pub RoomIsGivenBack : Type 0
RoomIsGivenBack =
    (before lent after : List BlockState) (lease : ℕ) (bytes : List ℕ)
    → leases before lease ≡ None
    → leases lent ≡ with_lease (leases before) lease bytes → sizes lent ≡ sizes before
    → leases after ≡ without_lease (leases lent) lease → sizes after ≡ sizes lent
    → after ≡ before

-- Bytes that were written into a lease are its bytes; all other leases and all sizes stay.
abbrev pub OneLeaseIsWritten : Type 0
OneLeaseIsWritten =
    (blocks : List BlockState) (lease : ℕ) (old bytes : List ℕ) → leases blocks lease ≡ Some old → length bytes ≡ length old
    → (leases (with_written blocks lease bytes) ≡ with_lease (leases blocks) lease bytes) × (sizes (with_written blocks lease bytes) ≡ sizes blocks)

-- whether the lease has so many bytes, if there is one
abbrev pub is_full : ℕ → Option (List ℕ) → Bool
is_full size None = true
is_full size (Some bytes) = length bytes == size

-- each lease has the length of its block
abbrev pub AreFull : List BlockState → Type 0
AreFull blocks = list_all (λ b. is_full b.size b.lent) blocks ≡ true

-- whether there is a lease, of so many bytes
abbrev pub is_lent_of : ℕ → Option (List ℕ) → Bool
is_lent_of len None = false
is_lent_of len (Some bytes) = length bytes == len

-- Where each lease has the length of its block, and fewer blocks of a length are lent than there are, one has room for
-- this length, and a lease of it has the length of its block again.
abbrev pub RoomOfItsLength : Type 0
RoomOfItsLength =
    (len : ℕ) (blocks : List BlockState) → AreFull blocks
    → count_by (λ b. is_lent_of len b.lent) blocks < count_by (λ b. b.size == len) blocks
    → (1 ≤ count_by (has_room len) blocks)
    × ((after : List BlockState) (lease : ℕ) (bytes : List ℕ) → IsLeastRoom len blocks lease → length bytes ≡ len
    → leases after ≡ with_lease (leases blocks) lease bytes → sizes after ≡ sizes blocks → AreFull after)

-- What is given back, and what is reserved, keeps each lease at the length of its block.
abbrev pub FullStaysFull : Type 0
FullStaysFull =
    (blocks after : List BlockState) → AreFull blocks
    → ((lease : ℕ) → leases after ≡ without_lease (leases blocks) lease → sizes after ≡ sizes blocks → AreFull after)
    × ((size count : ℕ) → AreFull (blocks ++ replicate count (free_block size)))
