-- Letters that are packed and given back, over and over.
use Rattle.std.specs.Prelude.{◌≡◌, ℕ, ◌<◌, ◌≤◌, Bool, true, false, ◌==◌, List, length, count_by, Option, None, Some}
use Rattle.std.specs.List.{list_all}
use Rattle.byte_pool.specs.Blocks.{BlockState, has_room}
use Rattle.byte_pool.specs.Leases.{leases, sizes, with_lease, without_lease}

-- Whether a block is lent with so many bytes.
abbrev pub lent_with : ℕ → Option (List ℕ) → Bool
lent_with len None = false
lent_with len (Some bytes) = length bytes == len

-- Whether a lease has as many bytes as its block.
abbrev pub lent_whole : ℕ → Option (List ℕ) → Bool
lent_whole size None = true
lent_whole size (Some bytes) = length bytes == size

-- Every lease of the pool has the length of its block, as where a block was reserved for each letter.
abbrev pub AreWhole : List BlockState → Type 0
AreWhole pool = list_all (λ b. lent_whole b.size b.lent) pool ≡ true

-- How many blocks have so many bytes, and how many leases.
abbrev pub blocks_of : ℕ → List BlockState → ℕ
blocks_of len pool = count_by (λ b. b.size == len) pool

abbrev pub leases_of : ℕ → List BlockState → ℕ
leases_of len pool = count_by (λ b. lent_with len b.lent) pool

-- Where fewer letters of a length are out than blocks were reserved for them, there is room for one more.
abbrev pub LettersFindRoom : Type 0
LettersFindRoom = (pool : List BlockState) (len : ℕ) → AreWhole pool → leases_of len pool < blocks_of len pool → 1 ≤ count_by (has_room len) pool

-- A block that is lent and then given back: the pool is as before.
abbrev pub BlocksAreFreeAgain : Type 0
BlocksAreFreeAgain =
    (pool lent after : List BlockState) (i : ℕ) (bytes : List ℕ) → leases pool i ≡ None
    → leases lent ≡ with_lease (leases pool) i bytes → sizes lent ≡ sizes pool
    → leases after ≡ without_lease (leases lent) i → sizes after ≡ sizes lent
    → after ≡ pool
