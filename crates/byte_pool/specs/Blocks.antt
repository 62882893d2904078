-- Blocks of bytes, of which some are lent.
use Rattle.std.specs.Prelude.{ℕ, ◌&&◌, nat_le, Bool, is_none, if◌then◌else◌, List, Option, None, Some, length, take, option_map}
use Rattle.std.specs.List.{refill}

-- the size of a block, and the bytes of its lease where it is lent
pub record BlockState : Type 0 where
  pub size : ℕ
  pub lent : Option (List ℕ)

abbrev pub free_block : ℕ → BlockState
free_block size = record { size = size; lent = None }

abbrev pub lent_block : ℕ → List ℕ → BlockState
lent_block size bytes = record { size = size; lent = Some bytes }

-- whether a block is free and has room for so many bytes
abbrev pub has_room : ℕ → BlockState → Bool
has_room len b = is_none b.lent && nat_le len b.size

-- the bytes of a lease of which the first so many were written
abbrev pub written : BlockState → List ℕ → BlockState
written b bytes = record b { lent = option_map (λ old. refill (length old) old bytes) b.lent }

-- the first len of the bytes, where they are lent
abbrev pub lent_part : Bool → ℕ → List ℕ → Option (List ℕ)
lent_part is_lent len bytes = if is_lent then Some (take len bytes) else None
