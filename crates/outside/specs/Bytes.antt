-- What a read and a write do to bytes, where they are told.
use Rattle.std.specs.Prelude.{◌≡◌, ℕ, ◌<◌, ◌≤◌, List, [], ◌++◌, Option, None, Some, length, take, drop}
use Rattle.std.specs.Option.{option_map}

-- `piece` is n bytes of what stands in the file from `at` on: none only at its end or for no room. A name with no
-- file is never read.
abbrev pub IsReadOf : Option (List ℕ) → ℕ → ℕ → ℕ → List ℕ → Type 0
IsReadOf None at n room piece = ⊥
IsReadOf (Some file) at n room piece =
    (piece ≡ take n (drop at file)) × (n ≤ length (drop at file)) × (n ≡ 0 → 0 < room → drop at file ≡ [])

-- what was told of a sink, with more bytes behind
abbrev pub with_bytes : Option (List ℕ) → List ℕ → Option (List ℕ)
with_bytes told bytes = option_map (λ t. t ++ bytes) told
