-- Bytes that are written in their order.
use Rattle.std.specs.Prelude.{◌≡◌, ℕ, ◌+◌, List, ◌++◌, take, drop, length}

-- the list with these bytes written from a place on
abbrev pub splice : List ℕ → ℕ → List ℕ → List ℕ
splice out at bytes = take at out ++ (bytes ++ drop (at + length bytes) out)

-- the first bytes are these
abbrev pub StartsWith : List ℕ → List ℕ → Type 0
StartsWith bytes out = take (length bytes) out ≡ bytes
