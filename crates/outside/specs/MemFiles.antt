-- Files in memory.
use Rattle.std.specs.Prelude.{ℕ, List, Option}
use Rattle.std.specs.Map.{lookup}
use Rattle.std.specs.Str.{bytes_eq}
use Rattle.outside.specs.Faults.{FaultPlan}

-- each file's name and bytes, and which reads are faults
pub record MemoryFiles : Type 0 where
  pub files : List (List ℕ × List ℕ)
  pub plan : FaultPlan

-- the bytes of the file with this name
abbrev pub file_of : List (List ℕ × List ℕ) → List ℕ → Option (List ℕ)
file_of files name = lookup (bytes_eq name) files
