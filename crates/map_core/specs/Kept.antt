-- How a map keeps the indices of a rank: as a list of its own, or by arithmetic.
use Rattle.std.specs.Prelude.{ℕ, ◌<◌, ◌^◌, List, length, nat_eq}
use Rattle.indexmap.specs.IndexSet.{IsUnique}
use Rattle.map_core.specs.declared.local_map.Kept.{Kept}
use Rattle.map_core.specs.declared.local_map.Kept.TheVariants.{Listed, Strided}

-- the indices in their order
abbrev pub kept_list : Kept → List ℕ
kept_list (Listed set) = set.keys
kept_list (Strided stride) = stride

-- a list of its own has fewer than 2 ^ 32 indices, none twice
abbrev pub IsKept : Kept → Type 0
IsKept (Listed set) = IsUnique nat_eq set × (length set.keys < 2 ^ 32)
IsKept (Strided stride) = Unit {0}
