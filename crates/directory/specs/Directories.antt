-- What one rank knows of the owners of a layout.
use Rattle.std.specs.Prelude.{◌≡◌, ℕ, ◌<◌, ◌≤◌, ◌^◌, ◌++◌, true, List, Option, None, Some, nat_eq, map}
use Rattle.std.specs.Map.{lookup}
use Rattle.std.specs.Option.{unwrap_or}
use Rattle.map_core.specs.Layouts.{stands, AreDistinct}
use Rattle.map_core.specs.Homes.{is_home}

-- the rank that each entry's index has, where it has one
abbrev pub found_in : List (ℕ × ℕ) → ℕ → Option ℕ
found_in entries g = lookup (nat_eq g) entries

-- rank `me` of a number of ranks, for a layout of a size, and the indices that were registered with their owners
pub record Directory : Type 0 where
  pub me : ℕ
  pub ranks : ℕ
  pub size : ℕ
  pub entries : List (ℕ × ℕ)

-- the rank that registered g
abbrev pub owner_of : Directory → ℕ → Option ℕ
owner_of d g = found_in d.entries g

-- what a question for g is answered: its owner, or 4294967295 where it has none
abbrev pub answer_for : Directory → ℕ → ℕ
answer_for d g = unwrap_or (owner_of d g) 4294967295

-- a directory holds indices of its own home, with owners that are ranks
pub record IsDirectory (d : Directory) : Type 0 where
  pub some_rank : 1 ≤ d.ranks
  pub ranks_limit : d.ranks ≤ 32
  pub own_rank : d.me < d.ranks
  pub size_limit : d.size ≤ 2 ^ 40
  pub ranks_below : (g p : ℕ) → owner_of d g ≡ Some p → p < d.ranks
  pub home : (g p : ℕ) → owner_of d g ≡ Some p → is_home d.ranks d.size d.me g ≡ true

-- indices that have no owner yet, none twice
pub record AreNew (known : ℕ → Option ℕ) (xs : List ℕ) : Type 0 where
  pub distinct : AreDistinct xs
  pub unknown : (g : ℕ) → stands g xs ≡ true → known g ≡ None

-- the entries of indices with one owner
abbrev pub entered : ℕ → List ℕ → List (ℕ × ℕ)
entered p xs = map (λ g. (g, p)) xs

-- a list begins with another
pub record IsFrontOf (front xs : List (ℕ × ℕ)) : Type 0 where
  pub rest : List (ℕ × ℕ)
  pub is : xs ≡ front ++ rest
