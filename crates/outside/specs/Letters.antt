-- Letters on a wire: their names, which of them are there, and how one that is given may differ from the posted one.
use Rattle.std.specs.Prelude.{◌≡◌, ℕ, ◌+◌, ◌*◌, ◌↔◌, ◌==◌, ◌&&◌, Bool, if◌then◌else◌, List, [], ◌∷◌, ◌++◌, Option, None, Some, IsSome, Contains, length, take, drop}
use Rattle.std.specs.Int.{from_le_bytes, w64}
use Rattle.std.specs.List.{IsDistinct}
use Rattle.std.specs.Option.{option_map}
use Rattle.std.specs.Ordering.{nat_cmp, ordering_then}
use Rattle.std.specs.declared.cmp.Ordering.{Ordering}
use Rattle.outside.specs.declared.name.Name.{Name}

-- whether two names are one
abbrev pub same_name : Name → Name → Bool
same_name a b = (a.phase == b.phase) && (a.from == b.from) && (a.to == b.to)

-- the order of names: by phase, then sender, then receiver
abbrev pub name_order : Name → Name → Ordering
name_order a b =
    ordering_then (nat_cmp a.phase b.phase) (ordering_then (nat_cmp a.from b.from) (nat_cmp a.to b.to))

-- Letters by their names: the bytes of each that is there.
abbrev pub Letters : Type 0
Letters = Name → Option (List ℕ)

-- no letter is there
abbrev pub no_letters : Letters
no_letters n = None

-- with these bytes under this name
abbrev pub with_letter : Letters → Name → List ℕ → Letters
with_letter letters name bytes n = if same_name name n then Some bytes else letters n

-- with no letter under this name
abbrev pub without_letter : Letters → Name → Letters
without_letter letters name n = if same_name name n then None else letters n

-- how many letters are there
pub record IsCountOf (letters : Letters) (count : ℕ) : Type 0 where
  -- the names of the letters, each once
  pub names : List Name
  pub distinct : IsDistinct same_name names
  pub exactly : (n : Name) → Contains names n ↔ IsSome (letters n)
  pub length : length names ≡ count

-- where a letter's index part ends: the number of its words is in the 8 bytes behind the first, each word has 8
unfoldable pub index_end : List ℕ → ℕ
index_end letter = 9 + 8 * from_le_bytes w64 (take 8 (drop 1 letter))

-- The letter that is given has the length of the posted one, and its kind, its number of words and its index part. So
-- only its numbers may differ.
pub record IsAlike (posted given : List ℕ) : Type 0 where
  pub same_length : length given ≡ length posted
  pub same_index : take (index_end posted) given ≡ take (index_end posted) posted

-- what was told of the letters given, with one more
abbrev pub with_given : Option (List (Name × List ℕ)) → Name → List ℕ → Option (List (Name × List ℕ))
with_given given name bytes = option_map (λ g. g ++ (name, bytes) ∷ []) given
