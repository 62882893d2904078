-- Names that are numbered in order of posting, and marks on those in flight.
use Rattle.std.specs.Prelude.{◌≡◌, ◌+◌, ◌≤◌, ◌==◌, ℕ, suc, Bool, false, not, ◌&&◌, List, [], ◌∷◌, Option, None, Some, length, slice_index, if◌then◌else◌}
use Rattle.std.specs.Option.{option_map}
use Rattle.outside.specs.declared.name.Name.{Name}
use Rattle.outside.specs.Letters.{same_name}
use Rattle.peers.specs.Protocols.{stands_in}

-- the number of a name, from 0
abbrev pub number_in : List Name → Name → Option ℕ
number_in [] n = None
number_in (m ∷ ms) n = if same_name n m then Some 0 else option_map (λ at. suc at) (number_in ms n)

-- no name stands twice
abbrev pub AreApart : List Name → Type 0
AreApart [] = Unit {0}
AreApart (n ∷ ns) = (stands_in ns n ≡ false) × AreApart ns

-- of these names those with a mark
abbrev pub picked : List Name → List ℕ → List Name
picked [] marks = []
picked (n ∷ ns) [] = []
picked (n ∷ ns) (mark ∷ marks) = if mark == 0 then picked ns marks else n ∷ picked ns marks

-- whether there is a mark at a number
abbrev pub is_picked : List ℕ → Option ℕ → Bool
is_picked marks None = false
is_picked marks (Some at) = not (slice_index marks at == 0)

abbrev pub AreSet : List ℕ → Type 0
AreSet [] = Unit {0}
AreSet (mark ∷ marks) = (mark ≡ 1) × AreSet marks

-- each name has a place, and behind these each place has a mark
abbrev pub AreSetBehind : List Name → List ℕ → Type 0
AreSetBehind [] marks = AreSet marks
AreSetBehind (n ∷ ns) [] = ⊥
AreSetBehind (n ∷ ns) (mark ∷ marks) = AreSetBehind ns marks

-- what was posted, the marks on what is in flight, what was delivered, and room to remember so many deliveries
pub record IsFlow (posted : List Name) (marks : List ℕ) (delivered : List Name) (room : ℕ) : Type 0 where
  pub apart : AreApart posted
  pub behind : AreSetBehind posted marks
  pub room_for_all : length posted ≤ room
  pub counted : length delivered + length (picked posted marks) ≡ length posted
  pub known : (n : Name) → stands_in delivered n ≡ (stands_in posted n && not (stands_in (picked posted marks) n))
