-- Which letters a set of ranks sends, what must come before each, and what its sender makes of what it was given.
use Rattle.std.specs.Prelude.{◌≡◌, ℕ, ◌<◌, Bool, true, not, ◌&&◌, if◌then◌else◌, List, [], ◌∷◌, ◌++◌, Option}
use Rattle.std.specs.List.{filter, list_all, list_any}
use Rattle.std.specs.List.Sorted.{IsStrictlySortedBy}
use Rattle.std.specs.declared.cmp.Ordering.{Ordering}
use Rattle.outside.specs.contracts.name.NameOrd.TheImpl.{cmp-value}
use Rattle.outside.specs.declared.name.Name.{Name}
use Rattle.outside.specs.Letters.{same_name}

-- the order of names: by phase, then sender, then receiver
abbrev pub name_cmp : Name → Name → Ordering
name_cmp = cmp-value.it

-- a letter: its name and its bytes
abbrev pub Letter : Type 0
Letter = Name × List ℕ

-- whether the name is one of the list
abbrev pub stands_in : List Name → Name → Bool
stands_in names n = list_any (same_name n) names

-- the results of a rank: the bytes of each result, by its number, at each row and column that it has
abbrev pub Results : Type 0
Results = ℕ → ℕ → ℕ → Option (List ℕ)

-- Which letters the ranks below `ranks` send. Before a letter is posted, its sender was given the letters `before` it.
-- Its bytes are what its sender makes of the letters given so far, in order of delivery. What a rank has in the end are its
-- results of the letters given to it.
pub record Protocol : Type 0 where
  pub ranks : ℕ
  pub names : List Name
  pub before : Name → List Name
  pub content : Name → List Letter → List ℕ
  pub results : ℕ → List Letter → Results

-- of these letters those with one of these names
abbrev pub only : List Name → List Letter → List Letter
only names letters = filter (λ l. stands_in names l.0) letters

-- one of the letters is before this one
abbrev pub IsBefore : Protocol → Name → Name → Type 0
IsBefore P m n = (stands_in P.names n ≡ true) × (stands_in (P.before n) m ≡ true)

-- What a protocol has to keep: the names ascend, and each goes between its ranks. What is before a letter is
-- a letter to its sender, and no letter is before itself, not even in a round about way. What a sender makes of the
-- letters given depends on those alone that are before.
pub record IsProtocol (P : Protocol) : Type 0 where
  pub ordered : IsStrictlySortedBy name_cmp P.names
  pub from_rank : (n : Name) → stands_in P.names n ≡ true → n.from < P.ranks
  pub to_rank : (n : Name) → stands_in P.names n ≡ true → n.to < P.ranks
  pub before_known : (m n : Name) → IsBefore P m n → stands_in P.names m ≡ true
  pub before_given : (m n : Name) → IsBefore P m n → m.to ≡ n.from
  pub depth : Name → ℕ
  pub before_falls : (m n : Name) → IsBefore P m n → depth m < depth n
  pub made_of_before : (n : Name) (given : List Letter) → P.content n given ≡ P.content n (only (P.before n) given)

-- whether all that is before the letter was delivered
abbrev pub is_ready : Protocol → List Name → Name → Bool
is_ready P delivered n = list_all (stands_in delivered) (P.before n)

-- After these deliveries a letter is in flight where it was not delivered, and all that is before it was.
abbrev pub flies : Protocol → List Name → Name → Bool
flies P delivered n = stands_in P.names n && (not (stands_in delivered n) && is_ready P delivered n)

-- the letters in flight, in the order of the names
abbrev pub in_flight : Protocol → List Name → List Name
in_flight P delivered = filter (flies P delivered) P.names

-- Of these letters, in order, each that is the first with its name, where the names `seen` came earlier.
abbrev pub firsts_beyond : List Name → List Letter → List Letter
firsts_beyond seen [] = []
firsts_beyond seen (l ∷ ls) = (if stands_in seen l.0 then [] else l ∷ []) ++ firsts_beyond (seen ++ l.0 ∷ []) ls

-- a letter that is given again has no effect: of each name the first one counts
abbrev pub firsts : List Letter → List Letter
firsts letters = firsts_beyond [] letters

-- the same of names
abbrev pub names_beyond : List Name → List Name → List Name
names_beyond seen [] = []
names_beyond seen (n ∷ ns) = (if stands_in seen n then [] else n ∷ []) ++ names_beyond (seen ++ n ∷ []) ns

abbrev pub first_names : List Name → List Name
first_names names = names_beyond [] names
