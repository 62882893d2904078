-- Runs: letters that are given one after the other, each after those that come before it.
use Rattle.std.specs.Prelude.{◌≡◌, true, ℕ, Bool, ◌||◌, List, [], ◌∷◌, ◌++◌}
use Rattle.std.specs.List.{list_all}
use Rattle.outside.specs.declared.name.Name.{Name}
use Rattle.outside.specs.Letters.{IsAlike}
use Rattle.peers.specs.Protocols.{Letter, Protocol, firsts, flies, stands_in}

-- what may be delivered after these deliveries: a letter in flight, or again one that was delivered
abbrev pub may_come : Protocol → List Name → Name → Bool
may_come P delivered n = stands_in delivered n || flies P delivered n

-- each of these names may come when it does, where `delivered` came before
abbrev pub EachComes : Protocol → List Name → List Name → Type 0
EachComes P delivered [] = Unit {0}
EachComes P delivered (n ∷ ns) = (may_come P delivered n ≡ true) × EachComes P (delivered ++ n ∷ []) ns

-- Each letter is to what its sender made of the letters before it, of each name the first, as R says. The letters of
-- `earlier` came before all these.
abbrev pub EachAfter : (List ℕ → List ℕ → Type 0) → Protocol → List Letter → List Letter → Type 0
EachAfter R P earlier [] = Unit {0}
EachAfter R P earlier (l ∷ ls) = R (P.content l.0 (firsts earlier)) l.1 × EachAfter R P (earlier ++ l ∷ []) ls

-- each letter is alike to what its sender made
abbrev pub IsRun : Protocol → List Letter → Type 0
IsRun P letters = EachAfter IsAlike P [] letters

-- each letter is what its sender made
abbrev pub IsExactRun : Protocol → List Letter → Type 0
IsExactRun P letters = EachAfter (λ posted given. given ≡ posted) P [] letters

-- each of these letters is to what its sender makes of all these letters, as R says
abbrev pub EachOfAll : (List ℕ → List ℕ → Type 0) → Protocol → List Letter → List Letter → Type 0
EachOfAll R P all [] = Unit {0}
EachOfAll R P all (l ∷ ls) = R (P.content l.0 (firsts all)) l.1 × EachOfAll R P all ls

-- whether all letters of the protocol were delivered
abbrev pub has_all : Protocol → List Name → Bool
has_all P delivered = list_all (stands_in delivered) P.names
