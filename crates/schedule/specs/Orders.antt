-- What an order delivers.
use Rattle.std.specs.Prelude.{◌≡◌, true, ℕ, zero, suc, ◌==◌, nat_lt, Bool, not, ◌&&◌, ◌||◌, if◌then◌else◌, List, [], ◌∷◌, ◌++◌, None, Some, length}
use Rattle.std.specs.List.{filter, AllByRecursion}
use Rattle.outside.specs.declared.name.Name.{Name}
use Rattle.schedule.specs.declared.chooser.Chooser.TheVariants as chooser
use Rattle.schedule.specs.declared.chooser.Chooser.{Chooser}
use Rattle.schedule.specs.declared.order.Order.TheVariants as order
use Rattle.schedule.specs.declared.order.Order.{Order}
use Rattle.schedule.specs.declared.order.Entry.{Entry}
use Rattle.schedule.specs.Choosers.{chooser_after}
use Rattle.peers.specs.Protocols.{stands_in, Protocol, flies, in_flight}
use Rattle.peers.specs.Runs.{may_come}
use Rattle.schedule.specs.Flights.{without, chosen}

-- the letters that come into flight when the letter n is delivered after these
abbrev pub come_into_flight : Protocol → List Name → Name → List Name
come_into_flight P delivered n = filter (λ m. flies P (delivered ++ n ∷ []) m && not (flies P delivered m)) P.names

-- the letters in flight at the start, in order of posting: rank after rank, each rank's in the order of the names
abbrev pub posted_first : Protocol → ℕ → List Name
posted_first P zero = []
posted_first P (suc rank) = posted_first P rank ++ filter (λ n. (n.from == rank) && flies P [] n) P.names

-- What is delivered by a chooser after these deliveries, while these letters are in flight, in order of posting. At
-- most `most` letters are.
abbrev pub chosen_deliveries : Protocol → ℕ → Chooser → List Name → List Name → List Name
chosen_deliveries P zero chooser delivered flying = []
chosen_deliveries P (suc most) chooser delivered flying =
    elim (chosen chooser flying) [
      | None ↦ []
      | Some n ↦
          n ∷ chosen_deliveries P most (chooser_after chooser) (delivered ++ n ∷ [])
          (without n flying ++ come_into_flight P delivered n)
    ]

-- how many letters of the protocol were not delivered
abbrev pub undelivered_count : Protocol → List Name → ℕ
undelivered_count P delivered = length (filter (λ n. not (stands_in delivered n)) P.names)

-- what a list delivers after these deliveries
abbrev pub listed_deliveries : Protocol → List Name → List Entry → List Name
listed_deliveries P delivered [] = []
listed_deliveries P delivered (e ∷ es) =
    if may_come P delivered e.name then e.name ∷ listed_deliveries P (delivered ++ e.name ∷ []) es else []

-- How an order ends: all letters were delivered, some are left in flight, or a line names a letter that may not come.
pub data Ending : Type 0 where
  Complete : Ending
  Left : List Name → Ending
  Wrong : ℕ → Name → Ending

-- where the letters in flight are these
abbrev pub ending_of : List Name → Ending
ending_of [] = Complete
ending_of (n ∷ ns) = Left (n ∷ ns)

-- where these were delivered
abbrev pub ending_after : Protocol → List Name → Ending
ending_after P delivered = ending_of (in_flight P delivered)

-- how a list ends that is played after these deliveries
abbrev pub listed_ending : Protocol → List Name → List Entry → Ending
listed_ending P delivered [] = ending_after P delivered
listed_ending P delivered (e ∷ es) =
    if may_come P delivered e.name then listed_ending P (delivered ++ e.name ∷ []) es else Wrong e.line e.name

-- what a chooser delivers from the start
abbrev pub by_chooser : Protocol → Chooser → List Name
by_chooser P chooser = chosen_deliveries P (length P.names) chooser [] (posted_first P P.ranks)

-- what an order delivers
abbrev pub deliveries : Protocol → Order → List Name
deliveries P order.Fifo = by_chooser P chooser.Fifo
deliveries P order.Lifo = by_chooser P chooser.Lifo
deliveries P (order.Seed seed) = by_chooser P (chooser.Seed seed)
deliveries P (order.Listed entries) = listed_deliveries P [] entries.items

-- how an order ends
abbrev pub ending : Protocol → Order → Ending
ending P (order.Listed entries) = listed_ending P [] entries.items
ending P by = ending_after P (deliveries P by)

-- Of these entries, in order, each that is the first with its name, where the names `seen` came earlier.
abbrev pub entries_beyond : List Name → List Entry → List Entry
entries_beyond seen [] = []
entries_beyond seen (e ∷ es) = (if stands_in seen e.name then [] else e ∷ []) ++ entries_beyond (seen ++ e.name ∷ []) es

-- whether the first three numbers come before the other three
abbrev pub less3 : ℕ → ℕ → ℕ → ℕ → ℕ → ℕ → Bool
less3 a b c x y z = nat_lt a x || ((a == x) && (nat_lt b y || ((b == y) && nat_lt c z)))

-- by sender, then phase, then receiver
abbrev pub sender_first : Name → Name → Bool
sender_first m n = less3 m.from m.phase m.to n.from n.phase n.to

-- by phase, then receiver, then sender
abbrev pub phase_first : Name → Name → Bool
phase_first m n = less3 m.phase m.to m.from n.phase n.to n.from

-- each name is earlier than all those behind it
abbrev pub IsInOrder : (Name → Name → Bool) → List Name → Type 0
IsInOrder earlier [] = Unit {0}
IsInOrder earlier (n ∷ ns) = AllByRecursion (λ m. earlier n m ≡ true) ns × IsInOrder earlier ns
