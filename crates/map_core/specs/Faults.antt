-- What the fault of a list, or of the lists of all ranks, says of them.
use Rattle.std.specs.Prelude.{◌≡◌, ℕ, ◌<◌, ◌≤◌, true, List, [], Some, length, take, slice_get}
use Rattle.std.specs.List.{slice_index_or}
use Rattle.map_core.specs.declared.faults.ListFault.{ListFault}
use Rattle.map_core.specs.declared.faults.ListFault.TheVariants.{Repeated, NoMem}
use Rattle.map_core.specs.declared.faults.MapFault.{MapFault}
use Rattle.map_core.specs.declared.faults.MapFault.TheVariants as map_fault
use Rattle.map_core.specs.Layouts.{stands, AreDistinct}

-- g is the first index of the list that stands earlier in it
pub record IsFirstRepeat (xs : List ℕ) (g : ℕ) : Type 0 where
  pub place : ℕ
  pub at : slice_get xs place ≡ Some g
  pub earlier : stands g (take place xs) ≡ true
  pub first : AreDistinct (take place xs)

-- the fault names the first repeated index; memory may run out at any list
abbrev pub IsFaultOf : List ℕ → ListFault → Type 0
IsFaultOf xs (Repeated gid) = IsFirstRepeat xs gid
IsFaultOf xs NoMem = Unit {0}

-- a list that a rank of a layout of this size may have: distinct indices below the size
pub record IsSound (size : ℕ) (xs : List ℕ) : Type 0 where
  pub distinct : AreDistinct xs
  pub below : (g : ℕ) → stands g xs ≡ true → g < size

-- the index at this place of the list is g, and the indices before it are sound
pub record IsReached (size : ℕ) (xs : List ℕ) (place g : ℕ) : Type 0 where
  pub earlier : IsSound size (take place xs)
  pub at : slice_get xs place ≡ Some g

-- g, below the size, stands earlier in the list, and is the first index that is not sound
pub record IsRepeatIn (size : ℕ) (xs : List ℕ) (g : ℕ) : Type 0 where
  pub place : ℕ
  pub reached : IsReached size xs place g
  pub below : g < size
  pub twice : stands g (take place xs) ≡ true

-- g is not below the size, and is the first index that is not sound
pub record IsOutsideIn (size : ℕ) (xs : List ℕ) (g : ℕ) : Type 0 where
  pub place : ℕ
  pub reached : IsReached size xs place g
  pub outside : size ≤ g

-- there is a list of this rank, and the lists of all ranks before it are sound
pub record IsFirstList (size : ℕ) (lists : List (List ℕ)) (rank : ℕ) : Type 0 where
  pub known : rank < length lists
  pub earlier : (p : ℕ) → p < rank → IsSound size (slice_index_or lists p [])

-- in the order of ranks and places the fault names the first index that is not below the size or stands earlier in the
-- list of its rank, with its rank; memory may run out at any lists
abbrev pub IsMapFaultOf : ℕ → List (List ℕ) → MapFault → Type 0
IsMapFaultOf size lists (map_fault.Repeated rank gid) = IsFirstList size lists rank × IsRepeatIn size (slice_index_or lists rank []) gid
IsMapFaultOf size lists (map_fault.OutOfSize rank gid) = IsFirstList size lists rank × IsOutsideIn size (slice_index_or lists rank []) gid
IsMapFaultOf size lists map_fault.NoMem = Unit {0}

-- the same of the list of one rank
abbrev pub IsRankFaultOf : ℕ → ℕ → List ℕ → MapFault → Type 0
IsRankFaultOf rank size xs (map_fault.Repeated p gid) = (p ≡ rank) × IsRepeatIn size xs gid
IsRankFaultOf rank size xs (map_fault.OutOfSize p gid) = (p ≡ rank) × IsOutsideIn size xs gid
IsRankFaultOf rank size xs map_fault.NoMem = Unit {0}
