-- What the fault of a list that is to be registered says of it.
use Rattle.std.specs.Prelude.{◌≡◌, ℕ, ◌||◌, true, List, Option, Some, is_some, take, slice_get}
use Rattle.map_core.specs.Layouts.{stands}
use Rattle.directory.specs.declared.faults.DirFault.{DirFault}
use Rattle.directory.specs.declared.faults.DirFault.TheVariants.{Twice, NoMem}
use Rattle.directory.specs.Directories.{AreNew}

-- g is the first index of the list that is known already or stands earlier in it
pub record IsFirstTwice (known : ℕ → Option ℕ) (xs : List ℕ) (g : ℕ) : Type 0 where
  pub place : ℕ
  pub at : slice_get xs place ≡ Some g
  pub twice : (is_some (known g) || stands g (take place xs)) ≡ true
  pub earlier : AreNew known (take place xs)

-- the fault names that index; memory may run out at any list
abbrev pub IsDirFaultOf : (ℕ → Option ℕ) → List ℕ → DirFault → Type 0
IsDirFaultOf known xs (Twice gid) = IsFirstTwice known xs gid
IsDirFaultOf known xs NoMem = Unit {0}
