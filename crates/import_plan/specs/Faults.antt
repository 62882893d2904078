-- What the fault of a want says of it.
use Rattle.std.specs.Prelude.{◌≡◌, ℕ, List, Some}
use Rattle.map_core.specs.Classes.{first_lacked}
use Rattle.map_core.specs.declared.faults.HeldFault.{HeldFault}
use Rattle.map_core.specs.declared.faults.HeldFault.TheVariants as held
use Rattle.import_plan.specs.declared.faults.WantFault.{WantFault}
use Rattle.import_plan.specs.declared.faults.WantFault.TheVariants as want

-- the fault of a want, from that of the source list
abbrev pub of_held : HeldFault → WantFault
of_held (held.NotHeld gid) = want.NotHeld gid
of_held held.NoMem = want.NoMem

-- the fault names the first index that the source lacks; memory may run out at any want
abbrev pub IsWantFault : List ℕ → List ℕ → WantFault → Type 0
IsWantFault source gs (want.NotHeld gid) = first_lacked source gs ≡ Some gid
IsWantFault source gs want.NoMem = Unit {0}
