-- What the fault of an offer says of it.
use Rattle.std.specs.Prelude.{◌≡◌, ℕ, List, Some}
use Rattle.map_core.specs.Classes.{first_lacked}
use Rattle.map_core.specs.declared.faults.HeldFault.{HeldFault}
use Rattle.map_core.specs.declared.faults.HeldFault.TheVariants as held
use Rattle.export_plan.specs.declared.faults.OfferFault.{OfferFault}
use Rattle.export_plan.specs.declared.faults.OfferFault.TheVariants as offer

-- the fault of an offer, from that of the target list
abbrev pub of_held : HeldFault → OfferFault
of_held (held.NotHeld gid) = offer.NotHeld gid
of_held held.NoMem = offer.NoMem

-- the fault names the first index that the target lacks; memory may run out at any offer
abbrev pub IsOfferFault : List ℕ → List ℕ → OfferFault → Type 0
IsOfferFault target gs (offer.NotHeld gid) = first_lacked target gs ≡ Some gid
IsOfferFault target gs offer.NoMem = Unit {0}
