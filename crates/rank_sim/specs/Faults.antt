-- Which fault of a run comes of which of a play.
use Rattle.message_play.specs.declared.fault.PlayFault.{PlayFault}
use Rattle.message_play.specs.declared.fault.PlayFault.TheVariants as play
use Rattle.rank_sim.specs.declared.ends.RunFault.{RunFault}
use Rattle.rank_sim.specs.declared.ends.RunFault.TheVariants.{NoMem, NotInFlight, WireFault}

abbrev pub fault_of : PlayFault → RunFault
fault_of (play.NotInFlight line name) = NotInFlight line name
fault_of play.WireFault = WireFault
fault_of play.NoMem = NoMem
