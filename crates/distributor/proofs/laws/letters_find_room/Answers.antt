use Rattle.std.proofs.Common.{arith}
use Rattle.distributor.proofs.Rounds.{room-or-lease}
use Rattle.distributor.proofs.laws.letters_find_room.Goals as goal

pub returns : goal.returns
returns c = λ pool len whole fewer. omega (arith, room-or-lease pool len whole, fewer)
