use Rattle.map_core.proofs.Homes.{home}
use Rattle.map_core.proofs.laws.home_law.Goals as goal

pub returns : goal.returns
returns c = record { home = λ g h known. home c.args.ranks c.args.size h g known }
