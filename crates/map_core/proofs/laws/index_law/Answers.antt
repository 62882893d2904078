use Rattle.map_core.proofs.Places.{inverse}
use Rattle.map_core.proofs.laws.index_law.Goals as goal

pub returns : goal.returns
returns c = record { inverse = λ g l. inverse c.args.map.now g l c.len.ensures.distinct }
