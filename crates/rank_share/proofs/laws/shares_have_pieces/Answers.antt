use Rattle.rank_share.proofs.SharedCells.{law-of-cells, law-of-places}
use Rattle.rank_share.proofs.laws.shares_have_pieces.Goals as goal

pub returns-clause-cells : goal.returns-clause-cells
returns-clause-cells g c = law-of-cells

pub returns-clause-places : goal.returns-clause-places
returns-clause-places g c = law-of-places
