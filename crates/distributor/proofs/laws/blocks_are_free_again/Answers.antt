use Rattle.distributor.proofs.Rounds.{free-again}
use Rattle.distributor.proofs.laws.blocks_are_free_again.Goals as goal

pub returns : goal.returns
returns c = λ pool lent after i bytes none l s m r. free-again pool lent after i bytes none l s m r
