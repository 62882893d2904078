use Rattle.byte_pool.proofs.SamePools.{given_back, same_pools}
use Rattle.byte_pool.proofs.laws.room_is_given_back.Goals as goal

pub returns-clause-decide : goal.returns-clause-decide
returns-clause-decide c = same_pools

pub returns-clause-back : goal.returns-clause-back
returns-clause-back c = given_back
