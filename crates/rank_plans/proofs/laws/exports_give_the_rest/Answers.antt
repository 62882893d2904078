use Rattle.rank_plans.proofs.Joined.{exports_lack_the_rest}
use Rattle.rank_plans.proofs.laws.exports_give_the_rest.Goals as goal

pub returns : goal.returns
returns c = exports_lack_the_rest
