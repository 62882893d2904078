use Rattle.tables.proofs.Sums.{total-all}
use Rattle.tables.proofs.laws.arrivals_add_up.Goals as goal

pub returns : goal.returns
returns g c = λ M law n f arrivals distinct below rest. total-all law n f arrivals distinct below rest
