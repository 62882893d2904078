use Rattle.tables.proofs.Ranks.{sum_of-owned}
use Rattle.tables.proofs.laws.owned_rows_add_up.Goals as goal

pub returns : goal.returns
returns g c = λ R law P owner t h. sum_of-owned law P owner t h
