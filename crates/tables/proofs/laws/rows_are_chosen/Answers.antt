use Rattle.tables.proofs.Filters.{table_of-filter, only_rows-sum_of}
use Rattle.tables.proofs.laws.rows_are_chosen.Goals as goal

pub returns-clause-cells : goal.returns-clause-cells
returns-clause-cells g c = λ R law p cells. table_of-filter law p cells

pub returns-clause-sum : goal.returns-clause-sum
returns-clause-sum g c = λ R law p ts. only_rows-sum_of law p ts
