use Rattle.tables.proofs.Ranks.{sum_of-dealt, sum_of-dealt_lines}
use Rattle.tables.proofs.laws.dealt_parts_add_up.Goals as goal

pub returns-clause-lines : goal.returns-clause-lines
returns-clause-lines g c = λ R law P some places lines. sum_of-dealt_lines law P some places lines

pub returns-clause-cells : goal.returns-clause-cells
returns-clause-cells g c = λ R law P some cells. sum_of-dealt law P some cells
