use Rattle.tables.proofs.Ranks.{sum_of-dealt_lines}
use Rattle.model_defs.specs.FileMatrix.{entry_numbers}
use Rattle.model_defs.proofs.laws.dealt_matrices_add_up.Goals as goal

pub returns : goal.returns
returns g c = λ R laws F mirror P some lines. sum_of-dealt_lines laws P some (entry_numbers R F mirror) lines
