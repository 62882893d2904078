use Rattle.rank_matrices.proofs.DealtRows.{law-of-rank_rows, law-of-rows, law-of-tables}
use Rattle.rank_matrices.proofs.laws.dealt_lines_are_parts.Goals as goal

pub returns-clause-table : goal.returns-clause-table
returns-clause-table g c = law-of-tables

pub returns-clause-rows : goal.returns-clause-rows
returns-clause-rows g c = law-of-rows

pub returns-clause-rank_rows : goal.returns-clause-rank_rows
returns-clause-rank_rows g c = law-of-rank_rows
