use Rattle.std.specs.List.{concat}
use Rattle.crs_graph.proofs.AllColumns.{ascending-ascends, stands-ascending}
use Rattle.crs_graph.proofs.laws.columns_law.Goals as goal

pub returns : goal.returns
returns c = record { ascend = λ f. ascending-ascends (concat f.columns); same = λ f col. stands-ascending (concat f.columns) col }
