use Rattle.crs_graph.proofs.Marks.{ArePlaces}
use Rattle.crs_graph.proofs.compress.place_list.Given as goal

abbrev pub invariant-loop-lid : goal.invariant-loop-lid
invariant-loop-lid l = ArePlaces l.first l.count l.cols l.lid l.list.items
