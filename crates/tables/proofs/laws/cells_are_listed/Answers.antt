use Rattle.tables.proofs.Listed.{found-cells_of, AreInOrder-cells_of}
use Rattle.tables.proofs.Within.{AreWithin-cells_of, cells_of-unique}
use Rattle.tables.proofs.Places.{list_any-cells_of}
use Rattle.tables.proofs.laws.cells_are_listed.Goals as goal

pub returns-clause-order : goal.returns-clause-order
returns-clause-order g c = λ rows cols t. (AreInOrder-cells_of rows cols t, AreWithin-cells_of rows cols t)

pub returns-clause-places : goal.returns-clause-places
returns-clause-places g c = λ rows cols t. found-cells_of rows cols t

pub returns-clause-only : goal.returns-clause-only
returns-clause-only g c = λ rows cols t cells o w h. cells_of-unique rows cols t cells o w h

pub returns-clause-test : goal.returns-clause-test
returns-clause-test g c = λ rows cols t p. list_any-cells_of p rows cols t
