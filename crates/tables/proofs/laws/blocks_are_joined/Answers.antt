use Rattle.tables.proofs.Listed.{found-append}
use Rattle.tables.proofs.Blocks.{AreInOrder-blocks, blocks_of-sum, cells_of-only_rows}
use Rattle.tables.proofs.laws.blocks_are_joined.Goals as goal

pub returns-clause-first : goal.returns-clause-first
returns-clause-first g c = λ xs ys i j. found-append xs ys i j

pub returns-clause-order : goal.returns-clause-order
returns-clause-order g c = λ m xs ys o p below above. AreInOrder-blocks m xs ys o p below above

pub returns-clause-whole : goal.returns-clause-whole
returns-clause-whole g c = λ cols sizes t. blocks_of-sum 0 cols sizes t

pub returns-clause-owned : goal.returns-clause-owned
returns-clause-owned g c = λ size first rows cols t fits. cells_of-only_rows size first rows cols t fits
