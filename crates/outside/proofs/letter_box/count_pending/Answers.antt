use Rattle.std.proofs.Common.{rules}
use Rattle.std.proofs.iter.runs.Made.{chains}
use Rattle.outside.proofs.letter_box.count_pending.Goals as goal

pub returns-clause-count : goal.returns-clause-count
returns-clause-count c = search (rules, chains)
