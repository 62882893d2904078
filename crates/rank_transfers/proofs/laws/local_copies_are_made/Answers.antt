use Rattle.rank_transfers.proofs.Local.{local-exports-are-made, local-imports-are-made, local-moves-are-made, local-spreads-are-made, nothing-comes-by-locals}
use Rattle.rank_transfers.proofs.Unsent.{local-transfers-are-unsent}
use Rattle.rank_transfers.proofs.laws.local_copies_are_made.Goals as goal

pub returns-clause-unsent : goal.returns-clause-unsent
returns-clause-unsent g c = local-transfers-are-unsent

pub returns-clause-none : goal.returns-clause-none
returns-clause-none g c = nothing-comes-by-locals g.S.Scalar.semiring g.S.Scalar.conversions

pub returns-clause-imports : goal.returns-clause-imports
returns-clause-imports g c = local-imports-are-made g.S.Scalar.semiring g.S.Scalar.conversions

pub returns-clause-exports : goal.returns-clause-exports
returns-clause-exports g c = local-exports-are-made g.S.Scalar.semiring g.S.Scalar.conversions

pub returns-clause-moves : goal.returns-clause-moves
returns-clause-moves g c = local-moves-are-made g.S.Scalar.semiring g.S.Scalar.conversions

pub returns-clause-spreads : goal.returns-clause-spreads
returns-clause-spreads g c = local-spreads-are-made g.S.Scalar.semiring g.S.Scalar.conversions
