use Rattle.rank_transfers.proofs.Moved.{exports-are-begun, imports-are-begun, spreads-are-begun}
use Rattle.rank_transfers.proofs.laws.copies_are_begun.Goals as goal

pub returns-clause-imports : goal.returns-clause-imports
returns-clause-imports g c = imports-are-begun g.S.Scalar.semiring g.S.Scalar.conversions

pub returns-clause-spreads : goal.returns-clause-spreads
returns-clause-spreads g c = spreads-are-begun g.S.Scalar.semiring g.S.Scalar.conversions

pub returns-clause-exports : goal.returns-clause-exports
returns-clause-exports g c = exports-are-begun g.S.Scalar.semiring g.S.Scalar.conversions
