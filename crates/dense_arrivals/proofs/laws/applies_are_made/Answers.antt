use Rattle.dense_arrivals.proofs.Made.{applies-are-onto-noughts, applies-have-transfers, copies-are-applied, copies-of-x, sums-are-applied, sums-of-own}
use Rattle.dense_arrivals.proofs.laws.applies_are_made.Goals as goal

pub returns-clause-transfers : goal.returns-clause-transfers
returns-clause-transfers g c = applies-have-transfers

pub returns-clause-copies : goal.returns-clause-copies
returns-clause-copies g c = copies-of-x g.S.Scalar.semiring g.S.Scalar.conversions

pub returns-clause-sums : goal.returns-clause-sums
returns-clause-sums g c = sums-of-own g.S.Scalar.semiring g.S.Scalar.conversions

pub returns-clause-onto : goal.returns-clause-onto
returns-clause-onto g c = applies-are-onto-noughts g.S.Scalar.semiring g.S.Scalar.conversions

pub returns-clause-copies_applied : goal.returns-clause-copies_applied
returns-clause-copies_applied g c = copies-are-applied g.S.Scalar.semiring g.S.Scalar.conversions

pub returns-clause-sums_applied : goal.returns-clause-sums_applied
returns-clause-sums_applied g c = sums-are-applied g.S.Scalar.semiring g.S.Scalar.conversions
