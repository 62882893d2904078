use Rattle.matrix_arrivals.proofs.Begun.{assembled-rows-are-combined, own-rows-are-brought, plain-rows-are-added, rows-are-begun}
use Rattle.matrix_arrivals.proofs.laws.rows_are_begun.Goals as goal

pub returns-clause-own : goal.returns-clause-own
returns-clause-own g c = own-rows-are-brought

pub returns-clause-begun : goal.returns-clause-begun
returns-clause-begun g c = rows-are-begun g.S.Scalar.semiring g.S.Scalar.conversions

pub returns-clause-plain : goal.returns-clause-plain
returns-clause-plain g c = plain-rows-are-added g.S.Scalar.semiring g.S.Scalar.conversions

pub returns-clause-assembled : goal.returns-clause-assembled
returns-clause-assembled g c = assembled-rows-are-combined g.S.Scalar.semiring g.S.Scalar.conversions
