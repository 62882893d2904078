use Rattle.combine_modes.proofs.Arrivals.{cell-of-ranks, tables-of-ranks}
use Rattle.combine_modes.proofs.laws.ranks_in_any_order.Goals as goal

pub returns-clause-cell : goal.returns-clause-cell
returns-clause-cell g c = λ mode fixed P p senders old brought h. cell-of-ranks g.met.S.Scalar.laws mode fixed P p senders old brought h

pub returns-clause-whole : goal.returns-clause-whole
returns-clause-whole g c = λ mode fixed P p senders old brought h. tables-of-ranks g.met.S.Scalar.laws mode fixed P p senders old brought h
