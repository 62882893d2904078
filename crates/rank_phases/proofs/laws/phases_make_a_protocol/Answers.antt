use Rattle.rank_phases.proofs.PhaseProtocols.{arrivals-known, goes-phased, goes-protocol}
use Rattle.rank_phases.proofs.laws.phases_make_a_protocol.Goals as goal

pub returns-clause-protocol : goal.returns-clause-protocol
returns-clause-protocol c = λ P phases law. goes-protocol P phases law

pub returns-clause-phased : goal.returns-clause-phased
returns-clause-phased c = λ P phases law. goes-phased P phases law

pub returns-clause-before : goal.returns-clause-before
returns-clause-before c = λ P phases law n letters all k lt. arrivals-known P n (law.waits n) letters all k lt
