use Rattle.rank_phases.proofs.PairNames.{between, names-ascend, names-by-phase}
use Rattle.rank_phases.proofs.laws.letters_between_ranks_ascend.Goals as goal

pub returns-clause-ascend : goal.returns-clause-ascend
returns-clause-ascend c = λ ranks tests. names-ascend ranks 0 tests

pub returns-clause-by_phase : goal.returns-clause-by_phase
returns-clause-by_phase c = λ ranks tests. names-by-phase ranks 0 tests

pub returns-clause-within : goal.returns-clause-within
returns-clause-within c = λ ranks tests n s. between ranks tests n s
