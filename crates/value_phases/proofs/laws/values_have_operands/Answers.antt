-- Values that are copied, those that are applied, and matrices that are made of others.
use Rattle.value_phases.proofs.Copies.{copies-have-sources}
use Rattle.value_phases.proofs.Applies.{applies-have-operands}
use Rattle.value_phases.proofs.MadeMatrices.{made-matrices-have-operands}
use Rattle.value_phases.proofs.laws.values_have_operands.Goals as goal

pub returns-clause-copies : goal.returns-clause-copies
returns-clause-copies c = copies-have-sources

pub returns-clause-applies : goal.returns-clause-applies
returns-clause-applies c = applies-have-operands

pub returns-clause-matrices : goal.returns-clause-matrices
returns-clause-matrices c = made-matrices-have-operands
