-- The transfers of values, and the matrices of files.
use Rattle.value_phases.proofs.Matrices.{matrices-are-known}
use Rattle.value_phases.proofs.Stages.{jobs-have-value-stages}
use Rattle.value_phases.proofs.laws.values_have_stages.Goals as goal

pub returns-clause-stages : goal.returns-clause-stages
returns-clause-stages c = jobs-have-value-stages

pub returns-clause-matrices : goal.returns-clause-matrices
returns-clause-matrices c = matrices-are-known
