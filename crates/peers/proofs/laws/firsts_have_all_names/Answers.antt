use Rattle.std.proofs.Common.{[]}
use Rattle.peers.proofs.FirstNames.{names_beyond-again, names_of-firsts_beyond, stands_in-first_names}
use Rattle.peers.proofs.laws.firsts_have_all_names.Goals as goal

pub returns-clause-names : goal.returns-clause-names
returns-clause-names c = λ letters. names_of-firsts_beyond [] letters

pub returns-clause-all : goal.returns-clause-all
returns-clause-all c = λ names n. stands_in-first_names names n

pub returns-clause-once : goal.returns-clause-once
returns-clause-once c = λ names. names_beyond-again [] [] names (λ n s. s)
