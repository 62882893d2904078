use Rattle.mm_text.specs.Reading.{reading}
use Rattle.mm_text.proofs.LawLemmas.{ok_not_err, ok_or_err, one_err, one_ok}
use Rattle.mm_text.proofs.laws.one_reading.Goals as goal

pub returns-clause-file_or_fault : goal.returns-clause-file_or_fault
returns-clause-file_or_fault c = λ profile text. ok_or_err (reading profile text)

pub returns-clause-not_both : goal.returns-clause-not_both
returns-clause-not_both c = λ profile text file fault is has. ok_not_err (reading profile text) file fault is has

pub returns-clause-one_file : goal.returns-clause-one_file
returns-clause-one_file c = λ profile text file other is same. one_ok (reading profile text) file other is same

pub returns-clause-one_fault : goal.returns-clause-one_fault
returns-clause-one_fault c = λ profile text fault other is same. one_err (reading profile text) fault other is same
