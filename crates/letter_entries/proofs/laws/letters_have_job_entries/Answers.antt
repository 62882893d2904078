use Rattle.letter_entries.proofs.Entries.{letters-have-job-entries}
use Rattle.letter_entries.proofs.laws.letters_have_job_entries.Goals as goal

pub returns : goal.returns
returns g c = letters-have-job-entries g.S.Scalar.semiring g.S.Scalar.conversions g.met.S.Scalar.conversion_laws
