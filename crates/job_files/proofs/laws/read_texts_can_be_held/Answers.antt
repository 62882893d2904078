use Rattle.job_files.proofs.Holding.{read_texts-can_be_held}
use Rattle.job_files.proofs.laws.read_texts_can_be_held.Goals as goal

pub returns : goal.returns
returns c = read_texts-can_be_held
