use Rattle.job_fit.proofs.Fitted.{read-files-fit}
use Rattle.job_fit.proofs.laws.read_files_fit.Goals as goal

pub returns : goal.returns
returns c = read-files-fit
