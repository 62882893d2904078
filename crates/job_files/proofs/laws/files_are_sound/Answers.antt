use Rattle.job_files.proofs.Expecting.{files-are_sound}
use Rattle.job_files.proofs.laws.files_are_sound.Goals as goal

pub returns : goal.returns
returns c = files-are_sound
