-- Files of the sizes that a job states fit it.
use Rattle.std.specs.Prelude.{◌≡◌, List, None, Ok}
use Rattle.outside.specs.Reads.{Source}
use Rattle.mm_text.specs.Reading.{File}
use Rattle.model_defs.specs.declared.job.Job.{Job}
use Rattle.model_defs.specs.Fitting.{IsFitting, first_unfit}
use Rattle.job_files.specs.Walk.{files_of}

-- Where the files of a job were read, and none of them has other sizes than the job states, they fit it.
abbrev pub ReadFilesFit : Type 0
ReadFilesFit = (job : Job) (source : Source) (files : List File) → files_of job source ≡ Ok files → first_unfit job files ≡ None
    → IsFitting job files
