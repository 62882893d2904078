-- The names of the files of a job.
use Rattle.std.specs.Prelude.{ℕ, List, map}
use Rattle.model_defs.specs.declared.job.Job.{Job}
use Rattle.job_files.specs.Wanted.{wanted}

-- in the order in which they are read
abbrev pub job_file_names : Job → List (List ℕ)
job_file_names job = map (λ w. w.name) (wanted job)
