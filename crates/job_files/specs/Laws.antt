-- What holds of the files of a job, and of the texts that are held.
use Rattle.std.specs.Prelude.{◌≡◌, ◌<◌, ℕ, All, List, Option, Ok, length}
use Rattle.outside.specs.Reads.{HasText, Source}
use Rattle.mm_text.specs.declared.file_data.Form.TheVariants.{Array}
use Rattle.mm_text.specs.Reading.{File}
use Rattle.mm_text.specs.Sound.{IsDense, IsSound}
use Rattle.model_defs.specs.declared.job.Job.{Job}
use Rattle.model_defs.specs.Fitting.{expected_file, file_total}
use Rattle.model_defs.specs.Given.{file_count, value_file}
use Rattle.model_defs.specs.Makers.{maker_of, value_count}
use Rattle.job_files.specs.declared.held.HeldText.{HeldText}
use Rattle.job_files.specs.Held.{TellsHeld}
use Rattle.job_files.specs.Walk.{files_of}

-- The files of a job are as many as it names, and each is sound in the form in which the job has it read: so they fit the
-- job where their sizes are those that it states.
abbrev pub FilesAreSound : Type 0
FilesAreSound = (job : Job) (source : Source) (files : List File) → files_of job source ≡ Ok files
    → (length files ≡ file_total job)
    × ((k part : ℕ) → k < value_count job → part < file_count (maker_of job k)
    → IsSound (value_file job files k part) × ((expected_file job (maker_of job k) part).form ≡ Array → IsDense (value_file job files k part)))

-- Texts that were read, each as what the files may tell of its name, can be held.
abbrev pub ReadTextsCanBeHeld : Type 0
ReadTextsCanBeHeld = (told : Option Source) (held : List HeldText)
    → All (λ h. HasText told h.name.now (λ text. text ≡ h.text.now)) held → TellsHeld told held
