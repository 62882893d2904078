-- The faults of a run's input, by those of the readers.
use Rattle.std.specs.Prelude.{ℕ, List}
use Rattle.std.specs.Borrow.{Bor}
use Rattle.std.specs.List.{IsAmong}
use Rattle.job_text.specs.declared.fault.JobFault.{JobFault}
use Rattle.job_text.specs.declared.fault.JobFault.TheVariants as job
use Rattle.schedule.specs.declared.fault.ScheduleFault.{ScheduleFault}
use Rattle.schedule.specs.declared.fault.ScheduleFault.TheVariants as schedule
use Rattle.job_files.specs.declared.fault.FilesFault.{FilesFault}
use Rattle.job_files.specs.declared.fault.FilesFault.TheVariants as files
use Rattle.run_input.specs.declared.fault.InputFault.{InputFault}
use Rattle.run_input.specs.declared.fault.InputFault.TheVariants.{Memory, Unread, Refused}
use Rattle.run_input.specs.declared.fault.TextFault.TheVariants.{Job, Schedule, Matrix}
use Rattle.run_input.specs.declared.name.FileName.TheVariants.{Word, InJob}

-- where the text of this name is no job
abbrev pub job_fault_at : Bor (List ℕ) → JobFault → InputFault
job_fault_at name job.NoMem = Memory
job_fault_at name job.NotToml = Refused (Word name) (Job job.NotToml)
job_fault_at name (job.Missing key) = Refused (Word name) (Job (job.Missing key))
job_fault_at name (job.WrongKind key) = Refused (Word name) (Job (job.WrongKind key))
job_fault_at name (job.UnknownKey key) = Refused (Word name) (Job (job.UnknownKey key))
job_fault_at name (job.UnknownName other) = Refused (Word name) (Job (job.UnknownName other))
job_fault_at name (job.Limit key) = Refused (Word name) (Job (job.Limit key))
job_fault_at name (job.BadMap map) = Refused (Word name) (Job (job.BadMap map))
job_fault_at name (job.MapMismatch statement) = Refused (Word name) (Job (job.MapMismatch statement))
job_fault_at name (job.NotCovered statement) = Refused (Word name) (Job (job.NotCovered statement))
job_fault_at name (job.WrongSort statement) = Refused (Word name) (Job (job.WrongSort statement))
job_fault_at name (job.NameTaken other) = Refused (Word name) (Job (job.NameTaken other))

-- where the text of this name is no schedule
abbrev pub schedule_fault_at : Bor (List ℕ) → ScheduleFault → InputFault
schedule_fault_at name schedule.NoMem = Memory
schedule_fault_at name (schedule.BadLine line) = Refused (Word name) (Schedule (schedule.BadLine line))
schedule_fault_at name schedule.TooLong = Refused (Word name) (Schedule schedule.TooLong)

-- where a file of the job is not read
abbrev pub files_fault_at : FilesFault → InputFault
files_fault_at files.Memory = Memory
files_fault_at (files.Unread name) = Unread (InJob name.now)
files_fault_at (files.Refused name fault) = Refused (InJob name.now) (Matrix fault)

-- the name that a fault names, if it names one, is one of these
abbrev pub NamesOneOf : List (List ℕ) → FilesFault → Type 0
NamesOneOf names files.Memory = Unit {0}
NamesOneOf names (files.Unread name) = IsAmong names name.now
NamesOneOf names (files.Refused name fault) = IsAmong names name.now
