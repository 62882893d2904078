-- The faults of texts, as messages name them.
use Rattle.std.specs.Prelude.{ℕ, List, [], ◌∷◌, ◌++◌, Option, None, Some, codes, decimal}
use Rattle.mm_text.specs.declared.fault.MmFault.{MmFault}
use Rattle.mm_text.specs.declared.fault.MmFault.TheVariants.{ReadFault, NoBanner, BadBanner, UnsupportedField, UnsupportedSymmetry, WrongForm, BadSize, BadLine, OutOfRange, NotSquare, SkewDiagonal, TooFew, Extra, NumberTooWide, TooManyEntries, TooLong, NoMem}
use Rattle.job_text.specs.declared.fault.JobFault.{JobFault}
use Rattle.job_text.specs.declared.fault.JobFault.TheVariants as job
use Rattle.schedule.specs.declared.fault.ScheduleFault.{ScheduleFault}
use Rattle.schedule.specs.declared.fault.ScheduleFault.TheVariants as schedule
use Rattle.run_input.specs.declared.fault.TextFault.{TextFault}
use Rattle.run_input.specs.declared.fault.TextFault.TheVariants.{Job, Schedule, Matrix, SizeMismatch}

-- the name of a fault of a matrix file
abbrev pub fault_name : MmFault → List ℕ
fault_name ReadFault = codes "ReadFault"
fault_name NoBanner = codes "NoBanner"
fault_name BadBanner = codes "BadBanner"
fault_name UnsupportedField = codes "UnsupportedField"
fault_name UnsupportedSymmetry = codes "UnsupportedSymmetry"
fault_name WrongForm = codes "WrongForm"
fault_name BadSize = codes "BadSize"
fault_name (BadLine line) = codes "BadLine"
fault_name (OutOfRange line) = codes "OutOfRange"
fault_name NotSquare = codes "NotSquare"
fault_name (SkewDiagonal line) = codes "SkewDiagonal"
fault_name (TooFew have) = codes "TooFew"
fault_name (Extra line) = codes "Extra"
fault_name (NumberTooWide line) = codes "NumberTooWide"
fault_name TooManyEntries = codes "TooManyEntries"
fault_name TooLong = codes "TooLong"
fault_name NoMem = codes "NoMem"

-- the number that a fault names, if it names one: a line, or how many entries there are
abbrev pub fault_number : MmFault → Option ℕ
fault_number (BadLine line) = Some line
fault_number (OutOfRange line) = Some line
fault_number (SkewDiagonal line) = Some line
fault_number (TooFew have) = Some have
fault_number (Extra line) = Some line
fault_number (NumberTooWide line) = Some line
fault_number ReadFault = None
fault_number NoBanner = None
fault_number BadBanner = None
fault_number UnsupportedField = None
fault_number UnsupportedSymmetry = None
fault_number WrongForm = None
fault_number BadSize = None
fault_number NotSquare = None
fault_number TooManyEntries = None
fault_number TooLong = None
fault_number NoMem = None

abbrev pub after_space : Option ℕ → List ℕ
after_space None = []
after_space (Some n) = 32 ∷ decimal n

-- a name, and after a space what it names: a number, or a key or a name
abbrev pub numbered : List ℕ → ℕ → List ℕ
numbered name n = name ++ 32 ∷ decimal n

abbrev pub naming : List ℕ → List ℕ → List ℕ
naming name text = name ++ 32 ∷ text

abbrev pub matrix_fault_text : MmFault → List ℕ
matrix_fault_text fault = fault_name fault ++ after_space (fault_number fault)

abbrev pub job_fault_text : JobFault → List ℕ
job_fault_text job.NotToml = codes "NotToml"
job_fault_text (job.Missing key) = naming (codes "Missing") key
job_fault_text (job.WrongKind key) = naming (codes "WrongKind") key
job_fault_text (job.UnknownKey key) = naming (codes "UnknownKey") key
job_fault_text (job.UnknownName name) = naming (codes "UnknownName") name
job_fault_text (job.Limit key) = naming (codes "Limit") key
job_fault_text (job.BadMap name) = naming (codes "BadMap") name
job_fault_text (job.MapMismatch statement) = numbered (codes "MapMismatch") statement
job_fault_text (job.NotCovered statement) = numbered (codes "NotCovered") statement
job_fault_text (job.WrongSort statement) = numbered (codes "WrongSort") statement
job_fault_text job.NoMem = codes "NoMem"
job_fault_text (job.NameTaken name) = naming (codes "NameTaken") name

abbrev pub schedule_fault_text : ScheduleFault → List ℕ
schedule_fault_text (schedule.BadLine line) = numbered (codes "BadLine") line
schedule_fault_text schedule.NoMem = codes "NoMem"
schedule_fault_text schedule.TooLong = codes "TooLong"

-- a fault as a message names it: its name, and after a space what it names
abbrev pub fault_text : TextFault → List ℕ
fault_text (Job fault) = job_fault_text fault
fault_text (Schedule fault) = schedule_fault_text fault
fault_text (Matrix fault) = matrix_fault_text fault
fault_text (SizeMismatch value) = naming (codes "SizeMismatch") value
