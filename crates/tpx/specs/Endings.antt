-- How a command ends, by its words, a source of texts and the letters that were given, where memory suffices and nothing
-- of the outside fails.
use Rattle.std.specs.Global.{Global}
use Rattle.std.specs.Prelude.{◌≡◌, ◌⊎◌, ℕ, Bool, List, [], ◌∷◌, ◌++◌, Option, None, Some, Result, Ok, Err, String, length, map, string_bytes, if◌then◌else◌}
use Rattle.outside.specs.declared.name.Name.{Name}
use Rattle.outside.specs.Reads.{Source}
use Rattle.peers.specs.Protocols.{Letter}
use Rattle.schedule.specs.declared.chooser.Chooser.TheVariants as chooser
use Rattle.schedule.specs.Orders as orders
use Rattle.scalar_laws.specs.declared.weighed.Weighed.{Weighed}
use Rattle.scalar_laws.specs.Weighed.{weighed_semiring, weighed_conversions}
use Rattle.tables.specs.Tables.{cells_of}
use Rattle.mm_text.specs.declared.file_data.Form.TheVariants.{Coordinate}
use Rattle.mm_text.specs.declared.profile.Profile.{Profile}
use Rattle.mm_text.specs.declared.shown.Shown.{Shown}
use Rattle.mm_text.specs.Limits.{profile_of}
use Rattle.mm_text.specs.Outcomes.{Outcome}
use Rattle.mm_text.specs.Reading.{File, reading}
use Rattle.model_defs.specs.FileMatrix.{file_matrix}
use Rattle.model_defs.specs.Pieces.{Value}
use Rattle.model_defs.specs.Sheets.{is_any_over, printed_text, sheets_of}
use Rattle.model_defs.specs.ShowText.{shown_cell, show_text, is_file_over}
use Rattle.model_defs.specs.Traffic.{letter_lines, traffic_text}
use Rattle.model_defs.specs.Turns.{Each}
use Rattle.run_input.specs.declared.fault.TextFault.{TextFault}
use Rattle.run_input.specs.declared.fault.TextFault.TheVariants.{Matrix}
use Rattle.generated_job.specs.Generated.{generated_files, generated_job}
use Rattle.run_output.specs.declared.summary.Summary.{Summary}
use Rattle.run_output.specs.Summaries.{summary_of, summary_text}
use Rattle.run_input.specs.Orders.{by_rule}
use Rattle.run_input.specs.Walk.{Input, Stop, input_of, reads_for}
use Rattle.run_input.specs.Walk as walk
use Rattle.tpx.specs.Runs.{end_of, gathered, on_global_data}
use Rattle.tpx.specs.Words.{Command, show, run, gen, command}

-- the most entries of a file that is shown, and the most rows
abbrev pub most_entries : ℕ
most_entries = 8388608

abbrev pub most_rows : ℕ
most_rows = 16777216

-- it is a coordinate file within these limits
abbrev pub shown_profile : Profile
shown_profile = profile_of Coordinate most_entries most_rows

pub data Ending : Type 0 where
  -- the words are no command
  no_command : Ending
  -- no file has this name
  no_file : List ℕ → Ending
  -- the text of the file of this name has this fault first
  refused : List ℕ → TextFault → Ending
  -- the schedule ended while these letters were in flight, sorted by name
  undelivered : List Name → Ending
  -- at some place the magnitudes added exceed 2^127 - 1
  overflow : Ending
  -- this line of the schedule is the first that names a letter neither in flight nor delivered before
  wrong_line : ℕ → Name → Ending
  -- this text is written
  writes : List ℕ → Ending

-- the cells of the matrix of a file as they are printed
abbrev pub shown_of : File → List Shown
shown_of file =
    let matrix = file_matrix weighed_semiring weighed_conversions file.mirror file.lines in
    map (shown_cell weighed_conversions) (cells_of file.rows file.cols matrix)

-- the coordinate text of the matrix of a file, and whether a place's weight is too great for it
abbrev pub text_of : File → List ℕ
text_of file = show_text weighed_semiring weighed_conversions file

abbrev pub is_over : File → Bool
is_over file = is_file_over weighed_semiring weighed_conversions file

-- showing a file, or refusing its text
abbrev pub file_ending : List ℕ → Outcome File → Ending
file_ending name (Ok file) = if is_over file then overflow else writes (text_of file)
file_ending name (Err fault) = refused name (Matrix fault)

-- showing the file of this name, if there is one
abbrev pub show_ending : List ℕ → Option (List ℕ) → Ending
show_ending name None = no_file name
show_ending name (Some text) = file_ending name (reading shown_profile text)

-- the listing, where it was asked for
abbrev pub listing_if : Bool → Input → List ℕ
listing_if traffic input = if traffic then traffic_text input.job input.files else []

-- what a job writes whose values are these
abbrev pub result_text : Bool → Input → Each (Value Weighed) → List ℕ
result_text traffic input values = printed_text weighed_conversions input.job values ++ listing_if traffic input

-- where all letters were delivered and the values are these, of which no cell may be over
abbrev pub complete_ending : Bool → Input → Each (Value Weighed) → Ending
complete_ending traffic input values =
    if is_any_over weighed_conversions input.job values then overflow else writes (result_text traffic input values)

-- where the order of deliveries ends like this
abbrev pub ordered_ending : orders.Ending → Bool → Input → Each (Value Weighed) → Ending
ordered_ending orders.Complete traffic input values = complete_ending traffic input values
ordered_ending (orders.Left names) traffic input values = undelivered names
ordered_ending (orders.Wrong line name) traffic input values = wrong_line line name

-- running a job, or refusing what it is given; `values` are those of the job
abbrev pub run_ending : Bool → (Input → Each (Value Weighed)) → Result Input Stop → Ending
run_ending traffic values (Ok input) = ordered_ending (end_of input) traffic input (values input)
run_ending traffic values (Err (walk.no_file name)) = no_file name
run_ending traffic values (Err (walk.refused name fault)) = refused name fault

-- what the ranks of `gen` are given: the job of this size and its files, in fifo order
abbrev pub generated_input : ℕ → Input
generated_input n = record { job = generated_job n; files = generated_files n; order = by_rule chooser.Fifo }

-- the summary of its printed values, where they are these, and of its letters; none where a sum is over
abbrev pub generated_summary : ℕ → Each (Value Weighed) → Option Summary
generated_summary n values =
    summary_of n (sheets_of weighed_conversions (generated_job n) values) (length (letter_lines (generated_job n) (generated_files n)))

abbrev pub summary_ending : Option Summary → Ending
summary_ending None = overflow
summary_ending (Some summary) = writes (summary_text summary)

-- no cell may be over, and neither sum
abbrev pub generated_ending : ℕ → Each (Value Weighed) → Ending
generated_ending n values =
    if is_any_over weighed_conversions (generated_job n) values then overflow else summary_ending (generated_summary n values)

-- how a command ends over a source
abbrev pub ending_with : (Input → Each (Value Weighed)) → Option Command → Source → Ending
ending_with values None source = no_command
ending_with values (Some (show ranks name)) source = show_ending name (source name)
ending_with values (Some (run c)) source = run_ending c.traffic values (input_of source c.job c.order)
ending_with values (Some (gen n)) source = generated_ending n (values (generated_input n))

-- where the ranks were given these letters
abbrev pub ending : Option Command → Source → List Letter → Ending
ending c source letters = ending_with (λ input. gathered input letters) c source

-- by what the operations give on the global data
abbrev pub global_ending : Option Command → Source → Ending
global_ending c source = ending_with on_global_data c source

-- the names that it reads, in their order
abbrev pub reads : Option Command → Source → List (List ℕ)
reads None source = []
reads (Some (show ranks name)) source = name ∷ []
reads (Some (run c)) source = reads_for source c.job c.order
reads (Some (gen n)) source = []

-- what the ranks are given, where they are played and nothing is refused
abbrev pub input_if : Result Input Stop → Option Input
input_if (Ok input) = Some input
input_if (Err stop) = None

abbrev pub run_input : Option Command → Source → Option Input
run_input (Some (run c)) source = input_if (input_of source c.job c.order)
run_input (Some (gen n)) source = Some (generated_input n)
run_input (Some (show ranks name)) source = None
run_input None source = None

-- the command of the words of a command line
abbrev pub command_of : List (String Global) → Option Command
command_of words = command (map string_bytes words)

-- the names that it reads
abbrev pub reads_of : List (String Global) → Source → List (List ℕ)
reads_of words source = reads (command_of words) source

-- The statuses that may come with an ending: its own, and where there is a command also 1, for want of memory, and 3,
-- for a read that failed; with a text also 4, for a write that failed; where a run may have begun also 9, for a wire that
-- failed. The words of `run` may want memory before it is known whether they are a command.
abbrev pub EndsWith : Ending → ℕ → Type 0
EndsWith no_command status = (status ≡ 2) ⊎ (status ≡ 1)
EndsWith (no_file name) status = (status ≡ 3) ⊎ (status ≡ 1)
EndsWith (refused name fault) status = (status ≡ 5) ⊎ (status ≡ 3) ⊎ (status ≡ 1)
EndsWith (undelivered names) status = (status ≡ 6) ⊎ (status ≡ 9) ⊎ (status ≡ 3) ⊎ (status ≡ 1)
EndsWith overflow status = (status ≡ 7) ⊎ (status ≡ 9) ⊎ (status ≡ 3) ⊎ (status ≡ 1)
EndsWith (wrong_line line name) status = (status ≡ 8) ⊎ (status ≡ 9) ⊎ (status ≡ 3) ⊎ (status ≡ 1)
EndsWith (writes text) status = (status ≡ 0) ⊎ (status ≡ 4) ⊎ (status ≡ 9) ⊎ (status ≡ 3) ⊎ (status ≡ 1)
