-- What is answered of a walk over a source of texts.
use Rattle.std.specs.Prelude.{◌≡◌, ℕ, List, Result, Ok, Err, Vec, map}
use Rattle.std.specs.Global.{Global}
use Rattle.std.specs.List.{IsAmong}
use Rattle.outside.specs.Reads.{Source}
use Rattle.mm_text.specs.declared.file_data.FileData.{FileData}
use Rattle.mm_text.specs.Reading.{File, file_of}
use Rattle.run_words.specs.Given.{DeliveryOrder}
use Rattle.run_input.specs.declared.fault.InputFault.{InputFault}
use Rattle.run_input.specs.declared.fault.InputFault.TheVariants.{Memory, Unread, Refused}
use Rattle.run_input.specs.declared.given.Given.{Given}
use Rattle.run_input.specs.Orders.{order_given}
use Rattle.run_input.specs.Reading.{name_text}
use Rattle.run_input.specs.Walk.{Input, Stop, input_of, reads_for, refused}

-- How a walk that reads these names stops: at its first refusal. A name that could not be read is one of those that are read.
abbrev pub Stops : {B : Type 0} → List (List ℕ) → Result B Stop → InputFault → Type 0
Stops names walk Memory = Unit {0}
Stops names walk (Unread name) = IsAmong names (name_text name)
Stops names walk (Refused name fault) = walk ≡ Err (refused (name_text name) fault)

-- what is answered where a walk that reads these names comes out like this: what it gives, seen by `view`, or where it stops
abbrev pub Answers : {A B : Type 0} → (A → B) → List (List ℕ) → Result B Stop → Result A InputFault → Type 0
Answers view names walk (Ok x) = walk ≡ Ok (view x)
Answers view names walk (Err fault) = Stops names walk fault

-- files that were read
abbrev pub found_files : Vec FileData Global → List File
found_files found = map file_of found.items

-- what the code has, as the walk gives it
abbrev pub input_view : Given → Input
input_view given = record {
  job = given.job.value;
  files = found_files given.files;
  order = order_given given.order;
}

-- what is answered for the job of this name and the order that the words ask for
abbrev pub GivesInput : Source → List ℕ → DeliveryOrder → Result Given InputFault → Type 0
GivesInput source name asked answer = Answers input_view (reads_for source name asked) (input_of source name asked) answer
