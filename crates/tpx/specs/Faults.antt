-- The status and the message of a command that ends without its result.
use Rattle.std.specs.Prelude.{ℕ, List, Result, Ok, Err}
use Rattle.run_input.specs.Reading.{name_text}
use Rattle.tpx.specs.declared.fault.Fault.{Fault}
use Rattle.tpx.specs.declared.fault.Fault.TheVariants.{Memory, NoCommand, Unread, Unwritten, Refused, Undelivered, Overflow, WrongLine, WireFailed}
use Rattle.tpx.specs.Messages.{memory_message, usage_message, unread_message, unwritten_message, refused_message, undelivered_message, overflow_message, wrong_line_message, wire_message}

abbrev pub status_of : Fault → ℕ
status_of Memory = 1
status_of NoCommand = 2
status_of (Unread file) = 3
status_of Unwritten = 4
status_of (Refused file fault) = 5
status_of (Undelivered names) = 6
status_of Overflow = 7
status_of (WrongLine line name) = 8
status_of WireFailed = 9

-- the status of a command, which is 0 where it ends with its result
abbrev pub result_status : {T : Type 0} → Result T Fault → ℕ
result_status (Ok x) = 0
result_status (Err fault) = status_of fault

abbrev pub message_of : Fault → List ℕ
message_of Memory = memory_message
message_of NoCommand = usage_message
message_of (Unread file) = unread_message (name_text file)
message_of Unwritten = unwritten_message
message_of (Refused file fault) = refused_message (name_text file) fault
message_of (Undelivered names) = undelivered_message names.items
message_of Overflow = overflow_message
message_of (WrongLine line name) = wrong_line_message line name
message_of WireFailed = wire_message
