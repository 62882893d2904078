-- The messages on standard error: one line for each status but 0, and with 6 a line for each letter.
use Rattle.std.specs.Prelude.{ℕ, List, [], ◌∷◌, ◌++◌, codes, decimal, length}
use Rattle.std.specs.Borrow.{Bor}
use Rattle.std.specs.List.{flat_map}
use Rattle.outside.specs.declared.name.Name.{Name}
use Rattle.run_input.specs.declared.fault.TextFault.{TextFault}
use Rattle.tpx.specs.Refusals.{fault_text}

-- texts, one after the other
abbrev pub joined : List (Bor (List ℕ)) → List ℕ
joined pieces = flat_map (λ piece. piece.now) pieces

-- a message: one line
abbrev pub message_line : List ℕ → List ℕ
message_line text = codes "tpx: " ++ text ++ 10 ∷ []

-- the message that a file has this fault
abbrev pub refusal_line : List ℕ → List ℕ → List ℕ
refusal_line file fault = message_line (file ++ codes ": " ++ fault)

-- the message that a file has a fault of this name, with what is said behind it
abbrev pub fault_line : List ℕ → List ℕ → List ℕ → List ℕ → List ℕ
fault_line file name space number = message_line (file ++ codes ": " ++ (name ++ (space ++ number)))

abbrev pub memory_message : List ℕ
memory_message = message_line (codes "out of memory")

abbrev pub usage_message : List ℕ
usage_message = message_line (codes "usage: tpx show RANKS FILE; tpx run JOB [--schedule FILE] [--order fifo, lifo or seed] [--seed N] [--traffic]; tpx gen N")

abbrev pub unread_message : List ℕ → List ℕ
unread_message file = message_line (codes "cannot read " ++ file)

abbrev pub unwritten_message : List ℕ
unwritten_message = message_line (codes "cannot write")

abbrev pub refused_message : List ℕ → TextFault → List ℕ
refused_message file fault = refusal_line file (fault_text fault)

abbrev pub overflow_message : List ℕ
overflow_message = message_line (codes "overflow")

-- a letter as messages name it: PHASE FROM TO
abbrev pub letter_text : Name → List ℕ
letter_text name = decimal name.phase ++ 32 ∷ (decimal name.from ++ 32 ∷ decimal name.to)

abbrev pub letter_line : Name → List ℕ
letter_line name = letter_text name ++ 10 ∷ []

abbrev pub undelivered_line : List ℕ → List ℕ
undelivered_line count = message_line (codes "undelivered " ++ count)

-- how many letters are undelivered, and a line for each
abbrev pub undelivered_message : List Name → List ℕ
undelivered_message names = undelivered_line (decimal (length names)) ++ flat_map letter_line names

-- what stands before the letter that a line names
abbrev pub line_front : List ℕ → List ℕ
line_front line = codes "tpx: line " ++ line ++ codes ": "

-- and what stands behind it
abbrev pub line_back : List ℕ
line_back = codes " is not in flight" ++ 10 ∷ []

abbrev pub wrong_line_message : ℕ → Name → List ℕ
wrong_line_message line name = line_front (decimal line) ++ (letter_text name ++ line_back)

abbrev pub wire_message : List ℕ
wire_message = message_line (codes "wire failed")
