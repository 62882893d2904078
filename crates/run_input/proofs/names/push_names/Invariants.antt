use Rattle.std.proofs.Common.{◌≡◌, ◌++◌, take}
use Rattle.run_input.proofs.names.push_names.Given as goal

abbrev pub invariant-loop-file : goal.invariant-loop-file
invariant-loop-file l = l.names.items ≡ l.initial.names.items ++ take l.file-index l.file-items
