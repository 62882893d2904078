use Rattle.std.proofs.Common.{◌≡◌, ◌++◌, drop}
use Rattle.schedule.specs.Registers.{picked}
use Rattle.schedule.proofs.flow.marked.Given as goal

-- the names so far, with those of the rest, are all
abbrev pub invariant-loop-number : goal.invariant-loop-number
invariant-loop-number l = l.found.items ++ picked (drop l.number l.names) (drop l.number l.marks) ≡ picked l.names l.marks
