use Rattle.std.proofs.Common.{◌≡◌, ◌+◌, ◌≤◌, true, length}
use Rattle.text_lines.specs.Lines.{kept_from, lines_of}
use Rattle.schedule.specs.Texts.{entries_of, mark}
use Rattle.schedule.proofs.Texts.{behind}
use Rattle.schedule.proofs.text.read_lines.Given as goal

-- what is found, with what is left, is what the whole has
abbrev pub invariant-loop-kept : goal.invariant-loop-kept
invariant-loop-kept l = record {
  left : behind l.entries.items (entries_of (kept_from mark l.first (lines_of true l.rest)))
      ≡ entries_of (kept_from mark 1 (lines_of true l.fn.bytes));
  numbers : l.first + length l.rest ≤ 1 + length l.fn.bytes;
}

abbrev pub decreases-loop-kept : goal.decreases-loop-kept
decreases-loop-kept l = length l.rest
