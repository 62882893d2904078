use Rattle.std.proofs.Common.{◌≡◌, ◌+◌, ◌≤◌, length, vec_len}
use Rattle.mm_text.specs.Lines.{kept_from, lines_of}
use Rattle.mm_text.specs.Reading.{entries_in}
use Rattle.mm_text.proofs.TextLemmas.{entries_left}
use Rattle.mm_text.proofs.reading.text.read_entries.Given as goal

-- what is found, with what is left, is what the whole has
abbrev pub invariant-loop-at : goal.invariant-loop-at
invariant-loop-at l = record {
  found : vec_len l.lines ≡ l.at;
  left : entries_left l.whole l.banner l.sizes l.at l.lines.items (kept_from l.first (lines_of l.whole l.rest))
      ≡ entries_in l.whole l.banner l.sizes (kept_from l.number (lines_of l.whole l.fn.bytes));
  numbers : l.first + length l.rest ≤ l.number + length l.fn.bytes;
}
