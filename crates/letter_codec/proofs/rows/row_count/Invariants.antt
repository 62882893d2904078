use Rattle.std.proofs.Common.{◌≡◌, ◌+◌, ◌-◌, ◌≤◌, ◌/◌, List, drop, length}
use Rattle.std.specs.List.{flat_map}
use Rattle.letter_codec.specs.Letters.{RowEntry, AreRows, entry_words}
use Rattle.letter_codec.specs.Parts.{words_of}
use Rattle.letter_codec.proofs.rows.row_count.Given as goal

abbrev pub decreases-loop-at : goal.decreases-loop-at
decreases-loop-at l = length l.words / 8 - l.at

abbrev pub invariant-loop-at : goal.invariant-loop-at
invariant-loop-at l = record {
  few : l.rows ≤ l.at;
  rest : (entries : List RowEntry) → AreRows (words_of l.words) entries
      → (left : List RowEntry) × (drop l.at (words_of l.words) ≡ flat_map entry_words left) × (l.rows + length left ≡ length entries);
}
