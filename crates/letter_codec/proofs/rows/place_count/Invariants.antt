use Rattle.std.proofs.Common.{◌≡◌, ◌≤◌, Some, drop}
use Rattle.letter_codec.specs.declared.rows.Awaited.TheVariants.{Row}
use Rattle.letter_codec.specs.Parts.{words_of}
use Rattle.letter_codec.specs.RowWalk.{walk}
use Rattle.letter_codec.proofs.rows.place_count.Given as goal

abbrev pub invariant-loop-at : goal.invariant-loop-at
invariant-loop-at l = record {
  few : l.places ≤ l.at;
  walked : walk (Some l.awaited) l.places (drop l.at (words_of l.words)) ≡ walk (Some Row) 0 (words_of l.words);
}
