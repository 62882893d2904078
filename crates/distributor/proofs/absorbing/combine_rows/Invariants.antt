use Rattle.std.proofs.Common.{◌≡◌, ◌+◌, List, take, drop}
use Rattle.std.specs.List.{flat_map}
use Rattle.letter_codec.specs.Letters.{RowEntry, AreRows, entry_words, place_count}
use Rattle.letter_codec.specs.Parts.{words_of}
use Rattle.distributor.specs.Entries.{with_cells}
use Rattle.distributor.specs.Transfers.{moved_cells}
use Rattle.distributor.specs.Arrivals.{numbers_in, with_numbers, arrived_moves}
use Rattle.distributor.proofs.absorbing.combine_rows.Given as goal

abbrev pub invariant-loop-at : goal.invariant-loop-at
invariant-loop-at g l = record {
  words : (rows : List RowEntry) → AreRows (words_of l.letter.words.now) rows → drop l.words_done (words_of l.letter.words.now) ≡ flat_map entry_words (drop l.at rows);
  entries : (rows : List RowEntry) → AreRows (words_of l.letter.words.now) rows
      → drop l.at (with_numbers rows (numbers_in g.S.Scalar.conversions l.letter.numbers.now)) ≡ with_numbers (drop l.at rows) (drop l.numbers_done (numbers_in g.S.Scalar.conversions l.letter.numbers.now));
  count : (rows : List RowEntry) → AreRows (words_of l.letter.words.now) rows → l.numbers_done + place_count (drop l.at rows) ≡ place_count rows;
  so_far : (rows : List RowEntry) → AreRows (words_of l.letter.words.now) rows
      → g.B.DistTarget.table l.target ≡ with_cells g.S.Scalar.semiring l.mode g.B.DistTarget.FIXED (g.B.DistTarget.table l.fn.target)
      (moved_cells (with_numbers rows (numbers_in g.S.Scalar.conversions l.letter.numbers.now)) (take l.at (arrived_moves l.positions)));
  takes : g.B.DistTarget.takes l.target ≡ g.B.DistTarget.takes l.fn.target;
  shape : g.B.DistTarget.same_shape l.fn.target l.target;
}
