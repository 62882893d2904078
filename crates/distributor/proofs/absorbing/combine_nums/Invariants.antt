use Rattle.std.proofs.Common.{◌≡◌, take}
use Rattle.letter_codec.specs.Parts.{words_of}
use Rattle.distributor.specs.Entries.{with_cells, numbered}
use Rattle.distributor.specs.Transfers.{moved_cells}
use Rattle.distributor.specs.Arrivals.{numbers_in, arrived_moves}
use Rattle.distributor.proofs.absorbing.combine_nums.Given as goal

abbrev pub invariant-loop-at : goal.invariant-loop-at
invariant-loop-at g l = record {
  so_far : g.B.DistTarget.table l.target ≡ with_cells g.S.Scalar.semiring l.mode g.B.DistTarget.FIXED (g.B.DistTarget.table l.fn.target)
      (moved_cells (numbered l.width (words_of l.letter.words.now) (numbers_in g.S.Scalar.conversions l.letter.numbers.now)) (take l.at (arrived_moves l.positions)));
  takes : g.B.DistTarget.takes l.target ≡ g.B.DistTarget.takes l.fn.target;
  shape : g.B.DistTarget.same_shape l.fn.target l.target;
}
