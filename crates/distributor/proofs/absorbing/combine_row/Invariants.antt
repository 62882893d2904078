use Rattle.std.proofs.Common.{◌≡◌, take, drop, map}
use Rattle.std.specs.List.{zip}
use Rattle.letter_codec.specs.Parts.{words_of}
use Rattle.distributor.specs.Entries.{with_cells, placed}
use Rattle.distributor.specs.Arrivals.{numbers_in}
use Rattle.distributor.proofs.absorbing.combine_row.Given as goal

abbrev pub invariant-loop-k : goal.invariant-loop-k
invariant-loop-k g l = record {
  so_far : g.B.DistTarget.table l.target ≡ with_cells g.S.Scalar.semiring l.mode g.B.DistTarget.FIXED (g.B.DistTarget.table l.fn.target)
      (take l.k (map (placed l.to) (zip (take l.count (drop l.first (words_of l.letter.words.now))) (take l.count (drop l.numbers (numbers_in g.S.Scalar.conversions l.letter.numbers.now))))));
  takes : g.B.DistTarget.takes l.target ≡ g.B.DistTarget.takes l.fn.target;
  shape : g.B.DistTarget.same_shape l.fn.target l.target;
}
