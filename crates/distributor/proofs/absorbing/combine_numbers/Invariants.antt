use Rattle.std.proofs.Common.{◌≡◌, take, drop, map, ◌*◌}
use Rattle.std.specs.List.{zip}
use Rattle.tables.specs.Indices.{count_from}
use Rattle.distributor.specs.Entries.{with_cells, placed}
use Rattle.distributor.specs.Arrivals.{numbers_in}
use Rattle.distributor.proofs.absorbing.combine_numbers.Given as goal

abbrev pub invariant-loop-col : goal.invariant-loop-col
invariant-loop-col g l = record {
  so_far : g.B.DistTarget.table l.target ≡ with_cells g.S.Scalar.semiring l.mode g.B.DistTarget.FIXED (g.B.DistTarget.table l.fn.target)
      (take l.col (map (placed l.to) (zip (count_from 0 l.width) (take l.width (drop (l.at * l.width) (numbers_in g.S.Scalar.conversions l.letter.numbers.now))))));
  takes : g.B.DistTarget.takes l.target ≡ g.B.DistTarget.takes l.fn.target;
  shape : g.B.DistTarget.same_shape l.fn.target l.target;
}
