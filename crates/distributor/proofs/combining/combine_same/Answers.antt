use Rattle.std.proofs.Common.{◌∙◌, ◌≤◌, arith, length}
use Rattle.std.specs.List.{list_all}
use Rattle.std.specs.Prelude.{nat_lt}
use Rattle.distributor.specs.Entries.{entry_at, cells_for}
use Rattle.distributor.specs.Transfers.{same_moves}
use Rattle.distributor.proofs.Combined.{beside, on_err, list_all-slice_get, slice_get-same_moves, length-same_moves, entry-taken, moves-more, moves-part, moves-all}
use borrow.Author.Tests.{ltb-true}
use Rattle.distributor.proofs.combining.combine_same.Goals as goal

pub combine_entry-requires-clause-known : goal.combine_entry-requires-clause-known
combine_entry-requires-clause-known g c =
    ltb-true _ _ (list_all-slice_get (λ m. nat_lt m.0 (length (g.A.DistSource.entries c.args.source.now))) (same_moves c.args.same) c.loop-lid.lid (beside c.loop-lid.lid) c.requires.known (slice_get-same_moves c.args.same c.loop-lid.lid c.loop-lid-test.true))

pub combine_entry-requires-clause-taken : goal.combine_entry-requires-clause-taken
combine_entry-requires-clause-taken g c =
    (λ t. list_all (λ cell. c.loop-lid.invariant.takes t cell.row cell.col) (cells_for c.loop-lid.lid (entry_at (g.A.DistSource.entries c.args.source.now) c.loop-lid.lid)))
    ∙ entry-taken (g.B.DistTarget.takes c.args.target.now) (g.A.DistSource.entries c.args.source.now) (same_moves c.args.same) c.loop-lid.lid (beside c.loop-lid.lid) (slice_get-same_moves c.args.same c.loop-lid.lid c.loop-lid-test.true) c.requires.taken

pub returns-in_err-combine_entry-clause-part : goal.returns-in_err-combine_entry-clause-part
returns-in_err-combine_entry-clause-part g c =
    on_err _ (moves-part g.S.Scalar.semiring c.args.mode g.B.DistTarget.FIXED (g.B.DistTarget.table c.args.target.now) (g.A.DistSource.entries c.args.source.now) (same_moves c.args.same) c.loop-lid.lid (beside c.loop-lid.lid) (g.B.DistTarget.table c.loop-lid.target) _ (slice_get-same_moves c.args.same c.loop-lid.lid c.loop-lid-test.true) c.loop-lid.invariant.so_far c.in_err-combine_entry.ensures.part)

pub loop-lid-preserved : goal.loop-lid-preserved
loop-lid-preserved g c =
    record {
      so_far = moves-more g.S.Scalar.semiring c.args.mode g.B.DistTarget.FIXED (g.B.DistTarget.table c.args.target.now) (g.A.DistSource.entries c.args.source.now) (same_moves c.args.same) c.loop-lid.lid (beside c.loop-lid.lid) (g.B.DistTarget.table c.loop-lid.target) _ (slice_get-same_moves c.args.same c.loop-lid.lid c.loop-lid-test.true) c.loop-lid.invariant.so_far c.in_ok-combine_entry.ensures.cells;
      takes = c.combine_entry.ensures.takes ∙ c.loop-lid.invariant.takes;
      shape = g.met.B.DistTarget.shape_trans _ _ _ c.loop-lid.invariant.shape c.combine_entry.ensures.shape;
    }

pub returns-clause-cells : goal.returns-clause-cells
returns-clause-cells g c =
    let size = length-same_moves c.args.same in
    let ends : length (same_moves c.args.same) ≤ c.loop-lid.lid = omega (arith, size) in
    moves-all g.S.Scalar.semiring c.args.mode g.B.DistTarget.FIXED (g.B.DistTarget.table c.args.target.now) (g.A.DistSource.entries c.args.source.now) (same_moves c.args.same) c.loop-lid.lid _ ends c.loop-lid.invariant.so_far
