use Rattle.std.proofs.Common.{◌∙◌, ◌≤◌, arith, length, ◌<◌, get_or}
use Rattle.std.specs.List.{list_all, zip}
use Rattle.std.specs.Prelude.{nat_lt}
use Rattle.std.proofs.lemmas.Option.{slice_get-get_or}
use Rattle.std.proofs.lemmas.Slice.Zip.{length-zip}
use Rattle.distributor.specs.Entries.{entry_at, cells_for}
use Rattle.distributor.proofs.Combined.{on_err, list_all-slice_get, slice_get-zip, entry-taken, moves-more, moves-part, moves-all}
use borrow.Author.Tests.{ltb-true}
use Rattle.distributor.proofs.combining.combine_permuted.Goals as goal

pub combine_entry-requires-clause-known : goal.combine_entry-requires-clause-known
combine_entry-requires-clause-known g c =
    let within : c.loop-i.i < length c.args.tos.now = omega (arith, c.requires.pairs) in
    ltb-true _ _ (list_all-slice_get (λ m. nat_lt m.0 (length (g.A.DistSource.entries c.args.source.now))) (zip c.args.froms.now c.args.tos.now) c.loop-i.i (get_or c.args.froms.now c.loop-i.i 0, get_or c.args.tos.now c.loop-i.i 0) c.requires.known
    (slice_get-zip c.args.froms.now c.args.tos.now c.loop-i.i _ _ (slice_get-get_or c.args.froms.now c.loop-i.i 0 c.loop-i-test.true) (slice_get-get_or c.args.tos.now c.loop-i.i 0 within)))

pub combine_entry-requires-clause-taken : goal.combine_entry-requires-clause-taken
combine_entry-requires-clause-taken g c =
    let within : c.loop-i.i < length c.args.tos.now = omega (arith, c.requires.pairs) in
    (λ t. list_all (λ cell. c.loop-i.invariant.takes t cell.row cell.col) (cells_for (get_or c.args.tos.now c.loop-i.i 0) (entry_at (g.A.DistSource.entries c.args.source.now) (get_or c.args.froms.now c.loop-i.i 0))))
    ∙ entry-taken (g.B.DistTarget.takes c.args.target.now) (g.A.DistSource.entries c.args.source.now) (zip c.args.froms.now c.args.tos.now) c.loop-i.i (get_or c.args.froms.now c.loop-i.i 0, get_or c.args.tos.now c.loop-i.i 0)
    (slice_get-zip c.args.froms.now c.args.tos.now c.loop-i.i _ _ (slice_get-get_or c.args.froms.now c.loop-i.i 0 c.loop-i-test.true) (slice_get-get_or c.args.tos.now c.loop-i.i 0 within)) c.requires.taken

pub returns-in_err-combine_entry-clause-part : goal.returns-in_err-combine_entry-clause-part
returns-in_err-combine_entry-clause-part g c =
    let within : c.loop-i.i < length c.args.tos.now = omega (arith, c.requires.pairs) in
    on_err _ (moves-part g.S.Scalar.semiring c.args.mode g.B.DistTarget.FIXED (g.B.DistTarget.table c.args.target.now) (g.A.DistSource.entries c.args.source.now) (zip c.args.froms.now c.args.tos.now) c.loop-i.i (get_or c.args.froms.now c.loop-i.i 0, get_or c.args.tos.now c.loop-i.i 0) (g.B.DistTarget.table c.loop-i.target) _
    (slice_get-zip c.args.froms.now c.args.tos.now c.loop-i.i _ _ (slice_get-get_or c.args.froms.now c.loop-i.i 0 c.loop-i-test.true) (slice_get-get_or c.args.tos.now c.loop-i.i 0 within))
    c.loop-i.invariant.so_far c.in_err-combine_entry.ensures.part)

pub loop-i-preserved : goal.loop-i-preserved
loop-i-preserved g c =
    let within : c.loop-i.i < length c.args.tos.now = omega (arith, c.requires.pairs) in
    record {
      so_far = moves-more g.S.Scalar.semiring c.args.mode g.B.DistTarget.FIXED (g.B.DistTarget.table c.args.target.now) (g.A.DistSource.entries c.args.source.now) (zip c.args.froms.now c.args.tos.now) c.loop-i.i (get_or c.args.froms.now c.loop-i.i 0, get_or c.args.tos.now c.loop-i.i 0) (g.B.DistTarget.table c.loop-i.target) _
          (slice_get-zip c.args.froms.now c.args.tos.now c.loop-i.i _ _ (slice_get-get_or c.args.froms.now c.loop-i.i 0 c.loop-i-test.true) (slice_get-get_or c.args.tos.now c.loop-i.i 0 within))
          c.loop-i.invariant.so_far c.in_ok-combine_entry.ensures.cells;
      takes = c.combine_entry.ensures.takes ∙ c.loop-i.invariant.takes;
      shape = g.met.B.DistTarget.shape_trans _ _ _ c.loop-i.invariant.shape c.combine_entry.ensures.shape;
    }

pub returns-clause-cells : goal.returns-clause-cells
returns-clause-cells g c =
    let size = length-zip c.args.froms.now c.args.tos.now in
    let ends : length (zip c.args.froms.now c.args.tos.now) ≤ c.loop-i.i = omega (arith, size) in
    moves-all g.S.Scalar.semiring c.args.mode g.B.DistTarget.FIXED (g.B.DistTarget.table c.args.target.now) (g.A.DistSource.entries c.args.source.now) (zip c.args.froms.now c.args.tos.now) c.loop-i.i _ ends c.loop-i.invariant.so_far
