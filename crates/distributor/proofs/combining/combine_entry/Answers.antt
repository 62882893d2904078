use Rattle.distributor.specs.Entries.{entry_at, cells_for}
use Rattle.distributor.proofs.Combined.{on_err, cell-taken, entry-more, part-at}
use Rattle.std.proofs.Common.{◌∙◌}
use Rattle.distributor.proofs.combining.combine_entry.Goals as goal

pub combine-requires : goal.combine-requires
combine-requires g c =
    record { taken = (λ t. c.loop-at.invariant.takes t c.args.to c.cell-col.result.0) ∙ cell-taken (g.B.DistTarget.takes c.args.target.now) c.args.to (entry_at (g.A.DistSource.entries c.args.source.now) c.args.from) c.loop-at.at c.cell-col.result c.requires.taken c.cell-col.ensures.cell }

pub returns-in_err-combine-clause-part : goal.returns-in_err-combine-clause-part
returns-in_err-combine-clause-part g c = on_err _ (part-at g.S.Scalar.semiring c.args.mode g.B.DistTarget.FIXED (g.B.DistTarget.table c.args.target.now) (cells_for c.args.to (entry_at (g.A.DistSource.entries c.args.source.now) c.args.from)) c.loop-at.at (g.B.DistTarget.table c.loop-at.target) _ c.loop-at.invariant.so_far c.in_err-combine.ensures.err)

pub loop-at-preserved : goal.loop-at-preserved
loop-at-preserved g c =
    record {
      so_far = entry-more g.S.Scalar.semiring c.args.mode g.B.DistTarget.FIXED (g.B.DistTarget.table c.args.target.now) c.args.to (entry_at (g.A.DistSource.entries c.args.source.now) c.args.from) c.loop-at.at c.cell-col.result (g.B.DistTarget.table c.loop-at.target) _ c.cell-col.ensures.cell c.loop-at.invariant.so_far c.in_ok-combine.ensures.cell;
      takes = c.combine.ensures.takes ∙ c.loop-at.invariant.takes;
      shape = g.met.B.DistTarget.shape_trans _ _ _ c.loop-at.invariant.shape c.combine.ensures.shape;
    }
