use Rattle.phase_list.proofs.Placed.{matrix-read, step-read, no-step}
use Rattle.phase_list.proofs.maker.behind_parts.Goals as goal

pub returns-then-k-matrices : goal.returns-then-k-matrices
returns-then-k-matrices c = matrix-read c.args.job.now c.args.k c.as_slice-matrices.result.now c.index-matrices-k.result c.if-k-matrices.true c.as_slice-matrices.ensures.items c.index-matrices-k.is

pub returns-in-Some : goal.returns-in-Some
returns-in-Some c = step-read c.args.job.now c.args.k c.as_slice-matrices.result.now c.as_slice.result.now c.in-Some.step.now c.if-k-matrices.false c.as_slice-matrices.ensures.items c.as_slice.ensures.items c.in-Some.ensures

pub returns-in-None : goal.returns-in-None
returns-in-None c = no-step c.args.job.now c.args.k c.as_slice-matrices.result.now c.as_slice.result.now c.if-k-matrices.false c.as_slice-matrices.ensures.items c.as_slice.ensures.items c.in-None.ensures
