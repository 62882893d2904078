use Rattle.phase_list.proofs.Placed.{parts-read}
use Rattle.phase_list.proofs.maker.behind_vectors.Goals as goal

pub returns-then-k-parts : goal.returns-then-k-parts
returns-then-k-parts c = parts-read c.args.job.now c.args.k c.as_slice-parts.result.now c.index-parts-k.result c.if-k-parts.true c.as_slice-parts.ensures.items c.index-parts-k.is
