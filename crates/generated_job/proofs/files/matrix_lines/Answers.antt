use Rattle.std.proofs.Common.{◌∙◌}
use Rattle.generated_job.specs.Generated.{matrix_lines}
use Rattle.generated_job.proofs.Lists.{flat-more}
use Rattle.generated_job.proofs.files.matrix_lines.Goals as goal

pub loop-index-preserved : goal.loop-index-preserved
loop-index-preserved c =
    c.in_ok-add_index.ensures.lines ∙ flat-more (matrix_lines c.args.size) c.loop-index.index c.loop-index.lines.items c.loop-index.invariant
