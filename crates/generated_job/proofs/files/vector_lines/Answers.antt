use Rattle.std.proofs.Common.{[], ◌∷◌, ◌++◌, ap, ◌∙◌}
use Rattle.generated_job.specs.Generated.{vector_line}
use Rattle.generated_job.proofs.Lists.{map-more}
use Rattle.generated_job.proofs.files.vector_lines.Goals as goal

pub loop-index-preserved : goal.loop-index-preserved
loop-index-preserved c =
    c.in_ok-push.ensures.items
    ∙ ap (λ line. c.loop-index.lines.items ++ line ∷ []) c.vector_line.ensures.line
    ∙ map-more vector_line c.loop-index.index c.loop-index.lines.items c.loop-index.invariant
