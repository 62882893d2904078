use Rattle.std.proofs.Common.{length, ap, ◌∙◌, arith}
use Rattle.model_defs.proofs.Bounds.{values-are-few}
use Rattle.phase_list.proofs.Bounded.{phases-below}
use Rattle.phase_list.proofs.lines.phase_lines.Goals as goal

pub lines_of-requires : goal.lines_of-requires
lines_of-requires c =
    let same = ap length (c.as_slice.ensures.value ∙ c.in_ok-phases.ensures.phases) in
    let few = phases-below c.args.job.now in
    let values = values-are-few c.args.job.now c.requires.valid in
    record { few = omega (arith, same, few, values) }
