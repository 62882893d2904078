use Rattle.std.proofs.Common.{◌<◌, arith}
use Rattle.model_defs.specs.Makers.{value_count}
use Rattle.model_defs.specs.Phases.{phases}
use Rattle.phase_list.proofs.Walking.{walks-on}
use Rattle.phase_list.proofs.all_phases.phases.Goals as goal

pub loop-k-preserved : goal.loop-k-preserved
loop-k-preserved c =
    let below : c.loop-k.k < value_count c.args.job.now = (let len = c.len-k-end.ensures in let ok = c.in_ok-shapes.shapes.ok.0 in let count = c.in_ok-shapes.ensures.count in let test = c.loop-k-test.true in omega arith) in
    walks-on c.args.job.now (phases c.args.job.now) c.loop-k.walk c.add_value.new.walk (value_count c.args.job.now) c.loop-k.k below c.loop-k.invariant c.in_ok-add_value.ensures
