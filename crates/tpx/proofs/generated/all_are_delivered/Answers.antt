use Rattle.schedule.specs.declared.chooser.Chooser.TheVariants as chooser
use Rattle.tpx.specs.Endings.{generated_input}
use Rattle.tpx.specs.Runs.{protocol_of}
use Rattle.tpx.proofs.generated.all_are_delivered.Goals as goal

pub returns : goal.returns
returns c =
    let input = generated_input c.args.size in
    c.choosers_complete.ensures.complete (protocol_of input) (c.jobs_are_protocols.ensures input.job input.files) chooser.Fifo
