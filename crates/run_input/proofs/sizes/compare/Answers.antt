use Rattle.std.proofs.Common.{Err, ap, map}
use Rattle.mm_text.specs.Reading.{file_of}
use Rattle.run_input.proofs.Misfits.{unfit-given}
use Rattle.run_input.proofs.sizes.compare.Goals as goal

pub value_name-requires : goal.value_name-requires
value_name-requires c =
    unfit-given c.args.job.now (map file_of c.args.files.now) c.value_of.result (c.in-Err.ensures.misfits c.value_of.result (ap Err c.value_of.ensures))
