use Rattle.std.proofs.Common.{map, subst}
use Rattle.std.specs.List.{flat_map}
use Rattle.mm_text.specs.Reading.{file_of}
use Rattle.model_defs.specs.Makers.{makers}
use Rattle.model_defs.specs.Numbers.{maker_integers}
use Rattle.rank_sim.specs.Stated.{AreWeighed}
use Rattle.rank_sim.proofs.WeighedJobs.{all-read}
use Rattle.rank_sim.proofs.running.run.Goals as goal

pub run_with-requires-clause-numbers : goal.run_with-requires-clause-numbers
run_with-requires-clause-numbers g c = record {
  stated = subst (λ job. AreWeighed (flat_map maker_integers (makers job))) c.deref.ensures c.stated_are_weighed.ensures.numbers;
  read = all-read c.args.job.now.value (map file_of c.args.files.now) c.requires.fitting;
}
