use Rattle.std.proofs.lemmas.Bool.Decides.{same_from_decides}
use Rattle.job_text.specs.Layouts.{is_one_to_one}
use Rattle.job_text.proofs.LayoutTests.{one_to_one_decides}
use Rattle.job_text.proofs.layouts.has_one_owner.Goals as goal

pub returns : goal.returns
returns c = same_from_decides c.is_one_to_one.result (is_one_to_one c.args.layout.now) c.is_one_to_one.ensures.exact (one_to_one_decides c.args.layout.now)
