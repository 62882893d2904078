use Rattle.std.proofs.lemmas.Bool.Decides.{same_from_decides}
use Rattle.job_text.specs.Layouts.{is_total}
use Rattle.job_text.proofs.LayoutTests.{total_decides}
use Rattle.job_text.proofs.layouts.has_all.Goals as goal

pub returns : goal.returns
returns c = same_from_decides c.is_total.result (is_total c.args.layout.now) c.is_total.ensures.exact (total_decides c.args.layout.now)
