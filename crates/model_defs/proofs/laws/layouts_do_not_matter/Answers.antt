use Rattle.model_defs.proofs.LayoutLaw.{layouts_do_not_matter}
use Rattle.model_defs.proofs.laws.layouts_do_not_matter.Goals as goal

pub returns : goal.returns
returns g c = layouts_do_not_matter g.S.Scalar.semiring g.S.Scalar.conversions
