-- What comes, while letters come, and its letters.
use Rattle.rank_makings.proofs.Forms.{letters-have-form, words-are-few}
use Rattle.rank_makings.proofs.Stay.{comings-stay}
use Rattle.rank_makings.proofs.laws.comings_stay.Goals as goal

pub returns-clause-stay : goal.returns-clause-stay
returns-clause-stay g c = comings-stay g.S.Scalar.semiring g.S.Scalar.conversions

pub returns-clause-few : goal.returns-clause-few
returns-clause-few g c = words-are-few

pub returns-clause-forms : goal.returns-clause-forms
returns-clause-forms g c = letters-have-form g.S.Scalar.semiring g.S.Scalar.conversions
