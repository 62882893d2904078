use Rattle.model_defs.proofs.Early.{entries_are_early, earlier_letters}
use Rattle.model_defs.proofs.laws.letters_are_early.Goals as goal

pub returns : goal.returns
returns g c = record {
  transfers = entries_are_early g.S.Scalar.semiring g.S.Scalar.conversions;
  letters = earlier_letters g.S.Scalar.semiring g.S.Scalar.conversions;
}
