use Rattle.rank_stages.proofs.Stepping.{letters_are_combined, gathered_stays, made_values_stay}
use Rattle.rank_stages.proofs.laws.letters_are_combined.Goals as goal

pub returns : goal.returns
returns g c = record {
  combined = letters_are_combined g.S.Scalar.semiring g.S.Scalar.conversions;
  gathered = gathered_stays g.S.Scalar.semiring g.S.Scalar.conversions;
  values = made_values_stay g.S.Scalar.semiring g.S.Scalar.conversions;
}
