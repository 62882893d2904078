use Rattle.rank_stages.proofs.Entering.{registrations_are_entered, questions_are_entered, answers_are_entered, lists_are_entered, numbers_are_entered, end_is_entered}
use Rattle.rank_stages.proofs.laws.phases_are_entered.Goals as goal

pub returns : goal.returns
returns g c = record {
  registrations = registrations_are_entered g.S.Scalar.semiring g.S.Scalar.conversions;
  questions = questions_are_entered g.S.Scalar.semiring g.S.Scalar.conversions;
  answers = answers_are_entered g.S.Scalar.semiring g.S.Scalar.conversions;
  lists = lists_are_entered g.S.Scalar.semiring g.S.Scalar.conversions;
  numbers = numbers_are_entered g.S.Scalar.semiring g.S.Scalar.conversions;
  end = end_is_entered g.S.Scalar.semiring g.S.Scalar.conversions;
}
