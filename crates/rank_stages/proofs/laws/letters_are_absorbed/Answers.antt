use Rattle.rank_stages.proofs.Absorbing.{registrations_are_absorbed, questions_are_absorbed, answers_are_absorbed, lists_are_absorbed, numbers_are_absorbed}
use Rattle.rank_stages.proofs.laws.letters_are_absorbed.Goals as goal

pub returns : goal.returns
returns g c = record {
  registrations = registrations_are_absorbed g.S.Scalar.semiring g.S.Scalar.conversions;
  questions = questions_are_absorbed g.S.Scalar.semiring g.S.Scalar.conversions;
  answers = answers_are_absorbed g.S.Scalar.semiring g.S.Scalar.conversions;
  lists = lists_are_absorbed g.S.Scalar.semiring g.S.Scalar.conversions;
  numbers = numbers_are_absorbed g.S.Scalar.semiring g.S.Scalar.conversions;
}
