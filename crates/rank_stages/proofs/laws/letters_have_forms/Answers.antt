use Rattle.rank_stages.proofs.LetterForms.{phases_have_kinds, plan_letters_have_form, rows_are_few, plans_are_packed, plans_are_read, numbers_are_packed, numbers_are_read}
use Rattle.rank_stages.proofs.laws.letters_have_forms.Goals as goal

pub returns : goal.returns
returns g c = record {
  kinds = phases_have_kinds;
  form = plan_letters_have_form;
  few = rows_are_few;
  plans_packed = plans_are_packed g.S.Scalar.semiring g.S.Scalar.conversions;
  plans_read = plans_are_read g.S.Scalar.semiring g.S.Scalar.conversions;
  numbers_packed = numbers_are_packed g.S.Scalar.semiring g.S.Scalar.conversions;
  numbers_read = numbers_are_read g.S.Scalar.semiring g.met.S.Scalar.conversion_laws;
}
