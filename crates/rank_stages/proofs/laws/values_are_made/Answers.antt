use Rattle.rank_stages.proofs.MadeValues.{pieces_are_made, first_pieces_are_pieces, first_values_are_made, all_are_made_at_the_end, pieces_are_by_phase}
use Rattle.rank_stages.proofs.laws.values_are_made.Goals as goal

pub returns : goal.returns
returns g c = record {
  made = pieces_are_made g.S.Scalar.semiring g.S.Scalar.conversions;
  before = first_pieces_are_pieces g.S.Scalar.semiring g.S.Scalar.conversions;
  first = first_values_are_made g.S.Scalar.semiring g.S.Scalar.conversions;
  end = all_are_made_at_the_end g.S.Scalar.semiring g.S.Scalar.conversions;
  by_phase = pieces_are_by_phase g.S.Scalar.semiring g.S.Scalar.conversions;
}
