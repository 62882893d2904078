use Rattle.rank_stages.proofs.Copies.{copies_are_full, copies_are_data, copies_have_form}
use Rattle.rank_stages.proofs.laws.copies_are_full.Goals as goal

pub returns : goal.returns
returns c = record { places = copies_are_full; words = copies_are_data; form = copies_have_form }
