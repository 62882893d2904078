use Rattle.rank_plans.proofs.Joined.{answers_name_owners, own_lists_are_remote}
use Rattle.rank_plans.proofs.laws.owners_are_named.Goals as goal

pub returns : goal.returns
returns c = record { answers = answers_name_owners; lists = own_lists_are_remote }
