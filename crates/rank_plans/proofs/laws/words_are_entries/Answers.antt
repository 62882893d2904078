use Rattle.rank_plans.proofs.Joined.{imports_lack_the_rest, questions_are_asked, registrations_are_entries}
use Rattle.rank_plans.proofs.laws.words_are_entries.Goals as goal

pub returns : goal.returns
returns c = record { registrations = registrations_are_entries; questions = questions_are_asked; imports = imports_lack_the_rest }
