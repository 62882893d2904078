use Rattle.message_play.proofs.MadeRuns.{repeats_give_the_same}
use Rattle.message_play.proofs.laws.repeats_give_the_same_letters.Goals as goal

pub returns : goal.returns
returns c = λ P entries with_repeats without exact_with exact_without is_with is_without.
    repeats_give_the_same P entries with_repeats without exact_with exact_without is_with is_without
