use Rattle.std.proofs.Common.{◌≡◌, take}
use Rattle.rank_plans.proofs.answers.answer_words.Given as goal

abbrev pub invariant-loop-answer : goal.invariant-loop-answer
invariant-loop-answer l = l.words.items ≡ take l.answer-index l.answer-items
