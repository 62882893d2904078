use Rattle.std.proofs.Common.{◌≡◌, [], drop}
use Rattle.job_text.specs.Keys.{number_within}
use Rattle.job_text.specs.Lists.{each_element}
use Rattle.job_text.proofs.lists.numbers_within.Given as goal

abbrev pub invariant-loop-number : goal.invariant-loop-number
invariant-loop-number l = each_element (number_within l.place l.key 0 l.most) l.counts.items (drop l.number-index l.numbers) ≡ each_element (number_within l.place l.key 0 l.most) [] l.numbers
