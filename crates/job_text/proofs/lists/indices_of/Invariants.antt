use Rattle.std.proofs.Common.{◌≡◌, [], drop}
use Rattle.job_text.specs.Keys.{number_within}
use Rattle.job_text.specs.Lists.{each_element}
use Rattle.job_text.proofs.lists.indices_of.Given as goal

abbrev pub invariant-loop-number : goal.invariant-loop-number
invariant-loop-number l = each_element (number_within l.place l.key 0 9223372036854775807) l.gids.items (drop l.number-index l.numbers) ≡ each_element (number_within l.place l.key 0 9223372036854775807) [] l.numbers
