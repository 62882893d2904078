use Rattle.std.proofs.Common.{◌≡◌, [], drop, map}
use Rattle.job_text.specs.Lists.{each_element, indices_of}
use Rattle.job_text.proofs.lists.index_lists.Given as goal

abbrev pub invariant-loop-list : goal.invariant-loop-list
invariant-loop-list l = each_element (indices_of l.place l.key) (map (λ g. g.items) l.all.items) (drop l.list-index l.lists) ≡ each_element (indices_of l.place l.key) [] l.lists
