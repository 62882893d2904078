use Rattle.std.proofs.Common.{◌≡◌, ◌++◌, map}
use Rattle.job_text.proofs.maps.kept_lists.Given as goal

abbrev pub invariant-loop-list : goal.invariant-loop-list
invariant-loop-list l = l.all.items ≡ map (λ g. g.items) l.yielded
