use Rattle.std.proofs.Common.{◌≡◌, drop}
use Rattle.std.specs.List.{concat, list_all}
use Rattle.map_core.specs.Layouts.{stands}
use Rattle.job_text.specs.Layouts.{covers}
use Rattle.job_text.proofs.layouts.has_lists.Given as goal

abbrev pub invariant-loop-rank : goal.invariant-loop-rank
invariant-loop-rank l = list_all (λ list. list_all (λ g. stands g (concat l.wide.lists)) list) (drop l.rank l.narrow.lists) ≡ covers l.wide l.narrow
