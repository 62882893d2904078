use Rattle.std.proofs.Common.{◌≡◌, drop}
use Rattle.std.specs.List.{concat}
use Rattle.map_core.specs.Layouts.{stands}
use Rattle.job_text.proofs.layouts.rank_with.Given as goal

abbrev pub invariant-loop-rank : goal.invariant-loop-rank
invariant-loop-rank l = stands l.gid (concat (drop l.rank l.layout.lists)) ≡ stands l.gid (concat l.layout.lists)
