use Rattle.std.proofs.Common.{◌≡◌, take, filter}
use Rattle.tables.specs.Indices.{stands}
use Rattle.rank_share.proofs.cells.kept_entries.Given as goal

abbrev pub invariant-loop-entry : goal.invariant-loop-entry
invariant-loop-entry l = l.lines.items ≡ filter (λ e. stands e.row l.map) (take l.entry-index l.entries)
