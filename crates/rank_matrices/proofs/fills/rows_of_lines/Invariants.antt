use Rattle.std.proofs.Common.{◌≡◌, map, take}
use Rattle.rank_matrices.proofs.fills.rows_of_lines.Given as goal

abbrev pub invariant-loop-line : goal.invariant-loop-line
invariant-loop-line l = l.rows.items ≡ map (λ x. x.row) (take l.line-index l.lines)
