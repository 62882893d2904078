use Rattle.std.proofs.Common.{◌≡◌, ◌-◌, ◌%◌, ◌++◌, length, drop}
use Rattle.std.specs.List.{flat_map}
use Rattle.std.specs.List.Sorted.{IsPermutation}
use Rattle.tables.specs.Indices.{dealt, dealt_from}
use Rattle.model_defs.specs.FileMatrix.{entry_numbers}
use Rattle.gathered_rows.specs.Blocks.{cells_in, AreOwned}
use Rattle.gathered_rows.proofs.dealing.bring_dealt.Given as goal

abbrev pub invariant-loop-k : goal.invariant-loop-k
invariant-loop-k g l =
    let cells = flat_map (entry_numbers g.S.Scalar.semiring g.S.Scalar.conversions l.file.mirror) in
    record {
      mine : l.k % l.ranks ≡ l.rank;
      owned : AreOwned l.ranks l.file.rows l.blocks;
      cells : IsPermutation (cells_in l.initial.blocks ++ cells (dealt l.ranks l.rank l.file.lines.items)) (cells_in l.blocks ++ cells (dealt_from l.k l.ranks l.rank (drop l.k l.file.lines.items)));
    }

abbrev pub decreases-loop-k : goal.decreases-loop-k
decreases-loop-k g l = length l.file.lines.items - l.k
