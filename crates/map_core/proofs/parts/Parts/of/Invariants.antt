use Rattle.std.proofs.Common.{◌≡◌}
use Rattle.map_core.specs.Parts.{parts_below}
use Rattle.map_core.proofs.parts.Parts.of.Given as goal

abbrev pub invariant-loop-lid : goal.invariant-loop-lid
invariant-loop-lid l = l.parts ≡ parts_below l.ranks l.held l.parted l.owners l.lid
