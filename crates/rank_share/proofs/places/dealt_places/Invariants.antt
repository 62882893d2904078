use Rattle.std.proofs.Common.{◌≡◌, ◌<◌, ◌%◌, take}
use Rattle.std.specs.List.{flat_map}
use Rattle.tables.specs.Indices.{dealt}
use Rattle.rank_share.specs.Shares.{entry_lines}
use Rattle.rank_share.proofs.places.dealt_places.Given as goal

abbrev pub invariant-loop-line : goal.invariant-loop-line
invariant-loop-line l = record {
  rank : l.turn < l.ranks;
  turn : l.turn ≡ l.line-index % l.ranks;
  places : l.places.items ≡ flat_map (entry_lines l.file.mirror) (dealt l.ranks l.me (take l.line-index l.line-items));
}
