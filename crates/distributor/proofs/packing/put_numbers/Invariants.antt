use Rattle.std.proofs.Common.{◌≡◌, ◌++◌, ◌+◌, ◌*◌, List, ℕ, length, take}
use Rattle.std.specs.List.{flat_map}
use Rattle.letter_codec.specs.Letters.{number_bytes}
use Rattle.letter_codec.specs.Writing.{StartsWith}
use Rattle.distributor.specs.Packed.{sent_entries, numbers_of, cell_count}
use Rattle.distributor.proofs.packing.put_numbers.Given as goal

abbrev pub invariant-loop-lid : goal.invariant-loop-lid
invariant-loop-lid g l = record {
  at : l.at ≡ cell_count (sent_entries (g.A.DistSource.entries l.source) (take l.lid-index l.list));
  next : (before : List ℕ) → length before ≡ 9 + 8 * l.words → StartsWith before l.fn.out
      → StartsWith (before ++ number_bytes g.S.Scalar.conversions (flat_map numbers_of (sent_entries (g.A.DistSource.entries l.source) (take l.lid-index l.list)))) l.out;
}
