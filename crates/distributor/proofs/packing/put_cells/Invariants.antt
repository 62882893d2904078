use Rattle.std.proofs.Common.{◌≡◌, ◌++◌, ◌+◌, ◌*◌, List, ℕ, length, take}
use Rattle.letter_codec.specs.Letters.{number_bytes}
use Rattle.letter_codec.specs.Writing.{StartsWith}
use Rattle.distributor.specs.Entries.{entry_at}
use Rattle.distributor.specs.Packed.{numbers_of}
use Rattle.distributor.proofs.packing.put_cells.Given as goal

abbrev pub invariant-loop-k : goal.invariant-loop-k
invariant-loop-k g l =
    (before : List ℕ) → length before ≡ 9 + 8 * l.words + 32 * l.at → StartsWith before l.fn.out
    → StartsWith (before ++ number_bytes g.S.Scalar.conversions (take l.k (numbers_of (entry_at (g.A.DistSource.entries l.source) l.lid)))) l.out
