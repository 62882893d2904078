use Rattle.std.proofs.Common.{◌≡◌, ◌++◌, ◌+◌, ◌*◌, List, ℕ, length, take}
use Rattle.letter_codec.specs.Letters.{word_bytes}
use Rattle.letter_codec.specs.Writing.{StartsWith}
use Rattle.distributor.specs.Entries.{entry_at, columns_of}
use Rattle.distributor.proofs.packing.put_columns.Given as goal

abbrev pub invariant-loop-k : goal.invariant-loop-k
invariant-loop-k g l =
    (before : List ℕ) → length before ≡ 9 + 8 * l.at → StartsWith before l.fn.out
    → StartsWith (before ++ word_bytes (take l.k (columns_of (entry_at (g.A.DistSource.entries l.source) l.lid)))) l.out
