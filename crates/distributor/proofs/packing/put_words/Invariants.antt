use Rattle.std.proofs.Common.{◌≡◌, ◌++◌, List, ℕ, length, take}
use Rattle.std.specs.List.{flat_map}
use Rattle.letter_codec.specs.Letters.{word_bytes}
use Rattle.letter_codec.specs.Writing.{StartsWith}
use Rattle.distributor.specs.Packed.{sent_entries, words_for}
use Rattle.distributor.proofs.packing.put_words.Given as goal

abbrev pub invariant-loop-lid : goal.invariant-loop-lid
invariant-loop-lid g l = record {
  at : l.at ≡ length (flat_map (words_for l.kind) (sent_entries (g.A.DistSource.entries l.source) (take l.lid-index l.list)));
  next : (before : List ℕ) → length before ≡ 9 → StartsWith before l.fn.out
      → StartsWith (before ++ word_bytes (flat_map (words_for l.kind) (sent_entries (g.A.DistSource.entries l.source) (take l.lid-index l.list)))) l.out;
}
