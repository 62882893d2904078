use Rattle.std.proofs.Common.{◌≡◌, true, ltb, take}
use Rattle.std.specs.List.{list_all}
use Rattle.letter_codec.specs.Parts.{words_of}
use Rattle.letter_codec.proofs.reading.are_owners.Given as goal

abbrev pub invariant-loop-at : goal.invariant-loop-at
invariant-loop-at l = list_all (λ w. ltb w 4294967296) (take l.at (words_of l.words)) ≡ true
