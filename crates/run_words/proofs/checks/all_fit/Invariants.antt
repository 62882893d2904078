use Rattle.std.proofs.Common.{◌≡◌, drop, map, string_bytes}
use Rattle.std.specs.List.{list_all}
use Rattle.run_words.specs.Given.{is_fit}
use Rattle.run_words.proofs.checks.all_fit.Given as goal

abbrev pub invariant-loop-word : goal.invariant-loop-word
invariant-loop-word l = list_all is_fit (map string_bytes l.words) ≡ list_all is_fit (map string_bytes (drop l.word-index l.words))
