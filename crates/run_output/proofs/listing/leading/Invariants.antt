use Rattle.std.proofs.Common.{◌≡◌, ◌+◌, drop}
use Rattle.run_output.specs.Listings.{leading}
use Rattle.run_output.proofs.listing.leading.Given as goal

abbrev pub invariant-loop-line : goal.invariant-loop-line
invariant-loop-line l = record {
  at : l.count ≡ l.line-index;
  rest : l.count + leading l.phase (drop l.line-index l.letters) ≡ leading l.phase l.letters;
}
