use Rattle.std.proofs.Common.{◌≡◌, ◌+◌, ◌-◌, ◌≤◌, ℕ, List, Option, Some, length}
use Rattle.mm_text.proofs.PieceLemmas.{IsFront}
use Rattle.run_input.proofs.front.read_pieces.Given as goal

-- what is read is the front of the file, and no read failed
abbrev pub invariant-loop-bytes : goal.invariant-loop-bytes
invariant-loop-bytes g l =
    let files = g.F.Files in
    record {
      told : files.told l.files ≡ files.told l.fn.files;
      no_fault : (n : List ℕ) → files.faults l.files n ≡ files.faults l.fn.files n;
      most : length l.bytes.items ≤ l.most + 1;
      front : (source : List ℕ → Option (List ℕ)) → files.told l.fn.files ≡ Some source → IsFront (source l.name) l.bytes.items;
    }

abbrev pub decreases-loop-bytes : goal.decreases-loop-bytes
decreases-loop-bytes g l = l.most + 1 - length l.bytes.items
