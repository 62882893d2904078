use Rattle.std.proofs.Common.{◌≡◌, ◌<◌, ℕ, slice_get}
use Rattle.map_core.proofs.parts.same_len.Given as goal

abbrev pub invariant-loop-lid : goal.invariant-loop-lid
invariant-loop-lid l = (k : ℕ) → k < l.lid → slice_get l.held k ≡ slice_get l.parted k
