use Rattle.std.proofs.Common.{◌≡◌, ◌<◌, ◌≤◌, ◌-◌, ℕ, length, get_or}
use Rattle.run_input.proofs.names.taken_name.Given as goal

-- the name stands from here on
abbrev pub invariant-loop-name : goal.invariant-loop-name
invariant-loop-name l =
    (l.names.items ≡ l.initial.names.items)
    × ((i : ℕ) × ((l.at ≤ i) × (i < length l.names.items) × (l.name ≡ get_or l.names.items i l.name)))

abbrev pub decreases-loop-name : goal.decreases-loop-name
decreases-loop-name l = length l.names.items - l.at
