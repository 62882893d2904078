-- Counts of calls and of faults of the outside, which stand still at 2^64 - 1.
use Rattle.std.specs.Prelude.{ℕ, ◌+◌, ◌-◌, ◌^◌, ◌≤◌, max, min, Bool, if◌then◌else◌, List, []}

-- the count rose; at its last value it stands still
abbrev pub Rose : ℕ → ℕ → Type 0
Rose before now = min (before + 1) (2 ^ 64 - 1) ≤ now

-- a count after one more; at its last value it stands still
abbrev pub counted : ℕ → ℕ
counted n = max n (min (n + 1) (2 ^ 64 - 1))

-- The numbers of the calls that are to fail, counted from 0, how many calls there were, and how many were faults.
pub record FaultPlan : Type 0 where
  pub stated : List ℕ
  pub calls : ℕ
  pub faults : ℕ

-- no call is to fail, and there was none
abbrev pub no_faults : FaultPlan
no_faults = record { stated = []; calls = 0; faults = 0 }

-- after one more call, which was a fault where the test says so
abbrev pub after_call : FaultPlan → Bool → FaultPlan
after_call plan fault =
    record plan { calls = counted plan.calls; faults = if fault then counted plan.faults else plan.faults }
