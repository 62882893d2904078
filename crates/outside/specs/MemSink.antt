-- A sink in memory.
use Rattle.std.specs.Prelude.{ℕ, List}
use Rattle.outside.specs.Faults.{FaultPlan}

-- the bytes taken, how many bytes have room in all, and which writes are faults
pub record MemorySink : Type 0 where
  pub bytes : List ℕ
  pub room : ℕ
  pub plan : FaultPlan
