-- What a call that writes a text does to a sink.
use Rattle.std.specs.Prelude.{◌≡◌, ◌≤◌, ℕ, List, ◌++◌, Option, Result, OnErr, OnOk, take}
use Rattle.outside.specs.Bytes.{with_bytes}
use Rattle.outside.specs.Faults.{Rose}

-- between `old` and `now` a prefix of the text was taken
abbrev pub TakesPrefix : Option (List ℕ) → Option (List ℕ) → List ℕ → Type 0
TakesPrefix old now text = (k : ℕ) × (now ≡ with_bytes old (take k text))

-- Between `old` and `new` the text was written. Ok says that all of it was taken and that no write failed, and Err that
-- a write failed, and that a prefix of the text was taken before. `told` is what a sink tells of the bytes that it took,
-- and `faults` is its count of faults.
pub record Writes {S T E : Type 0} (told : S → Option (List ℕ)) (faults : S → ℕ) (old new : S) (text : List ℕ)
    (result : Result T E) : Type 0 where
  pub taken : OnOk result (told new ≡ with_bytes (told old) text)
  pub no_fault : OnOk result (faults new ≡ faults old)
  pub prefix : OnErr result (TakesPrefix (told old) (told new) text)
  pub fault : OnErr result (Rose (faults old) (faults new))
  pub never_falls : faults old ≤ faults new

-- of the text a prefix was taken between `old` and `now`, and the rest of it is held back
pub record HoldsBack (old now : Option (List ℕ)) (held text : List ℕ) : Type 0 where
  pub sent : List ℕ
  pub taken : now ≡ with_bytes old sent
  pub whole : sent ++ held ≡ text

-- As `Writes`, but at an Ok the rest of the text may be held back for a later write.
pub record WritesAndHolds {S T E : Type 0} (told : S → Option (List ℕ)) (faults : S → ℕ) (old new : S)
    (held text : List ℕ) (result : Result T E) : Type 0 where
  pub taken : OnOk result (HoldsBack (told old) (told new) held text)
  pub no_fault : OnOk result (faults new ≡ faults old)
  pub prefix : OnErr result (TakesPrefix (told old) (told new) text)
  pub fault : OnErr result (Rose (faults old) (faults new))
  pub never_falls : faults old ≤ faults new
