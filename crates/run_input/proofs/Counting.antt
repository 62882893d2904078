-- What several reads did to the files.
use Rattle.std.proofs.Common.{◌≡◌, ℕ, List, [], Option, Result, Ok, Err, ◌∙◌, subst, arith}
use Rattle.outside.specs.Faults.{Rose}
use Rattle.outside.specs.Reads.{Source}
use Rattle.run_input.specs.declared.fault.InputFault.{InputFault}
use Rattle.run_input.specs.declared.fault.InputFault.TheVariants.{Memory, Unread, Refused}
use Rattle.run_input.specs.Answering.{Stops}
use Rattle.run_input.specs.Reading.{IsUnread, ReadsMany, RoseAt, name_text}
use Rattle.run_input.specs.Walk.{Stop}
use Rattle.run_input.proofs.Among.{among-none}

module _ {F : Type 0} (told : F → Option Source) (faults : F → List ℕ → ℕ) (old mid new : F) where
  -- behind reads that were made all
  pub many-after : {T U : Type 0} (x : T) (r : Result U InputFault) → (let first : Result T InputFault = Ok x in ReadsMany told faults old mid first)
      → ReadsMany told faults mid new r → ReadsMany told faults old new r
  many-after x r before reads = record {
    same_files = reads.same_files ∙ before.same_files;
    never_falls = λ name. omega (arith, counts name, reads.never_falls name);
    fault = rose r reads.fault;
    no_fault = λ h name. reads.no_fault h name ∙ counts name;
  }
    where
      counts : (name : List ℕ) → faults mid name ≡ faults old name
      counts name = before.no_fault (λ h. h) name

      rose : {U : Type 0} (r : Result U InputFault) → RoseAt (faults mid) (faults new) r → RoseAt (faults old) (faults new) r
      rose (Ok y) h = tt
      rose (Err Memory) h = tt
      rose (Err (Unread name)) h = subst (λ n. Rose n (faults new (name_text name))) (counts (name_text name)) h
      rose (Err (Refused name fault)) h = tt

-- behind reads that were made all nothing more was read
pub many-ends : {F T U : Type 0} (told : F → Option Source) (faults : F → List ℕ → ℕ) (old new : F) (x : T) (r : Result U InputFault)
    → (IsUnread r → ⊥) → (let first : Result T InputFault = Ok x in ReadsMany told faults old new first) → ReadsMany told faults old new r
many-ends told faults old new x r quiet before = record {
  same_files = before.same_files;
  never_falls = before.never_falls;
  fault = none r quiet;
  no_fault = λ h. before.no_fault (λ i. i);
}
  where
    none : {U : Type 0} (r : Result U InputFault) → (IsUnread r → ⊥) → RoseAt (faults old) (faults new) r
    none (Ok y) quiet = tt
    none (Err Memory) quiet = tt
    none (Err (Unread name)) quiet = absurd (quiet tt)
    none (Err (Refused name fault)) quiet = tt

-- a text that is refused is no read that failed
pub quiet-stop : {B : Type 0} (U : Type 0) (walk : Result B Stop) (fault : InputFault) → Stops [] walk fault → (let r : Result U InputFault = Err fault in IsUnread r) → ⊥
quiet-stop U walk Memory h i = i
quiet-stop U walk (Unread name) h i = among-none (name_text name) h
quiet-stop U walk (Refused name fault) h i = i

-- the same reads, of an answer of another kind
pub many-fault : {F T U : Type 0} (told : F → Option Source) (faults : F → List ℕ → ℕ) (old new : F) (fault : InputFault)
    → (let r : Result T InputFault = Err fault in ReadsMany told faults old new r) → (let r : Result U InputFault = Err fault in ReadsMany told faults old new r)
many-fault told faults old new Memory reads = record { same_files = reads.same_files; never_falls = reads.never_falls; fault = tt; no_fault = reads.no_fault }
many-fault told faults old new (Unread name) reads = record { same_files = reads.same_files; never_falls = reads.never_falls; fault = reads.fault; no_fault = reads.no_fault }
many-fault told faults old new (Refused name fault) reads = record { same_files = reads.same_files; never_falls = reads.never_falls; fault = tt; no_fault = reads.no_fault }
