-- What is answered for a file that was read.
use Rattle.std.proofs.Common.{◌≡◌, ℕ, List, Option, Result, Err, refl}
use Rattle.std.specs.Borrow.{Bor}
use Rattle.outside.specs.Reads.{HasText, Reads, Source}
use Rattle.mm_text.specs.declared.fault.MmFault.{MmFault}
use Rattle.mm_text.specs.declared.fault.MmFault.TheVariants.{ReadFault, NoMem}
use Rattle.mm_text.specs.Outcomes.{IsTextFault}
use Rattle.mm_text.specs.Reading.{HasFault}
use Rattle.tpx.specs.declared.fault.Fault.{Fault}
use Rattle.tpx.specs.Endings.{shown_profile}
use Rattle.tpx.specs.Steps.{IsUnread, StopsReading, fault_at}

-- a read that failed, said of another answer
pub Reads-same : {F : Type 0} (told : F → Option Source) (faults : F → List ℕ → ℕ) (old new : F) (name : List ℕ) (A B : Type 0) →
    (B → A) → (A → B) → Reads told faults old new name A → Reads told faults old new name B
Reads-same told faults old new name A B back on r = record {
  same_files = r.same_files;
  never_falls = r.never_falls;
  fault = λ b. r.fault (back b);
  no_fault = λ not. r.no_fault (λ a. not (on a));
}

pub unread-from : (T : Type 0) (file : Bor (List ℕ)) (f : MmFault) →
    (let r : Result T Fault = Err (fault_at file f) in IsUnread r) → (let r : Result T MmFault = Err f in r ≡ Err ReadFault)
unread-from T file ReadFault h = refl
unread-from T file NoMem h = absurd h
unread-from T file f h = absurd h

pub unread-to : (T : Type 0) (file : Bor (List ℕ)) (f : MmFault) →
    (let r : Result T MmFault = Err f in r ≡ Err ReadFault) → (let r : Result T Fault = Err (fault_at file f) in IsUnread r)
unread-to T file ReadFault e = tt
unread-to T file NoMem e = let r : Result T MmFault = Err NoMem in let h : r ≡ Err ReadFault = e in absurd (cc)
unread-to T file f e = let r : Result T MmFault = Err f in let h : r ≡ Err ReadFault = e in absurd (cc)

-- the fault at which the command stops
pub stops_reading : (told : Option Source) (file : Bor (List ℕ)) (f : MmFault) →
    (IsTextFault f → HasText told file.now (λ text. HasFault shown_profile text f)) → StopsReading told file.now (fault_at file f)
stops_reading told file ReadFault has = refl
stops_reading told file NoMem has = tt
stops_reading told file f has = (refl, has tt)
