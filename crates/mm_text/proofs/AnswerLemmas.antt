-- What is read of a name, and what its text is.
use Rattle.std.proofs.Common.{◌≡◌, ◌≢◌, ◌⊎◌, ℕ, ◌+◌, ◌≤◌, false, List, Option, Some, Result, Ok, Err, IfOk, IfErr, IsErrOf, MatchOption, take, length, ap, sym, ◌∙◌, subst, arith, inl, inr}
use Rattle.std.proofs.lemmas.Bool.{cases_lt}
use Rattle.std.proofs.lemmas.List.{length-take-le, take-take, take_all}
use Rattle.outside.specs.Reads.{HasText, Reads, Source}
use Rattle.outside.proofs.Sources.{HasText-from, HasText-map}
use Rattle.mm_text.specs.declared.fault.MmFault.{MmFault}
use Rattle.mm_text.specs.declared.fault.MmFault.TheVariants.{NoMem, ReadFault}
use Rattle.mm_text.specs.declared.file_data.FileData.{FileData}
use Rattle.mm_text.specs.declared.profile.Profile.{Profile}
use Rattle.mm_text.specs.Lines.{Text, lines_of}
use Rattle.mm_text.specs.Outcomes.{Gives, IsTextFault}
use Rattle.mm_text.specs.Reading.{HasFault, IsFile, file_of, lines_read, reading}
use Rattle.mm_text.proofs.FaultLemmas.{no_read_fault}
use Rattle.mm_text.proofs.ReadingLemmas.{reading_long}
use Rattle.mm_text.proofs.SoundLemmas.{IsKept, reading_kept}

-- one byte past the most tells as much as all
reading_cut : (profile : Profile) (text : Text) → reading profile (take (profile.bytes + 1) text) ≡ reading profile text
reading_cut profile text = elim (cases_lt profile.bytes (length text)) [
  | inl long ↦
      let front = take (profile.bytes + 1) text in
      let size : length front ≡ profile.bytes + 1 = length-take-le (profile.bytes + 1) text (omega arith) in
      reading_long profile front (omega arith)
      ∙ ap (λ t. lines_read false profile (lines_of false t)) (take-take profile.bytes (profile.bytes + 1) text (omega arith))
      ∙ sym (reading_long profile text long)
  | inr whole ↦ ap (reading profile) (take_all (profile.bytes + 1) text (omega arith))
]

-- the bytes are the front of a text of the name
pub front_of : (told : Option Source) (name bytes : Text) (most : ℕ) → length bytes ≤ most →
    ((source : Source) → told ≡ Some source → MatchOption (source name) ⊥ (λ text. bytes ≡ take most text)) →
    HasText told name (λ text. bytes ≡ take most text)
front_of told name bytes most short found =
    HasText-from told name (λ text. bytes ≡ take most text) bytes (sym (take_all most bytes short)) found

-- What is answered of bytes that are the front of a text is what this text is read as.
module _ (profile : Profile) (told : Option Source) (name bytes : Text)
    (front : HasText told name (λ text. bytes ≡ take (profile.bytes + 1) text)) where
  pub file_answer : (r : Result FileData MmFault) → Gives file_of r (reading profile bytes) →
      IfOk r (λ found. HasText told name (λ text. IsFile profile text (file_of found)))
  file_answer (Ok found) is =
      HasText-map told name _ _ (λ text e. sym (reading_cut profile text) ∙ ap (reading profile) (sym e) ∙ is) front
  file_answer (Err fault) is = tt

  no_memory : (fault : MmFault) → fault ≡ NoMem → IsTextFault fault → ⊥
  no_memory fault e h = let at = subst IsTextFault e h in at

  pub fault_answer : (r : Result FileData MmFault) → Gives file_of r (reading profile bytes) →
      IfErr r (λ fault. IsTextFault fault → HasText told name (λ text. HasFault profile text fault))
  fault_answer (Ok found) is = tt
  fault_answer (Err fault) is = λ h.
      elim is [
        | inl memory ↦ absurd (no_memory fault memory h)
        | inr e ↦ HasText-map told name _ _ (λ text e'. sym (reading_cut profile text) ∙ ap (reading profile) (sym e') ∙ e) front
      ]

-- no text has the fault of a read
pub not_unread : (profile : Profile) (bytes : Text) (r : Result FileData MmFault) → Gives file_of r (reading profile bytes) →
    IsErrOf r ReadFault → ⊥
not_unread profile bytes (Ok found) is e = absurd (cc)
not_unread profile bytes (Err fault) is e =
    let same : fault ≡ ReadFault = cc in
    elim is [
      | inl memory ↦ absurd (cc)
      | inr e' ↦ absurd (no_read_fault profile bytes (e' ∙ ap Err same))
    ]

-- so every fault is another one
pub other_fault : (profile : Profile) (bytes : Text) (r : Result FileData MmFault) → Gives file_of r (reading profile bytes) →
    IfErr r (λ fault. fault ≢ ReadFault)
other_fault profile bytes (Ok found) is = tt
other_fault profile bytes (Err fault) is = λ e. not_unread profile bytes (Err fault) is (cc)

-- what is read is sound and keeps the limits, whatever the bytes are
pub kept_answer : (profile : Profile) (bytes : Text) (r : Result FileData MmFault) → Gives file_of r (reading profile bytes) →
    IfOk r (λ found. IsKept profile (file_of found))
kept_answer profile bytes (Ok found) is = reading_kept profile bytes (file_of found) is
kept_answer profile bytes (Err fault) is = tt

-- a read that gave no bytes has no fault of a text
pub no_text_fault : (fault : MmFault) → (fault ≡ NoMem) ⊎ (fault ≡ ReadFault) → IsTextFault fault → ⊥
no_text_fault fault (inl e) h = let at = subst IsTextFault e h in at
no_text_fault fault (inr e) h = let at = subst IsTextFault e h in at

-- the bytes were read, and what follows reads nothing
pub reads_after : {F T : Type 0} (told : F → Option Source) (faults : F → List ℕ → ℕ) (old new : F) (name : Text) (bytes : T)
    (r : Result FileData MmFault) → (IsErrOf r ReadFault → ⊥) →
    Reads told faults old new name (IsErrOf (Ok bytes) ReadFault) → Reads told faults old new name (IsErrOf r ReadFault)
reads_after told faults old new name bytes r other reads = record {
  same_files = reads.same_files;
  never_falls = reads.never_falls;
  fault = λ e. absurd (other e);
  no_fault = λ _. reads.no_fault (λ e. cc);
}

-- the same fault
pub same_fault : {F T : Type 0} (told : F → Option Source) (faults : F → List ℕ → ℕ) (old new : F) (name : Text)
    (r : Result FileData MmFault) (fault found : MmFault) → r ≡ Err found → found ≡ fault →
    Reads told faults old new name (IsErrOf {T = T} (Err fault) ReadFault) → Reads told faults old new name (IsErrOf r ReadFault)
same_fault told faults old new name r fault found e e' reads = record {
  same_files = reads.same_files;
  never_falls = reads.never_falls;
  fault = λ h. reads.fault (cc);
  no_fault = λ h. reads.no_fault (λ h'. h (cc));
}

-- the same answer, said of equal profiles and equal bytes
pub given_answer : (profile profile' : Profile) (bytes bytes' : Text) (r : Result FileData MmFault) → profile ≡ profile' →
    bytes ≡ bytes' → Gives file_of r (reading profile bytes) → Gives file_of r (reading profile' bytes')
given_answer profile profile' bytes bytes' r p b is =
    subst (λ x. Gives file_of r (reading profile' x)) b (subst (λ x. Gives file_of r (reading x bytes)) p is)
