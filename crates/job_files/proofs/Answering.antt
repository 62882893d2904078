-- What is answered for the next file, by where its text comes from.
use Rattle.std.proofs.Common.{◌≡◌, ℕ, List, length, get_or, map, Option, Some, Result, Ok, Err, refl, sym, ap, ◌∙◌, subst, arith}
use Rattle.std.specs.Borrow.{Bor}
use Rattle.std.proofs.lemmas.List.{length-map}
use Rattle.std.proofs.Math.ListN.{get_or-map}
use Rattle.outside.specs.Reads.{Reads, Source}
use Rattle.mm_text.specs.declared.fault.MmFault.{MmFault}
use Rattle.mm_text.specs.declared.fault.MmFault.TheVariants.{NoMem, ReadFault}
use Rattle.mm_text.specs.declared.file_data.FileData.{FileData}
use Rattle.mm_text.specs.Outcomes.{Gives}
use Rattle.mm_text.specs.Reading.{File, IsFile, file_of, reading}
use Rattle.job_files.specs.declared.fault.FilesFault.{FilesFault}
use Rattle.job_files.specs.declared.held.HeldText.{HeldText}
use Rattle.job_files.specs.declared.wanted.WantedFile.{WantedFile}
use Rattle.job_files.specs.Places.{place_from}
use Rattle.job_files.specs.Steps.{AnswersNext, Extends, GivesNamed, GivesNext, NamesNext, ReadsMany, fault_at}
use Rattle.job_files.specs.Wanted.{Wanted, profile_for, seen, wanted_as}
use Rattle.job_files.proofs.Places.{placed_at}
use Rattle.job_files.proofs.Sources.{answers-again}

-- the text was read before
pub answers-placed : (told : Option Source) (held : List HeldText) (earlier : List WantedFile) (files : List FileData) (room : ℕ) (w : Wanted)
    (r : Result FileData MmFault) (k : ℕ) (v : WantedFile) (file : FileData) → place_from 0 w.name earlier ≡ Some k → length files ≡ length earlier
    → file ≡ get_or files k file
    → ((old : ℕ) (text : List ℕ) → IsFile (profile_for old (get_or earlier k v).kind) text (file_of file) → Gives file_of r (reading (profile_for room w.kind) text))
    → AnswersNext told held (seen earlier) (map file_of files) room w r
answers-placed told held earlier files room w r k v file place many file-is again =
    let p = placed_at w.name earlier k place in
    let d = wanted_as v.kind v.name.now in
    let at : get_or (seen earlier) k d ≡ wanted_as (get_or earlier k v).kind (get_or earlier k v).name.now = get_or-map (λ (x : WantedFile). wanted_as x.kind x.name.now) earlier k v in
    let read : get_or (map file_of files) k (file_of file) ≡ file_of file = get_or-map file_of files k file ∙ ap file_of (sym file-is) in
    answers-again told held (seen earlier) (map file_of files) room w r k d (file_of file)
    (omega (arith, p.0, many, length-map earlier (λ (x : WantedFile). wanted_as x.kind x.name.now), length-map files file_of))
    (p.1 d)
    (subst (λ (x : Wanted). (old : ℕ) (text : List ℕ) → IsFile (profile_for old x.kind) text (get_or (map file_of files) k (file_of file)) → Gives file_of r (reading (profile_for room w.kind) text)) (sym at)
    (subst (λ (x : File). (old : ℕ) (text : List ℕ) → IsFile (profile_for old (get_or earlier k v).kind) text x → Gives file_of r (reading (profile_for room w.kind) text)) (sym read) again))

-- the fault with its name
extends-weaker : (told : Option Source) (held : List HeldText) (ws : List Wanted) (before : Source) (P Q : Source → Type 0) → ((source : Source) → P source → Q source)
    → Extends told held ws before P → Extends told held ws before Q
extends-weaker told held ws before P Q f e = record { source = e.source; agrees = e.agrees; gives = e.gives; same = e.same; passes = f e.source e.passes }

named_fault : (source : Source) (room : ℕ) (w : Wanted) (name : Bor (List ℕ)) (fault : MmFault) → name.now ≡ w.name
    → GivesNext source room w (Err fault) → GivesNamed source room w (Err (fault_at name fault))
named_fault source room w name ReadFault same h = same
named_fault source room w name NoMem same h = tt
named_fault source room w name fault same h = (same, h tt)

pub names-fault : (told : Option Source) (held : List HeldText) (ws : List Wanted) (files : List File) (room : ℕ) (w : Wanted) (name : Bor (List ℕ)) (fault : MmFault) (found : FilesFault)
    → name.now ≡ w.name → found ≡ fault_at name fault → AnswersNext told held ws files room w (Err fault) → NamesNext told held ws files room w (Err found)
names-fault told held ws files room w name fault found same is answers before agrees gives read =
    subst (λ (f : FilesFault). Extends told held ws before (λ source. GivesNamed source room w (Err f))) (sym is)
    (extends-weaker told held ws before _ _ (λ source h. named_fault source room w name fault same h) (answers before agrees gives read))

names-found : (source : Source) (room : ℕ) (w : Wanted) (found : FileData) → GivesNext source room w (Ok found) → GivesNamed source room w (Ok found)
names-found source room w found h = h

-- what the read of a file did to the files, said of the answer with its name
module _ {F : Type 0} (told : F → Option Source) (faults : F → List ℕ → ℕ) (old new : F) (name : Bor (List ℕ)) where
  pub many-found : (found : FileData) → (let r : Result FileData MmFault = Ok found in Reads told faults old new name.now (r ≡ Err ReadFault))
      → (let r : Result FileData FilesFault = Ok found in ReadsMany told faults old new r)
  many-found found reads = record {
    same_files = reads.same_files;
    never_falls = reads.never_falls;
    fault = tt;
    no_fault = λ _. reads.no_fault (λ e. let r : Result FileData MmFault = Ok found in let h : r ≡ Err ReadFault = e in cc);
  }

  pub many-fault : (fault : MmFault) → (let r : Result FileData MmFault = Err fault in Reads told faults old new name.now (r ≡ Err ReadFault))
      → (let r : Result FileData FilesFault = Err (fault_at name fault) in ReadsMany told faults old new r)
  many-fault ReadFault reads = record {
    same_files = reads.same_files;
    never_falls = reads.never_falls;
    fault = reads.fault refl;
    no_fault = λ h. absurd (h tt);
  }
  many-fault NoMem reads = record {
    same_files = reads.same_files;
    never_falls = reads.never_falls;
    fault = tt;
    no_fault = λ _. reads.no_fault (λ e. let r : Result FileData MmFault = Err NoMem in let h : r ≡ Err ReadFault = e in cc);
  }
  many-fault fault reads = record {
    same_files = reads.same_files;
    never_falls = reads.never_falls;
    fault = tt;
    no_fault = λ _. reads.no_fault (λ e. let r : Result FileData MmFault = Err fault in let h : r ≡ Err ReadFault = e in cc);
  }
