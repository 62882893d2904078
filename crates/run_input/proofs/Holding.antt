-- Texts that are held while the files of the job are read.
use Rattle.std.proofs.Common.{◌≡◌, ◌<◌, ℕ, cond, zero, suc, List, [], ◌∷◌, get_or, length, Option, None, Some, Result, Ok, Err, refl, sym, ap, ◌∙◌, subst, arith}
use Rattle.std.specs.Global.{Global}
use Rattle.std.specs.Prelude.{Vec}
use Rattle.std.proofs.lemmas.Bool.{false_from_ne_true}
use Rattle.std.proofs.lemmas.List.{length-map}
use Rattle.std.proofs.lemmas.Slice.Eq.{bytes_eq-Decides}
use Rattle.outside.specs.Reads.{HasText, Source}
use Rattle.mm_text.specs.declared.file_data.FileData.{FileData}
use Rattle.mm_text.specs.Reading.{File, file_of}
use Rattle.model_defs.specs.declared.job.Job.{Job}
use Rattle.model_defs.specs.Fitting.{file_total, first_unfit}
use Rattle.job_files.specs.declared.fault.FilesFault.{FilesFault}
use Rattle.job_files.specs.declared.fault.FilesFault.TheVariants as files
use Rattle.job_files.specs.declared.held.HeldText.{HeldText}
use Rattle.job_files.specs.Held.{GivesHeld, SomeSource as SomeHeldSource, TellsHeld, held_text}
use Rattle.job_files.specs.Steps.{GivesFiles, ReadsMany as ReadsFiles}
use Rattle.job_files.specs.Walk.{file_names_read, most_entries}
use Rattle.job_files.proofs.Expecting.{files-are_sound}
use Rattle.job_files.proofs.Holding.{read_texts-can_be_held}
use Rattle.job_files.proofs.Walked.{walked-none}
use Rattle.run_input.specs.declared.fault.InputFault.{InputFault}
use Rattle.run_input.specs.declared.fault.InputFault.TheVariants.{Memory}
use Rattle.run_input.specs.declared.texts.ReadText.{ReadText}
use Rattle.run_input.specs.declared.texts.Texts.{Texts}
use Rattle.run_input.specs.Answering.{Answers, Stops, found_files}
use Rattle.run_input.specs.Faults.{files_fault_at}
use Rattle.run_input.specs.Reading.{ReadsMany}
use Rattle.run_input.specs.Sources.{SomeSource}
use Rattle.run_input.specs.Texts.{GivesText, GivesTextIfRead, GivesTexts, IsApart, TellsText, TellsTextIfRead}
use Rattle.run_input.specs.Walk.{Stop, ◌>>=◌, files_at, files_or_stop, fitting_files_at, sizes_compared}
use Rattle.run_input.proofs.Stopping.{stops-quiet, stops-same, stops-then}
use Rattle.run_input.proofs.Walking.{files-read}

-- ---- what the reader of the files answers, with names that are owned

pub files-stop : (source : Source) (job : Job) (fault : FilesFault) → GivesFiles source job (Err fault)
    → Stops (file_names_read job source) (files_at source job) (files_fault_at fault)
files-stop source job files.Memory h = tt
files-stop source job (files.Unread name) h = h
files-stop source job (files.Refused name fault) h = ap files_or_stop h

module _ (told : Option Source) (held : List HeldText) (job : Job) where
  pub held-memory : TellsHeld told held
      → SomeHeldSource told held (λ source. let r : Result (Vec FileData Global) InputFault = Err Memory in Answers found_files (file_names_read job source) (files_at source job) r)
  held-memory tells = let w = walked-none told held most_entries tells in record { source = w.source; agrees = w.agrees; gives = w.gives; passes = tt }

  pub held-found : (found : Vec FileData Global) → SomeHeldSource told held (λ source. GivesFiles source job (Ok found))
      → SomeHeldSource told held (λ source. Answers found_files (file_names_read job source) (files_at source job) (Ok found))
  held-found found some = record { source = some.source; agrees = some.agrees; gives = some.gives; passes = ap files_or_stop some.passes }

  pub held-stops : (fault : FilesFault) → SomeHeldSource told held (λ source. GivesFiles source job (Err fault))
      → SomeHeldSource told held (λ source. let r : Result (Vec FileData Global) InputFault = Err (files_fault_at fault) in Answers found_files (file_names_read job source) (files_at source job) r)
  held-stops fault some = record { source = some.source; agrees = some.agrees; gives = some.gives; passes = files-stop some.source job fault some.passes }

-- what was done to the files
module _ {F : Type 0} (told : F → Option Source) (faults : F → List ℕ → ℕ) (old new : F) where
  pub reads-found : (found : Vec FileData Global) → (let r : Result (Vec FileData Global) FilesFault = Ok found in ReadsFiles told faults old new r)
      → (let r : Result (Vec FileData Global) InputFault = Ok found in ReadsMany told faults old new r)
  reads-found found reads = record { same_files = reads.same_files; never_falls = reads.never_falls; fault = tt; no_fault = reads.no_fault }

  pub reads-stop : (fault : FilesFault) → (let r : Result (Vec FileData Global) FilesFault = Err fault in ReadsFiles told faults old new r)
      → (let r : Result (Vec FileData Global) InputFault = Err (files_fault_at fault) in ReadsMany told faults old new r)
  reads-stop files.Memory reads = record { same_files = reads.same_files; never_falls = reads.never_falls; fault = tt; no_fault = reads.no_fault }
  reads-stop (files.Unread name) reads = record { same_files = reads.same_files; never_falls = reads.never_falls; fault = reads.fault; no_fault = reads.no_fault }
  reads-stop (files.Refused name fault) reads = record { same_files = reads.same_files; never_falls = reads.never_falls; fault = tt; no_fault = reads.no_fault }

-- ---- the texts that are held

-- a held text is the one that was read
record Holds (h : HeldText) (t : ReadText) : Type 0 where
  pub name : h.name.now ≡ t.name.now
  pub bytes : h.text.now ≡ t.bytes.items

told-held : (told : Option Source) (h : HeldText) (t : ReadText) → Holds h t → TellsText told t → HasText told h.name.now (λ text. text ≡ h.text.now)
told-held told h t same has = record {
  source = has.source;
  agrees = has.agrees;
  text = has.text;
  named = ap has.source same.name ∙ has.named;
  holds = has.holds ∙ sym same.bytes;
}

module _ (told : Option Source) (h : HeldText) (t : ReadText) (name : h.name.now ≡ t.name.now) (bytes : h.text.now ≡ t.bytes.items) where
  holds-job : Holds h t
  holds-job = record { name = name; bytes = bytes }

  pub tells-one : TellsText told t → TellsHeld told (h ∷ [])
  tells-one has = read_texts-can_be_held told (h ∷ []) all
    where
      all : (k : ℕ) (d : HeldText) → k < 1 → HasText told (get_or (h ∷ []) k d).name.now (λ text. text ≡ (get_or (h ∷ []) k d).text.now)
      all zero d l = told-held told h t holds-job has
      all (suc k) d l = absurd (omega (arith, l))

  pub gives-one : (source : Source) → GivesHeld (h ∷ []) source → GivesText source t
  gives-one source gives =
      ap source (sym name)
      ∙ gives h.name.now h.text.now (ap (λ b. cond b (Some h.text.now) None) ((bytes_eq-Decides h.name.now h.name.now).1 refl))
      ∙ ap Some bytes

  module _ (h2 : HeldText) (t2 : ReadText) (name2 : h2.name.now ≡ t2.name.now) (bytes2 : h2.text.now ≡ t2.bytes.items) where
    pub tells-two : TellsText told t → TellsText told t2 → TellsHeld told (h ∷ h2 ∷ [])
    tells-two has has2 = read_texts-can_be_held told (h ∷ h2 ∷ []) all
      where
        all : (k : ℕ) (d : HeldText) → k < 2 → HasText told (get_or (h ∷ h2 ∷ []) k d).name.now (λ text. text ≡ (get_or (h ∷ h2 ∷ []) k d).text.now)
        all zero d l = told-held told h t holds-job has
        all (suc zero) d l = told-held told h2 t2 (record { name = name2; bytes = bytes2 }) has2
        all (suc (suc k)) d l = absurd (omega (arith, l))

    pub gives-two : (source : Source) → (t2.name.now ≡ t.name.now → ⊥) → GivesHeld (h ∷ h2 ∷ []) source → GivesText source t × GivesText source t2
    gives-two source apart gives = (
      ap source (sym name)
          ∙ gives h.name.now h.text.now (ap (λ b. cond b (Some h.text.now) (held_text (h2 ∷ []) h.name.now)) ((bytes_eq-Decides h.name.now h.name.now).1 refl))
          ∙ ap Some bytes,
      ap source (sym name2)
          ∙ gives h2.name.now h2.text.now
          (ap (λ b. cond b (Some h.text.now) (held_text (h2 ∷ []) h2.name.now)) (false_from_ne_true _ (λ e. apart (sym name2 ∙ sym ((bytes_eq-Decides h.name.now h2.name.now).0 e) ∙ name)))
          ∙ ap (λ b. cond b (Some h2.text.now) None) ((bytes_eq-Decides h2.name.now h2.name.now).1 refl))
          ∙ ap Some bytes2,
    )

-- ---- the texts that some source has

if-read : (source : Source) (o : Option ReadText) (t : ReadText) → o ≡ Some t → GivesText source t → GivesTextIfRead source o
if-read source (Some other) t e h = let same : other ≡ t = cc in subst (GivesText source) (sym same) h
if-read source None t e h = tt

pub some-one : (told : Option Source) (held : List HeldText) (texts : Texts) (Q : Source → Type 0) → texts.schedule ≡ None
    → ((source : Source) → GivesHeld held source → GivesText source texts.job_text) → SomeHeldSource told held Q → SomeSource told (λ source. GivesTexts source texts × Q source)
some-one told held texts Q none gives some = record {
  source = some.source;
  agrees = some.agrees;
  passes = ((gives some.source some.gives, subst (GivesTextIfRead some.source) (sym none) tt), some.passes);
}

pub some-two : (told : Option Source) (held : List HeldText) (texts : Texts) (t : ReadText) (Q : Source → Type 0) → texts.schedule ≡ Some t
    → ((source : Source) → GivesHeld held source → GivesText source texts.job_text × GivesText source t) → SomeHeldSource told held Q
    → SomeSource told (λ source. GivesTexts source texts × Q source)
some-two told held texts t Q is gives some =
    let both = gives some.source some.gives in record {
      source = some.source;
      agrees = some.agrees;
      passes = ((both.0, if-read some.source texts.schedule t is both.1), some.passes);
    }

pub apart-read : (job : ReadText) (o : Option ReadText) (t : ReadText) → o ≡ Some t → IsApart job o → t.name.now ≡ job.name.now → ⊥
apart-read job (Some other) t e apart same = let is : other ≡ t = cc in apart (ap (λ (r : ReadText). r.name.now) is ∙ same)
apart-read job None t e apart same = absurd (cc)

pub tells-read : (told : Option Source) (o : Option ReadText) (t : ReadText) → o ≡ Some t → TellsTextIfRead told o → TellsText told t
tells-read told (Some other) t e has = let is : other ≡ t = cc in subst (TellsText told) is has
tells-read told None t e has = absurd (cc)

-- ---- the files that were found

pub found-count : (told : Option Source) (texts : Texts) (found : Vec FileData Global)
    → SomeSource told (λ source. GivesTexts source texts × Answers found_files (file_names_read texts.job source) (files_at source texts.job) (Ok found))
    → length found.items ≡ file_total texts.job
found-count told texts found some =
    sym (length-map found.items file_of) ∙ (files-are_sound texts.job some.source (found_files found) (files-read some.source texts.job (found_files found) some.passes.1)).0

-- the sizes were compared
module _ (told : Option Source) (texts : Texts) (name : List ℕ) (found : Vec FileData Global)
    (some : SomeSource told (λ source. GivesTexts source texts × Answers found_files (file_names_read texts.job source) (files_at source texts.job) (Ok found))) where
  compared : (source : Source) → files_at source texts.job ≡ Ok (found_files found)
      → fitting_files_at source name texts.job ≡ (sizes_compared name texts.job (first_unfit texts.job (found_files found)) >>= (λ sizes. Ok (found_files found)))
  compared source e = ap (λ (r : Result (List File) Stop). r >>= (λ files. sizes_compared name texts.job (first_unfit texts.job files) >>= (λ sizes. Ok files))) e

  pub found-fitting : (x : Unit {0}) → sizes_compared name texts.job (first_unfit texts.job (found_files found)) ≡ Ok x
      → SomeSource told (λ source. GivesTexts source texts × Answers found_files (file_names_read texts.job source) (fitting_files_at source name texts.job) (Ok found))
  found-fitting x fits = record {
    source = some.source;
    agrees = some.agrees;
    passes = (some.passes.0, compared some.source some.passes.1 ∙ ap (λ (r : Result (Unit {0}) Stop). r >>= (λ sizes. Ok (found_files found))) fits);
  }

  pub found-misfits : (fault : InputFault) → Stops [] (sizes_compared name texts.job (first_unfit texts.job (found_files found))) fault
      → SomeSource told (λ source. let r : Result (Vec FileData Global) InputFault = Err fault in GivesTexts source texts × Answers found_files (file_names_read texts.job source) (fitting_files_at source name texts.job) r)
  found-misfits fault stops = record {
    source = some.source;
    agrees = some.agrees;
    passes = (
      some.passes.0,
      stops-same (file_names_read texts.job some.source) _ (fitting_files_at some.source name texts.job) fault (sym (compared some.source some.passes.1))
          (stops-then (file_names_read texts.job some.source) (sizes_compared name texts.job (first_unfit texts.job (found_files found))) (λ sizes. Ok (found_files found)) fault
          (stops-quiet (file_names_read texts.job some.source) (sizes_compared name texts.job (first_unfit texts.job (found_files found))) fault stops)),
    );
  }

-- a file stops it, before the sizes are compared
pub found-stops : (told : Option Source) (texts : Texts) (name : List ℕ) (fault : InputFault)
    → SomeSource told (λ source. let r : Result (Vec FileData Global) InputFault = Err fault in GivesTexts source texts × Answers found_files (file_names_read texts.job source) (files_at source texts.job) r)
    → SomeSource told (λ source. let r : Result (Vec FileData Global) InputFault = Err fault in GivesTexts source texts × Answers found_files (file_names_read texts.job source) (fitting_files_at source name texts.job) r)
found-stops told texts name fault some = record {
  source = some.source;
  agrees = some.agrees;
  passes = (some.passes.0, stops-then (file_names_read texts.job some.source) (files_at some.source texts.job) _ fault some.passes.1);
}
