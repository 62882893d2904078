-- How far the files were read: over some source that agrees with what the files tell.
use Rattle.std.proofs.Common.{◌≡◌, ◌<◌, ◌≤◌, ◌+◌, ◌-◌, ℕ, List, [], ◌∷◌, ◌++◌, length, get_or, take, drop, map, Option, None, Some, Result, Ok, Err, refl, sym, ap, ◌∙◌, subst, arith}
use Rattle.std.proofs.lemmas.List.{map-append, take_more}
use Rattle.std.proofs.lemmas.Grind.{common_steps}
use Rattle.std.specs.Global.{Global}
use Rattle.std.specs.Prelude.{Vec}
use Rattle.outside.specs.Faults.{Rose}
use Rattle.outside.specs.Reads.{AgreesWith, Source}
use Rattle.mm_text.specs.declared.file_data.FileData.{FileData}
use Rattle.mm_text.specs.Reading.{File, file_of}
use Rattle.job_files.specs.declared.fault.FilesFault.{FilesFault}
use Rattle.job_files.specs.declared.fault.FilesFault.TheVariants.{Memory, Unread, Refused}
use Rattle.job_files.specs.declared.held.HeldText.{HeldText}
use Rattle.job_files.specs.declared.wanted.FileKind.TheVariants.{Array}
use Rattle.job_files.specs.declared.wanted.WantedFile.{WantedFile}
use Rattle.job_files.specs.Held.{GivesHeld, SomeSource, TellsHeld, held_text}
use Rattle.job_files.specs.Steps.{Extends, GivesNamed, GivesWithin, NamesNext, ReadsMany}
use Rattle.job_files.specs.Walk.{file_read, files_within, names_within, refused}
use Rattle.job_files.specs.Wanted.{Wanted, seen, wanted_as}
use Rattle.job_files.proofs.Walking.{are_read, ends_there, next_is_read, one_more, room_after, room_after-push, same_walk}

-- the first wanted files were read, and are these
pub record IsWalked (told : Option Source) (held : List HeldText) (start : ℕ) (ws : List Wanted) (files : List File) : Type 0 where
  pub source : Source
  pub agrees : AgreesWith told source
  pub gives : GivesHeld held source
  pub passes : files_within source start ws ≡ Ok files

-- none of them
pub walked-none : (told : Option Source) (held : List HeldText) (start : ℕ) → TellsHeld told held → IsWalked told held start [] []
walked-none None held start tells = record { source = held_text held; agrees = tt; gives = λ name text h. h; passes = refl }
walked-none (Some source) held start tells = record { source = source; agrees = refl; gives = tells source refl; passes = refl }

module _ (told : Option Source) (held : List HeldText) (start : ℕ) (ws : List Wanted) (files : List File) (w : Wanted) where
  -- the walk of the first files is that of the source before
  kept : (before : Source) (P : Source → Type 0) (e : Extends told held ws before P) → files_within before start ws ≡ Ok files → files_within e.source start ws ≡ Ok files
  kept before P e h = same_walk e.source before ws start e.same ∙ h

  -- one more
  pub walked-more : (room : ℕ) (found : FileData) → IsWalked told held start ws files → room ≡ room_after start files
      → NamesNext told held ws files room w (Ok found) → IsWalked told held start (ws ++ w ∷ []) (files ++ file_of found ∷ [])
  walked-more room found walked is next =
      let e = next walked.source walked.agrees walked.gives (are_read walked.source ws start files walked.passes) in
      record {
        source = e.source;
        agrees = e.agrees;
        gives = e.gives;
        passes = one_more e.source ws w start files (file_of found) (kept walked.source _ e walked.passes)
            (subst (λ n. file_read e.source n w ≡ Ok (file_of found)) is e.passes);
      }

  ended : (source : Source) (vs : List Wanted) (fault : FilesFault) → files_within source start ws ≡ Ok files
      → GivesNamed source (room_after start files) w (Err fault) → GivesWithin source start (ws ++ w ∷ vs) (Err fault)
  ended source vs Memory before h = tt
  ended source vs (Unread name) before h =
      subst (λ (n : List ℕ). (i : ℕ) × ((i < length (names_within source start (ws ++ w ∷ vs))) × (n ≡ get_or (names_within source start (ws ++ w ∷ vs)) i n))) (sym h)
      (next_is_read source ws w vs start files before)
  ended source vs (Refused name fault) before h =
      ends_there source ws w vs start files (refused w.name fault) before h.1
      ∙ ap (λ (n : List ℕ). Err (refused n fault)) (sym h.0)

  -- the next one was not read
  pub walked-ended : (room : ℕ) (vs : List Wanted) (fault : FilesFault) → IsWalked told held start ws files → room ≡ room_after start files
      → NamesNext told held ws files room w (Err fault) → SomeSource told held (λ source. GivesWithin source start (ws ++ w ∷ vs) (Err fault))
  walked-ended room vs fault walked is next =
      let e = next walked.source walked.agrees walked.gives (are_read walked.source ws start files walked.passes) in
      record {
        source = e.source;
        agrees = e.agrees;
        gives = e.gives;
        passes = ended e.source vs fault (kept walked.source _ e walked.passes)
            (subst (λ n. GivesNamed e.source n w (Err fault)) is e.passes);
      }

-- the same, said of equal tellings and equal files
pub names-same : (told other : Option Source) (held : List HeldText) (ws : List Wanted) (files those : List FileData) (room : ℕ) (w : Wanted) (r : Result FileData FilesFault)
    → other ≡ told → those ≡ files → NamesNext other held ws (map file_of those) room w r → NamesNext told held ws (map file_of files) room w r
names-same told other held ws files those room w r same equal next =
    subst (λ (t : Option Source). NamesNext t held ws (map file_of files) room w r) same
    (subst (λ (fs : List FileData). NamesNext other held ws (map file_of fs) room w r) equal next)

-- all of them, or memory ran out
pub walked-all : (told : Option Source) (held : List HeldText) (start : ℕ) (ws : List Wanted) (found : Vec FileData Global)
    → IsWalked told held start ws (map file_of found.items) → SomeSource told held (λ source. GivesWithin source start ws (Ok found))
walked-all told held start ws found walked = record { source = walked.source; agrees = walked.agrees; gives = walked.gives; passes = walked.passes }

pub walked-memory : (told : Option Source) (held : List HeldText) (start : ℕ) (ws vs : List Wanted) (files : List File)
    → IsWalked told held start ws files → SomeSource told held (λ source. GivesWithin source start vs (Err Memory))
walked-memory told held start ws vs files walked = record { source = walked.source; agrees = walked.agrees; gives = walked.gives; passes = tt }

-- in place of a wanted file that is not there
abbrev pub nothing_wanted : WantedFile
nothing_wanted = record { name = record { ref_ptr = (0, 0); now = [] }; kind = Array }

-- the wanted files up to a place, at it and behind it
pub seen-more : (ws : List WantedFile) (at : ℕ) (d : WantedFile) → at < length ws
    → seen (take (at + 1) ws) ≡ seen (take at ws) ++ wanted_as (get_or ws at d).kind (get_or ws at d).name.now ∷ []
seen-more ws at d h =
    ap seen (take_more ws at d h) ∙ map-append (λ (x : WantedFile). wanted_as x.kind x.name.now) (take at ws) (get_or ws at d ∷ [])

pub seen-around : (ws : List WantedFile) (at : ℕ) (d : WantedFile) → at < length ws
    → seen ws ≡ seen (take at ws) ++ wanted_as (get_or ws at d).kind (get_or ws at d).name.now ∷ seen (drop (at + 1) ws)
seen-around ws at d h =
    ap seen (around ws at d h) ∙ map-append (λ (x : WantedFile). wanted_as x.kind x.name.now) (take at ws) (get_or ws at d ∷ drop (at + 1) ws)
  where
    around : (ws : List WantedFile) (at : ℕ) (d : WantedFile) → at < length ws → ws ≡ take at ws ++ get_or ws at d ∷ drop (at + 1) ws
    around ws at d h = grind (arith, common_steps)

-- what happened to the files, behind reads that changed nothing
module _ {F : Type 0} (told : F → Option Source) (faults : F → List ℕ → ℕ) (old mid new : F)
    (same : told mid ≡ told old) (counts : (name : List ℕ) → faults mid name ≡ faults old name) where
  still : (name : List ℕ) → faults mid name ≤ faults new name → faults old name ≤ faults new name
  still name h = omega (arith, counts name)

  pub many-after : (fault : FilesFault) → (let r : Result FileData FilesFault = Err fault in ReadsMany told faults mid new r)
      → (let r : Result (Vec FileData Global) FilesFault = Err fault in ReadsMany told faults old new r)
  many-after Memory reads = record {
    same_files = reads.same_files ∙ same;
    never_falls = λ name. still name (reads.never_falls name);
    fault = tt;
    no_fault = λ h name. reads.no_fault h name ∙ counts name;
  }
  many-after (Unread file) reads = record {
    same_files = reads.same_files ∙ same;
    never_falls = λ name. still name (reads.never_falls name);
    fault = subst (λ n. Rose n (faults new file.now)) (counts file.now) reads.fault;
    no_fault = λ h name. reads.no_fault h name ∙ counts name;
  }
  many-after (Refused file fault) reads = record {
    same_files = reads.same_files ∙ same;
    never_falls = λ name. still name (reads.never_falls name);
    fault = tt;
    no_fault = λ h name. reads.no_fault h name ∙ counts name;
  }

  -- behind a file that was read
  pub unchanged-after : (found : FileData) → (let r : Result FileData FilesFault = Ok found in ReadsMany told faults mid new r)
      → (told new ≡ told old) × ((name : List ℕ) → faults new name ≡ faults old name)
  unchanged-after found reads = (reads.same_files ∙ same, λ name. reads.no_fault (λ h. h) name ∙ counts name)

-- where all reads were made, nothing changed
module _ {F : Type 0} (told : F → Option Source) (faults : F → List ℕ → ℕ) (old new : F)
    (same : told new ≡ told old) (counts : (name : List ℕ) → faults new name ≡ faults old name) where
  pub many-all : (found : Vec FileData Global) → (let r : Result (Vec FileData Global) FilesFault = Ok found in ReadsMany told faults old new r)
  many-all found = record { same_files = same; never_falls = λ name. omega (arith, counts name); fault = tt; no_fault = λ h. counts }

  pub many-memory : (let r : Result (Vec FileData Global) FilesFault = Err Memory in ReadsMany told faults old new r)
  many-memory = record { same_files = same; never_falls = λ name. omega (arith, counts name); fault = tt; no_fault = λ h. counts }

-- one place further
pub walked-push : (told : Option Source) (held : List HeldText) (start : ℕ) (wanted : List WantedFile) (at : ℕ) (d : WantedFile) (files new : List FileData) (found : FileData) (room : ℕ)
    → at < length wanted → new ≡ files ++ found ∷ [] → IsWalked told held start (seen (take at wanted)) (map file_of files) → room ≡ room_after start (map file_of files)
    → NamesNext told held (seen (take at wanted)) (map file_of files) room (wanted_as (get_or wanted at d).kind (get_or wanted at d).name.now) (Ok found)
    → IsWalked told held start (seen (take (at + 1) wanted)) (map file_of new)
walked-push told held start wanted at d files new found room h pushed walked is next =
    subst (λ (ws : List Wanted). IsWalked told held start ws (map file_of new)) (sym (seen-more wanted at d h))
    (subst (λ (fs : List File). IsWalked told held start (seen (take at wanted) ++ wanted_as (get_or wanted at d).kind (get_or wanted at d).name.now ∷ []) fs)
    (sym (ap (map file_of) pushed ∙ map-append file_of files (found ∷ [])))
    (walked-more told held start (seen (take at wanted)) (map file_of files) (wanted_as (get_or wanted at d).kind (get_or wanted at d).name.now) room found walked is next))

pub room-push : (start : ℕ) (files new : List FileData) (found : FileData) (room left : ℕ) → new ≡ files ++ found ∷ [] → room ≡ room_after start (map file_of files)
    → left ≡ length found.lines.items → room - left ≡ room_after start (map file_of new)
room-push start files new found room left pushed is e =
    ap (λ n. n - left) is ∙ ap (λ n. room_after start (map file_of files) - n) e
    ∙ sym (room_after-push start (map file_of files) (file_of found))
    ∙ ap (room_after start) (sym (ap (map file_of) pushed ∙ map-append file_of files (found ∷ [])))

-- it ended there
pub walked-stop : (told : Option Source) (held : List HeldText) (start : ℕ) (wanted : List WantedFile) (at : ℕ) (d : WantedFile) (files : List FileData) (fault : FilesFault) (room : ℕ)
    → at < length wanted → IsWalked told held start (seen (take at wanted)) (map file_of files) → room ≡ room_after start (map file_of files)
    → NamesNext told held (seen (take at wanted)) (map file_of files) room (wanted_as (get_or wanted at d).kind (get_or wanted at d).name.now) (Err fault)
    → SomeSource told held (λ source. GivesWithin source start (seen wanted) (Err fault))
walked-stop told held start wanted at d files fault room h walked is next =
    subst (λ (ws : List Wanted). SomeSource told held (λ source. GivesWithin source start ws (Err fault))) (sym (seen-around wanted at d h))
    (walked-ended told held start (seen (take at wanted)) (map file_of files) (wanted_as (get_or wanted at d).kind (get_or wanted at d).name.now) room (seen (drop (at + 1) wanted)) fault walked is next)
