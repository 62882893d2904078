-- What reading what a run is given does to the files.
use Rattle.std.specs.Prelude.{◌≡◌, ◌≤◌, ℕ, List, Option, Result, Ok, Err}
use Rattle.outside.specs.Faults.{Rose}
use Rattle.outside.specs.Reads.{Source}
use Rattle.run_input.specs.declared.fault.InputFault.{InputFault}
use Rattle.run_input.specs.declared.fault.InputFault.TheVariants.{Memory, Unread, Refused}
use Rattle.run_input.specs.declared.name.FileName.{FileName}
use Rattle.run_input.specs.declared.name.FileName.TheVariants.{Word, InJob}

-- the bytes of a name
abbrev pub name_text : FileName → List ℕ
name_text (Word word) = word.now
name_text (InJob text) = text

-- the answer is a read that failed
abbrev pub IsUnread : {T : Type 0} → Result T InputFault → Type 0
IsUnread (Ok x) = ⊥
IsUnread (Err Memory) = ⊥
IsUnread (Err (Unread name)) = Unit {0}
IsUnread (Err (Refused name fault)) = ⊥

-- memory ran out, or the file of this name could not be read
abbrev pub IsUnreadOf : List ℕ → InputFault → Type 0
IsUnreadOf file Memory = Unit {0}
IsUnreadOf file (Unread name) = name_text name ≡ file
IsUnreadOf file (Refused name fault) = ⊥

-- the count rose of the file that the answer names as unread
abbrev pub RoseAt : {T : Type 0} → (List ℕ → ℕ) → (List ℕ → ℕ) → Result T InputFault → Type 0
RoseAt before after (Ok x) = Unit {0}
RoseAt before after (Err Memory) = Unit {0}
RoseAt before after (Err (Unread name)) = Rose (before (name_text name)) (after (name_text name))
RoseAt before after (Err (Refused name fault)) = Unit {0}

-- Between `old` and `new` files were read. The files stay, and no count of faults falls. An answer that is unread says
-- that the count of the name rose, and else all counts are as before.
pub record ReadsMany {F T : Type 0} (told : F → Option Source) (faults : F → List ℕ → ℕ) (old new : F)
    (answer : Result T InputFault) : Type 0 where
  pub same_files : told new ≡ told old
  pub never_falls : (name : List ℕ) → faults old name ≤ faults new name
  pub fault : RoseAt (faults old) (faults new) answer
  pub no_fault : (IsUnread answer → ⊥) → (name : List ℕ) → faults new name ≡ faults old name
