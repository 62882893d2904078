-- What a call that reads a file does to the files, and the sources that agree with what files tell.
use Rattle.std.specs.Prelude.{◌≡◌, ◌≤◌, ℕ, List, Option, None, Some}
use Rattle.outside.specs.Faults.{Rose}

-- the bytes of each name that has a file
abbrev pub Source : Type 0
Source = List ℕ → Option (List ℕ)

-- the source is the one that files tell; where they tell none, it may be any
abbrev pub AgreesWith : Option Source → Source → Type 0
AgreesWith None source = Unit {0}
AgreesWith (Some told) source = source ≡ told

-- Between `old` and `new` the file of this name was read. The files stay, and no count of faults falls. `Failed` says that
-- the answer is a fault of a read: then the count of the name rose, and else all counts are as before.
pub record Reads {F : Type 0} (told : F → Option Source) (faults : F → List ℕ → ℕ) (old new : F) (name : List ℕ)
    (Failed : Type 0) : Type 0 where
  pub same_files : told new ≡ told old
  pub never_falls : (n : List ℕ) → faults old n ≤ faults new n
  pub fault : Failed → Rose (faults old name) (faults new name)
  pub no_fault : (Failed → ⊥) → (n : List ℕ) → faults new n ≡ faults old n

-- Some source that agrees with what files tell has a text of this name with the property `P`.
pub record HasText (told : Option Source) (name : List ℕ) (P : List ℕ → Type 0) : Type 0 where
  pub source : Source
  pub agrees : AgreesWith told source
  pub text : List ℕ
  pub named : source name ≡ Some text
  pub holds : P text
