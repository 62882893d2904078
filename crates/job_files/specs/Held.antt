-- Texts that the caller holds, and the sources that have them.
use Rattle.std.specs.Prelude.{◌≡◌, ℕ, List, [], ◌∷◌, Option, None, Some, if◌then◌else◌}
use Rattle.std.specs.Str.{bytes_eq}
use Rattle.outside.specs.Reads.{AgreesWith, Source}
use Rattle.job_files.specs.declared.held.HeldText.{HeldText}

-- the text that is held under a name: the first one of this name
abbrev pub held_text : List HeldText → Source
held_text [] name = None
held_text (h ∷ hs) name = if bytes_eq h.name.now name then Some h.text.now else held_text hs name

-- the source gives each held name its held text
abbrev pub GivesHeld : List HeldText → Source → Type 0
GivesHeld held source = (name text : List ℕ) → held_text held name ≡ Some text → source name ≡ Some text

-- what files tell, if they do, agrees with the texts that are held
abbrev pub TellsHeld : Option Source → List HeldText → Type 0
TellsHeld told held = (source : Source) → told ≡ Some source → GivesHeld held source

-- Some source that agrees with what the files tell, and gives each held name its held text, passes. Where they tell what
-- they hold, it is that source.
pub record SomeSource (told : Option Source) (held : List HeldText) (P : Source → Type 0) : Type 0 where
  pub source : Source
  pub agrees : AgreesWith told source
  pub gives : GivesHeld held source
  pub passes : P source
