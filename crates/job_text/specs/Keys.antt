-- The values of the keys of a table, and their faults: first whether a key stands that must, then the kind of its value, then
-- its range, then its name.
use Rattle.std.specs.Prelude.{◌&&◌, ◌==◌, ◌+◌, ℕ, ℤ, pos, negsuc, Bool, List, [], ◌∷◌, ◌++◌, Option, Some, None, Ok, Err, codes, length, sum, nat_le, if◌then◌else◌}
use Rattle.std.specs.List.{concat}
use Rattle.combine_modes.specs.declared.mode.Mode.{Mode}
use Rattle.toml.specs.Data.{Data, Items, no_items, item, Members, as_array, as_bool, as_integer, as_str, get_member}
use Rattle.model_defs.specs.Naming.{is_name}
use Rattle.job_text.specs.declared.fault.JobFault.{JobFault}
use Rattle.job_text.specs.declared.fault.JobFault.TheVariants.{Missing, WrongKind, UnknownKey, UnknownName, Limit, NameTaken}
use Rattle.job_text.specs.declared.place.Place.{Place}
use Rattle.job_text.specs.declared.words.Form.{Form}
use Rattle.job_text.specs.Outcomes.{Outcome, ◌>>=◌, or_fault}
use Rattle.job_text.specs.Names.{Text, key_name, unknown_in}
use Rattle.job_text.specs.Known.{Known, is_taken, map_number, value_number}
use Rattle.job_text.specs.Words.{mode_named}

-- no key stands that the form does not have
abbrev pub without : (Text → JobFault) → Option Text → Outcome (Unit {0})
without fault None = Ok tt
without fault (Some key) = Err (fault key)

abbrev pub only_keys : Place → Form → Members → Outcome (Unit {0})
only_keys at form table = without (λ key. UnknownKey (key_name at key)) (unknown_in form table)

-- the value of a key that must stand, and what is read of one that may be missing
abbrev pub required : Place → Members → Text → Outcome Data
required at table key = or_fault (Missing (key_name at key)) (get_member key table)

abbrev pub given_or : {A : Type 0} → A → (Data → Outcome A) → Option Data → Outcome A
given_or default read None = Ok default
given_or default read (Some d) = read d

module _ (at : Place) (key : Text) where
  abbrev pub wrong_kind : JobFault
  wrong_kind = WrongKind (key_name at key)

  abbrev pub limit : JobFault
  limit = Limit (key_name at key)

  abbrev pub integer_of : Data → Outcome ℤ
  integer_of d = or_fault wrong_kind (as_integer d)

  abbrev pub text_of : Data → Outcome Text
  text_of d = or_fault wrong_kind (as_str d)

  abbrev pub flag_of : Data → Outcome Bool
  flag_of d = or_fault wrong_kind (as_bool d)

  abbrev pub array_of : Data → Outcome Items
  array_of d = or_fault wrong_kind (as_array d)

  abbrev pub number_within : (low high : ℕ) → ℤ → Outcome ℕ
  number_within low high (pos n) = if nat_le low n && nat_le n high then Ok n else Err limit
  number_within low high (negsuc n) = Err limit

  abbrev pub number_of : (low high : ℕ) → Data → Outcome ℕ
  number_of low high d = integer_of d >>= number_within low high

  -- a name, and the name of a file
  abbrev pub named : Text → Outcome Text
  named text = if is_name text then Ok text else Err wrong_kind

  abbrev pub name_of : Data → Outcome Text
  name_of d = text_of d >>= named

  abbrev pub not_empty : Text → Outcome Text
  not_empty text = if nat_le 1 (length text) then Ok text else Err wrong_kind

  abbrev pub file_of : Data → Outcome Text
  file_of d = text_of d >>= not_empty

  abbrev pub mode_of : Data → Outcome Mode
  mode_of d = text_of d >>= λ word. or_fault wrong_kind (mode_named word)

-- maps and values by their names
abbrev pub free_name : Known → Text → Outcome Text
free_name known name = if is_taken known name then Err (NameTaken name) else Ok name

abbrev pub map_named : Known → Text → Outcome ℕ
map_named known name = or_fault (UnknownName name) (map_number known name)

abbrev pub value_named : Known → Text → Outcome ℕ
value_named known name = or_fault (UnknownName name) (value_number known name)

-- The keys of a table.
module _ (at : Place) (table : Members) where
  abbrev pub integer_at : Text → Outcome ℤ
  integer_at key = required at table key >>= integer_of at key

  abbrev pub number_at : Text → (low high : ℕ) → Outcome ℕ
  number_at key low high = required at table key >>= number_of at key low high

  abbrev pub name_at : Text → Outcome Text
  name_at key = required at table key >>= name_of at key

  abbrev pub file_at : Text → Outcome Text
  file_at key = required at table key >>= file_of at key

  abbrev pub mode_at : Text → Outcome Mode
  mode_at key = required at table key >>= mode_of at key

  abbrev pub new_name_at : Known → Outcome Text
  new_name_at known = name_at (codes "name") >>= free_name known

  abbrev pub map_at : Text → Known → Outcome ℕ
  map_at key known = name_at key >>= map_named known

  abbrev pub value_at : Text → Known → Outcome ℕ
  value_at key known = name_at key >>= value_named known

  abbrev pub integer_or : Text → ℤ → Outcome ℤ
  integer_or key default = given_or default (integer_of at key) (get_member key table)

  abbrev pub number_or : Text → ℕ → (low high : ℕ) → Outcome ℕ
  number_or key default low high = given_or default (number_of at key low high) (get_member key table)

  abbrev pub flag_or : Text → Bool → Outcome Bool
  flag_or key default = given_or default (flag_of at key) (get_member key table)

  abbrev pub mode_or : Text → Mode → Outcome Mode
  mode_or key default = given_or default (mode_of at key) (get_member key table)

  abbrev pub value_or_none : Text → Known → Outcome (Option ℕ)
  value_or_none key known = given_or None (λ d. name_of at key d >>= λ name. value_named known name >>= λ v. Ok (Some v)) (get_member key table)
