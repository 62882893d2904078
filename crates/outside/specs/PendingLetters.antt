-- A pending letter of a mail room is the one that was posted last under its name.
use Rattle.std.specs.Prelude.{◌≡◌, ℕ, Bool, true, false, if◌then◌else◌, List, Option, None, Some}
use Rattle.std.specs.Map.{lookup}
use Rattle.std.specs.Option.{option_map, option_and_then}
use Rattle.outside.specs.declared.name.Name.{Name}
use Rattle.outside.specs.Letters.{same_name}
use Rattle.outside.specs.MailRoom.{PostedLetter, pending_in, posted_in}

if_pending : (is_pending : Bool) (bytes letter : List ℕ) → (if is_pending then Some bytes else None) ≡ Some letter →
    Some bytes ≡ Some letter
if_pending true bytes letter e = e
if_pending false bytes letter e = absurd (cc)

looked_up : (found : Option PostedLetter) (letter : List ℕ) →
    option_and_then (λ (l : PostedLetter). if l.is_pending then Some l.bytes else None) found ≡ Some letter →
    option_map (λ (l : PostedLetter). l.bytes) found ≡ Some letter
looked_up None letter e = absurd (cc)
looked_up (Some l) letter e = if_pending l.is_pending l.bytes letter e

pub pending_in-posted_in : (letters : List (Name × PostedLetter)) (name : Name) (letter : List ℕ) →
    pending_in letters name ≡ Some letter → posted_in letters name ≡ Some letter
pending_in-posted_in letters name letter e = looked_up (lookup (same_name name) letters) letter e
