-- Files that are found by their names in an ordered map.
use Rattle.std.proofs.Common.{◌≡◌, ◌≢◌, ℕ, List, [], ◌∷◌, Bool, true, false, cond, Option, Some, refl, ap, map, String, Global, Vec, sym, ◌∙◌}
use Rattle.std.specs.BTreeMap.{BTreeMap, get_by_text, UpdatesBy}
use Rattle.std.specs.Map.{lookup}
use Rattle.std.specs.Option.{option_map}
use Rattle.std.specs.Ordering.{is_eq, nat_cmp}
use Rattle.std.specs.Cmp.Lexicographic.{slice_cmp}
use Rattle.std.specs.Str.{bytes_eq}
use Rattle.std.specs.String.{string_bytes, string_cmp}
use Rattle.std.proofs.lemmas.Bool.{false_from_ne_true}
use Rattle.std.proofs.lemmas.Slice.Eq.{bytes_eq-Decides}
use Rattle.std.proofs.lemmas.Map.Text.{is_eq-slice_cmp, btree_map_updates_text}
use Rattle.outside.specs.MemFiles.{file_of}

option_map-cond : (b : Bool) (v : Vec ℕ Global) (o : Option (Vec ℕ Global)) →
    cond b (Some v.items) (option_map (λ w. w.items) o) ≡ option_map (λ w. w.items) (cond b (Some v) o)
option_map-cond true v o = refl
option_map-cond false v o = refl

-- a file is found where the map has its name
pub file_of-map : (entries : List (String Global × Vec ℕ Global)) (name : List ℕ) →
    file_of (map (λ e. (string_bytes e.0, e.1.items)) entries) name
    ≡ option_map (λ v. v.items) (lookup (λ k. is_eq (slice_cmp nat_cmp name (string_bytes k))) entries)
file_of-map [] name = refl
file_of-map (e ∷ es) name =
    ap (λ o. cond (bytes_eq name (string_bytes e.0)) (Some e.1.items) o) (file_of-map es name)
    ∙ rw is_eq-slice_cmp (option_map-cond (bytes_eq name (string_bytes e.0)) e.1 _)

option_map-choice : (b : Bool) (v : Vec ℕ Global) (o : Option (Vec ℕ Global)) →
    option_map (λ w. w.items) (cond b (Some v) o) ≡ cond b (Some v.items) (option_map (λ w. w.items) o)
option_map-choice b v o = sym (option_map-cond b v o)

-- an insert puts the file with the key's bytes as its name, and no other
pub file_of-insert : (key : String Global) (value : Vec ℕ Global) (old new : BTreeMap (String Global) (Vec ℕ Global)) →
    UpdatesBy string_cmp (string_cmp key) old new (Some value) → (name : List ℕ) →
    file_of (map (λ e. (string_bytes e.0, e.1.items)) new.entries) name
    ≡ cond (bytes_eq (string_bytes key) name) (Some value.items) (file_of (map (λ e. (string_bytes e.0, e.1.items)) old.entries) name)
file_of-insert key value old new updates name =
    rw (file_of-map new.entries name, file_of-map old.entries name)
    (ap (option_map (λ v. v.items)) (btree_map_updates_text (string_bytes key) old new (Some value) updates name)
    ∙ option_map-choice (bytes_eq (string_bytes key) name) value (get_by_text old name))

-- the file of the key has the new bytes
pub file_of-insert_same : (key : String Global) (value : Vec ℕ Global) (old new : BTreeMap (String Global) (Vec ℕ Global)) →
    UpdatesBy string_cmp (string_cmp key) old new (Some value) → (name bytes : List ℕ) →
    string_bytes key ≡ name → value.items ≡ bytes →
    file_of (map (λ e. (string_bytes e.0, e.1.items)) new.entries) name ≡ Some bytes
file_of-insert_same key value old new updates name bytes named holds =
    let found : bytes_eq (string_bytes key) name ≡ true = (bytes_eq-Decides (string_bytes key) name).1 named in
    file_of-insert key value old new updates name ∙ rw (found, holds)

-- every other file stays
pub file_of-insert_other : (key : String Global) (value : Vec ℕ Global) (old new : BTreeMap (String Global) (Vec ℕ Global)) →
    UpdatesBy string_cmp (string_cmp key) old new (Some value) → (name other : List ℕ) →
    string_bytes key ≡ name → other ≢ name →
    file_of (map (λ e. (string_bytes e.0, e.1.items)) new.entries) other
    ≡ file_of (map (λ e. (string_bytes e.0, e.1.items)) old.entries) other
file_of-insert_other key value old new updates name other named differs =
    let missed : bytes_eq (string_bytes key) other ≡ false =
    false_from_ne_true _ (λ t. differs (sym ((bytes_eq-Decides (string_bytes key) other).0 t) ∙ named)) in
    file_of-insert key value old new updates other ∙ rw missed
