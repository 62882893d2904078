-- Letters that are found by their names in an ordered map.
use Rattle.std.proofs.Common.{◌≡◌, List, Bool, true, false, cond, Option, Some, None, refl, ap, map, sym, ◌∙◌, is_eq}
use Rattle.std.specs.BTreeMap.{BTreeMap, UpdatesBy, get}
use Rattle.std.specs.Map.{lookup}
use Rattle.std.specs.Option.{option_map, option_and_then}
use Rattle.std.specs.Rc.{rc_slice_items}
use Rattle.std.proofs.lemmas.Map.Made.{lookup-map_values}
use Rattle.outside.specs.declared.name.Name.{Name}
use Rattle.outside.specs.declared.letter_box.Letter.{Letter}
use Rattle.outside.specs.Letters.{same_name, with_letter, without_letter}
use Rattle.outside.specs.MailRoom.{PostedLetter, posted_in, pending_in}
use Rattle.outside.proofs.Names.{name_cmp, is_eq-name_cmp, same_name-is}

-- what contracts see of a letter
abbrev pub posted_letter : Letter → PostedLetter
posted_letter l = record { bytes = rc_slice_items l.bytes; is_pending = l.is_pending }

-- what contracts see of the letters
abbrev pub posted_letters : BTreeMap Name Letter → List (Name × PostedLetter)
posted_letters m = map (λ e. (e.0, posted_letter e.1)) m.entries

-- a letter is found where the map has its name
pub lookup-posted : (m : BTreeMap Name Letter) (n : Name) →
    lookup (same_name n) (posted_letters m) ≡ option_map posted_letter (get name_cmp m n)
lookup-posted m n =
    lookup-map_values posted_letter (same_name n) m.entries
    ∙ ap (λ t. option_map posted_letter (lookup t m.entries)) (λ i k. sym (is_eq-name_cmp n k) i)

option_map-cond : (b : Bool) (w : Letter) (o : Option Letter) →
    option_map posted_letter (cond b (Some w) o) ≡ cond b (Some (posted_letter w)) (option_map posted_letter o)
option_map-cond true w o = refl
option_map-cond false w o = refl

-- a change of the map at one name is one of the letters
pub lookup-updates : (old new : BTreeMap Name Letter) (name : Name) (w : Letter) →
    UpdatesBy name_cmp (name_cmp name) old new (Some w) → (n : Name) →
    lookup (same_name n) (posted_letters new)
    ≡ cond (same_name name n) (Some (posted_letter w)) (lookup (same_name n) (posted_letters old))
lookup-updates old new name w updates n =
    rw (lookup-posted new n, lookup-posted old n, ← is_eq-name_cmp name n)
    (ap (option_map posted_letter) (updates.0 n) ∙ option_map-cond (is_eq (name_cmp name n)) w (get name_cmp old n))

module _ (old new : List (Name × PostedLetter)) (name : Name) (w : PostedLetter)
    (changes : (n : Name) → lookup (same_name n) new ≡ cond (same_name name n) (Some w) (lookup (same_name n) old)) where
  pending_after : (b : Bool) (o : Option PostedLetter) →
      option_and_then (λ l. cond l.is_pending (Some l.bytes) None) (cond b (Some w) o)
      ≡ cond b (cond w.is_pending (Some w.bytes) None) (option_and_then (λ l. cond l.is_pending (Some l.bytes) None) o)
  pending_after true o = refl
  pending_after false o = refl

  posted_after : (b : Bool) (o : Option PostedLetter) →
      option_map (λ l. l.bytes) (cond b (Some w) o) ≡ cond b (Some w.bytes) (option_map (λ l. l.bytes) o)
  posted_after true o = refl
  posted_after false o = refl

  -- a letter that is put in is pending
  pub pending_in-put : w.is_pending ≡ true → pending_in new ≡ with_letter (pending_in old) name w.bytes
  pending_in-put is i n =
      (ap (option_and_then (λ l. cond l.is_pending (Some l.bytes) None)) (changes n)
      ∙ pending_after (same_name name n) (lookup (same_name n) old)
      ∙ ap (λ p. cond (same_name name n) (cond p (Some w.bytes) None) (pending_in old n)) is) i

  -- a letter that was taken is not
  pub pending_in-taken : w.is_pending ≡ false → pending_in new ≡ without_letter (pending_in old) name
  pending_in-taken is i n =
      (ap (option_and_then (λ l. cond l.is_pending (Some l.bytes) None)) (changes n)
      ∙ pending_after (same_name name n) (lookup (same_name n) old)
      ∙ ap (λ p. cond (same_name name n) (cond p (Some w.bytes) None) (pending_in old n)) is) i

  pub posted_in-put : posted_in new ≡ with_letter (posted_in old) name w.bytes
  posted_in-put i n =
      (ap (option_map (λ l. l.bytes)) (changes n) ∙ posted_after (same_name name n) (lookup (same_name n) old)) i

  stays_where : (n : Name) (b : Bool) → same_name name n ≡ b → posted_in old name ≡ Some w.bytes →
      cond b (Some w.bytes) (posted_in old n) ≡ posted_in old n
  stays_where n true e was = sym was ∙ ap (posted_in old) (same_name-is name n e)
  stays_where n false e was = refl

  -- the posted bytes stay where the letter has those that it had
  pub posted_in-stays : posted_in old name ≡ Some w.bytes → posted_in new ≡ posted_in old
  posted_in-stays was i n = (ap (λ f. f n) posted_in-put ∙ stays_where n (same_name name n) refl was) i

option_map-twice : (o : Option Letter) → option_map (λ l. l.bytes) (option_map posted_letter o) ≡ option_map (λ l. rc_slice_items l.bytes) o
option_map-twice None = refl
option_map-twice (Some l) = refl

-- the posted bytes are those of the letter in the map
pub posted_in-map : (m : BTreeMap Name Letter) (n : Name) →
    posted_in (posted_letters m) n ≡ option_map (λ l. rc_slice_items l.bytes) (get name_cmp m n)
posted_in-map m n = ap (option_map (λ l. l.bytes)) (lookup-posted m n) ∙ option_map-twice (get name_cmp m n)

-- The letter of the name, where there is one, is no longer pending.
module _ (old new : BTreeMap Name Letter) (name : Name) (letter : Letter)
    (was : get name_cmp old name ≡ Some letter)
    (updates : UpdatesBy name_cmp (name_cmp name) old new (Some (record { bytes = letter.bytes; is_pending = false }))) where
  pub pending_in-marked : pending_in (posted_letters new) ≡ without_letter (pending_in (posted_letters old)) name
  pending_in-marked =
      pending_in-taken (posted_letters old) (posted_letters new) name
      (record { bytes = rc_slice_items letter.bytes; is_pending = false }) (lookup-updates old new name _ updates) refl

  pub posted_in-marked : posted_in (posted_letters new) ≡ posted_in (posted_letters old)
  posted_in-marked =
      posted_in-stays (posted_letters old) (posted_letters new) name
      (record { bytes = rc_slice_items letter.bytes; is_pending = false }) (lookup-updates old new name _ updates)
      (posted_in-map old name ∙ ap (option_map (λ l. rc_slice_items l.bytes)) was)

-- where there is none, none is pending
module _ (m : BTreeMap Name Letter) (name : Name) (none : get name_cmp m name ≡ None) where
  none_pending : pending_in (posted_letters m) name ≡ None
  none_pending =
      ap (option_and_then (λ l. cond l.is_pending (Some l.bytes) None))
      (lookup-posted m name ∙ ap (option_map posted_letter) none)

  none_at : (n : Name) (b : Bool) → same_name name n ≡ b →
      pending_in (posted_letters m) n ≡ cond b None (pending_in (posted_letters m) n)
  none_at n true e = ap (pending_in (posted_letters m)) (sym (same_name-is name n e)) ∙ none_pending
  none_at n false e = refl

  pub pending_in-absent : pending_in (posted_letters m) ≡ without_letter (pending_in (posted_letters m)) name
  pending_in-absent i n = none_at n (same_name name n) refl i
