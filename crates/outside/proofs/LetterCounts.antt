-- How many letters are pending.
use Rattle.std.proofs.Common.{◌≡◌, suc, List, [], ◌∷◌, Bool, true, false, cond, Option, Some, None, refl, ap, map, sym, ◌∙◌, subst, length}
use Rattle.std.proofs.lemmas.List.{length-map}
use Rattle.std.specs.Prelude.{IsSome}
use Rattle.std.specs.BTreeMap.{BTreeMap, IsOrdered, keys, values}
use Rattle.std.specs.List.{IsDistinct, filter, count_by}
use Rattle.std.specs.Map.{lookup, keys_of, values_of}
use Rattle.std.specs.Option.{option_and_then}
use Rattle.std.proofs.lemmas.List.Sums.{length-filter}
use Rattle.std.proofs.lemmas.Map.Entries.{lookup-filter-values, option_filter}
use Rattle.std.proofs.lemmas.Map.Keys.{IsDistinct-from_sorted}
use Rattle.std.proofs.lemmas.Map.Made.{IsDistinct-keys_filter, keys_of-map_values}
use Rattle.std.proofs.lemmas.Map.Views.{IsSome-lookup_from_Contains, Contains-keys_from_lookup}
use Rattle.outside.specs.declared.name.Name.{Name}
use Rattle.outside.specs.declared.letter_box.Letter.{Letter}
use Rattle.outside.specs.Letters.{same_name, IsCountOf}
use Rattle.outside.specs.MailRoom.{PostedLetter, pending_in}
use Rattle.outside.proofs.Names.{name_cmp, is_eq-name_cmp, same_name-is, same_name_equiv}
use Rattle.outside.proofs.LetterLookups.{posted_letter, posted_letters}

-- The test keeps what is pending.
kept : (b : Bool) (l : PostedLetter) → IsSome (cond b (Some l) None) → IsSome (cond b (Some l.bytes) None)
kept true l h = h
kept false l h = h

passes : (o : Option PostedLetter) → IsSome (option_filter (λ l. l.is_pending) o) →
    IsSome (option_and_then (λ l. cond l.is_pending (Some l.bytes) None) o)
passes None h = h
passes (Some l) h = kept l.is_pending l h

keeps : (b : Bool) (l : PostedLetter) → IsSome (cond b (Some l.bytes) None) → IsSome (cond b (Some l) None)
keeps true l h = h
keeps false l h = h

passed : (o : Option PostedLetter) → IsSome (option_and_then (λ l. cond l.is_pending (Some l.bytes) None) o) →
    IsSome (option_filter (λ l. l.is_pending) o)
passed None h = h
passed (Some l) h = keeps l.is_pending l h

-- the letters that are pending
abbrev pending_of : List (Name × PostedLetter) → List (Name × PostedLetter)
pending_of letters = filter (λ e. e.1.is_pending) letters

module _ (letters : List (Name × PostedLetter)) (distinct : IsDistinct same_name (keys_of letters)) where
  -- the pending letters are those that pass the test
  pub IsCountOf-pending : IsCountOf (pending_in letters) (length (pending_of letters))
  IsCountOf-pending = record {
    names = keys_of (pending_of letters);
    distinct = IsDistinct-keys_filter same_name (λ e. e.1.is_pending) letters distinct;
    exactly = λ n. (
      (λ h. passes (lookup (same_name n) letters)
          (subst IsSome (lookup-filter-values same_name_equiv (λ l. l.is_pending) n letters distinct)
          (IsSome-lookup_from_Contains same_name_equiv n (pending_of letters) h))),
      (λ h. Contains-keys_from_lookup same_name-is n (pending_of letters)
          (subst IsSome (sym (lookup-filter-values same_name_equiv (λ l. l.is_pending) n letters distinct))
          (passed (lookup (same_name n) letters) h))),
    );
    length = length-map (pending_of letters) (λ e. e.0);
  }

one_more : {X Y : Type 0} (b : Bool) (x : X) (xs : List X) (y : Y) (ys : List Y) → length xs ≡ length ys →
    length (cond b (x ∷ xs) xs) ≡ length (cond b (y ∷ ys) ys)
one_more true x xs y ys e = ap suc e
one_more false x xs y ys e = e

-- they are as many as the map's values that are pending
length-pending_of : (es : List (Name × Letter)) →
    length (pending_of (map (λ e. (e.0, posted_letter e.1)) es)) ≡ length (filter (λ l. l.is_pending) (values_of es))
length-pending_of [] = refl
length-pending_of (e ∷ es) =
    one_more e.1.is_pending (e.0, posted_letter e.1) (pending_of (map (λ x. (x.0, posted_letter x.1)) es)) e.1
    (filter (λ l. l.is_pending) (values_of es)) (length-pending_of es)

-- the count of the values that are pending is the number of letters that are
pub IsCountOf-values : (m : BTreeMap Name Letter) → IsOrdered name_cmp m →
    IsCountOf (pending_in (posted_letters m)) (count_by (λ l. l.is_pending) (values m))
IsCountOf-values m ordered =
    subst (λ n. IsCountOf (pending_in (posted_letters m)) n) (length-pending_of m.entries ∙ length-filter (λ l. l.is_pending) (values m))
    (IsCountOf-pending (posted_letters m)
    (subst (IsDistinct same_name) (sym (keys_of-map_values posted_letter m.entries))
    (subst (λ eq. IsDistinct eq (keys m)) (λ i a b. is_eq-name_cmp a b i) (IsDistinct-from_sorted name_cmp (keys m) ordered))))
