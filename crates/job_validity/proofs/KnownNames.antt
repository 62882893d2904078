-- The names of maps and values: each is one, none stands twice, and no file is without a name.
use Rattle.std.proofs.Common.{◌≡◌, ◌+◌, ◌<◌, ℕ, zero, suc, Bool, true, false, cond, List, [], ◌∷◌, ◌++◌, map, length, get_or, Some, is_some, refl, ap, sym, subst, ◌∙◌, arith, append_assoc, append-nil}
use Rattle.std.specs.Prelude.{bytes_eq}
use Rattle.std.specs.List.{All, flat_map}
use Rattle.std.proofs.lemmas.Bool.{or_parts}
use Rattle.std.proofs.lemmas.List.{map-append}
use Rattle.std.proofs.lemmas.List.Elements.{All-nil, All-cons, All-append}
use Rattle.std.proofs.lemmas.Slice.Eq.{bytes_eq-Decides}
use Rattle.model_defs.specs.declared.job.Job.{Job}
use Rattle.model_defs.specs.declared.job.MapSpec.{MapSpec}
use Rattle.model_defs.specs.Makers.{Maker, makers, maker_name}
use Rattle.model_defs.specs.Given.{maker_files}
use Rattle.model_defs.specs.Naming.{is_name, names_of_job, AreApart, IsNamed}
use Rattle.job_text.specs.declared.known.KnownMap.{KnownMap}
use Rattle.job_text.specs.Names.{Text}
use Rattle.job_text.specs.Known.{Known, no_names, place_from, is_taken, with_spec, with_maker}
use Rattle.job_validity.proofs.KeyFacts.{IsFilled}
use Rattle.job_validity.proofs.MapFacts.{IsMapFor}
use Rattle.job_validity.proofs.KnownMaps.{known_map, no-values, maps-are}
use Rattle.job_validity.proofs.MakersRead.{AreMade, all-made}
use Rattle.job_validity.proofs.Traces.{AreFor}
use Rattle.job_validity.proofs.Reading.{after_maps, IsOfTables}

-- ---- lists of texts

-- no text of the list is this one
abbrev IsOther : Text → List Text → Type 0
IsOther t [] = Unit {0}
IsOther t (u ∷ us) = (u ≡ t → ⊥) × IsOther t us

abbrev Apart : List Text → Type 0
Apart [] = Unit {0}
Apart (t ∷ ts) = IsOther t ts × Apart ts

other-append : (t : Text) (xs ys : List Text) → IsOther t xs → IsOther t ys → IsOther t (xs ++ ys)
other-append t [] ys h g = g
other-append t (x ∷ xs) ys h g = (h.0, other-append t xs ys h.1 g)

apart-push : (xs : List Text) (t : Text) → Apart xs → IsOther t xs → Apart (xs ++ t ∷ [])
apart-push [] t h o = (tt, tt)
apart-push (x ∷ xs) t h o = (other-append x xs (t ∷ []) h.0 ((λ e. o.0 (sym e)), tt), apart-push xs t h.1 o.1)

differs : (t : Text) (ts : List Text) (j : ℕ) → IsOther t ts → j < length ts → get_or ts j [] ≡ t → ⊥
differs t [] j o l e = absurd (omega arith)
differs t (u ∷ us) zero o l e = o.0 e
differs t (u ∷ us) (suc j) o l e = differs t us j o.1 (omega arith) e

are-apart : (texts : List Text) → Apart texts → AreApart texts
are-apart [] h i j l m same = absurd (omega arith)
are-apart (t ∷ ts) h zero zero l m same = refl
are-apart (t ∷ ts) h zero (suc j) l m same = absurd (differs t ts j h.0 (omega arith) (sym same))
are-apart (t ∷ ts) h (suc i) zero l m same = absurd (differs t ts i h.0 (omega arith) same)
are-apart (t ∷ ts) h (suc i) (suc j) l m same = ap suc (are-apart ts h.1 i j (omega arith) (omega arith) same)

-- each text is a name, and none stands twice
record AreNames (texts : List Text) : Type 0 where
  names : All (λ t. is_name t ≡ true) texts
  apart : Apart texts

names-push : (texts : List Text) (t : Text) → AreNames texts → is_name t ≡ true → IsOther t texts → AreNames (texts ++ t ∷ [])
names-push texts t h e o = record {
  names = All-append (λ t. is_name t ≡ true) texts (t ∷ []) h.names (All-cons (λ t. is_name t ≡ true) t [] e (All-nil (λ t. is_name t ≡ true)));
  apart = apart-push texts t h.apart o;
}

-- ---- names that are taken

other-from : {A : Type 0} (get : A → Text) (t : Text) (n : ℕ) (xs : List A) → is_some (place_from n (λ x. bytes_eq (get x) t) xs) ≡ false → IsOther t (map get xs)
other-from get t n [] e = tt
other-from get t n (x ∷ xs) e = by (bytes_eq (get x) t) refl (other-from get t (n + 1) xs) e
  where
    by : (b : Bool) → bytes_eq (get x) t ≡ b → (is_some (place_from (n + 1) (λ x. bytes_eq (get x) t) xs) ≡ false → IsOther t (map get xs))
        → is_some (cond b (Some n) (place_from (n + 1) (λ x. bytes_eq (get x) t) xs)) ≡ false → (get x ≡ t → ⊥) × IsOther t (map get xs)
    by true same rest f = absurd (cc)
    by false other rest f = ((λ e. let same = (bytes_eq-Decides (get x) t).1 e in absurd (cc)), rest f)

abbrev map_names : Known → List Text
map_names known = map (λ m. m.name) known.maps

abbrev value_names : Known → List Text
value_names known = map (λ v. v.name) known.values

other-names : (known : Known) (t : Text) → is_taken known t ≡ false → IsOther t (map_names known) × IsOther t (value_names known)
other-names known t e =
    let parts = or_parts _ _ e in
    (other-from (λ m. m.name) t 0 known.maps parts.0, other-from (λ v. v.name) t 0 known.values parts.1)

names-of-maps : (specs : List MapSpec) (known : Known) → AreNames (map_names known) → AreFor with_spec IsMapFor known specs → AreNames (map_names known ++ map (λ s. s.name) specs)
names-of-maps [] known h each = subst AreNames (sym (append-nil (map_names known))) h
names-of-maps (s ∷ ss) known h each =
    subst AreNames (ap (λ ts. ts ++ map (λ s. s.name) ss) pushed ∙ append_assoc (map_names known) (s.name ∷ []) (map (λ s. s.name) ss))
    (names-of-maps ss (with_spec known s)
    (subst AreNames (sym pushed) (names-push (map_names known) s.name h each.0.name.0 ((other-names known s.name each.0.name.1).0))) each.1)
  where
    pushed : map_names (with_spec known s) ≡ map_names known ++ s.name ∷ []
    pushed = map-append (λ m. m.name) known.maps _

names-of-values : (ms : List Maker) (known : Known) → AreNames (map_names known ++ value_names known) → AreMade known ms → AreNames (map_names known ++ value_names known ++ map maker_name ms)
names-of-values [] known h each = subst AreNames (sym (append-nil (map_names known ++ value_names known))) h
names-of-values (m ∷ ms) known h each =
    subst AreNames (ap (λ ts. ts ++ map maker_name ms) pushed ∙ append_assoc (map_names known ++ value_names known) (maker_name m ∷ []) (map maker_name ms))
    (names-of-values ms (with_maker known m)
    (subst AreNames (sym pushed) (names-push (map_names known ++ value_names known) (maker_name m) h each.0.name.0 (other-append (maker_name m) (map_names known) (value_names known) other.0 other.1))) each.1)
  where
    pushed : map_names known ++ value_names (with_maker known m) ≡ (map_names known ++ value_names known) ++ maker_name m ∷ []
    pushed = ap (λ ts. map_names known ++ ts) (map-append (λ v. v.name) known.values _) ∙ sym (append_assoc (map_names known) (value_names known) (maker_name m ∷ []))

    other : IsOther (maker_name m) (map_names known) × IsOther (maker_name m) (value_names known)
    other = other-names known (maker_name m) each.0.name.1

files-of : (ms : List Maker) (known : Known) → AreMade known ms → All IsFilled (flat_map maker_files ms)
files-of [] known h = All-nil IsFilled
files-of (m ∷ ms) known h = All-append IsFilled (maker_files m) (flat_map maker_files ms) h.0.files (files-of ms (with_maker known m) h.1)

-- ---- of a job

module _ (job : Job) (h : IsOfTables job) where
  map-names-are : map_names (after_maps job) ≡ map (λ s. s.name) job.maps
  map-names-are = ap (map (λ (m : KnownMap). m.name)) (maps-are job) ∙ again job.maps
    where
      again : (specs : List MapSpec) → map (λ (m : KnownMap). m.name) (map (known_map job.ranks) specs) ≡ map (λ s. s.name) specs
      again [] = refl
      again (s ∷ ss) = ap (λ ts. s.name ∷ ts) (again ss)

  first-names : map_names (after_maps job) ++ value_names (after_maps job) ≡ map (λ s. s.name) job.maps
  first-names = (λ i. map-names-are i ++ map (λ v. v.name) (no-values job i)) ∙ append-nil (map (λ s. s.name) job.maps)

  all-names : AreNames (names_of_job job)
  all-names =
      subst AreNames (ap (λ ts. ts ++ map maker_name (makers job)) first-names)
      (names-of-values (makers job) (after_maps job) (subst AreNames (sym first-names) (names-of-maps job.maps (no_names job.ranks) none h.maps)) (all-made job h))
    where
      none : AreNames []
      none = record { names = All-nil (λ t. is_name t ≡ true); apart = tt }

  pub job-named : IsNamed job
  job-named = record { names = all-names.names; apart = are-apart (names_of_job job) all-names.apart; files = files-of (makers job) (after_maps job) (all-made job h) }
