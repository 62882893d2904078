-- What holds of the values of keys.
use Rattle.std.proofs.Common.{◌≡◌, ◌+◌, ◌<◌, ◌≤◌, ℕ, ℤ, pos, negsuc, suc, Bool, true, false, cond, List, [], ◌∷◌, Option, Some, None, Ok, length, arith}
use Rattle.std.specs.Prelude.{codes, ◌&&◌, nat_le}
use Rattle.std.proofs.lemmas.Bool.{and_parts, leb-true}
use Rattle.toml.specs.Data.{Data, Members, get_member}
use Rattle.model_defs.specs.Naming.{is_name}
use Rattle.job_text.specs.declared.fault.JobFault.TheVariants.{NameTaken}
use Rattle.job_text.specs.declared.place.Place.{Place}
use Rattle.job_text.specs.Outcomes.{Outcome}
use Rattle.job_text.specs.Names.{Text}
use Rattle.job_text.specs.Known.{Known, is_taken, place_from}
use Rattle.job_text.specs.Keys.{wrong_kind, limit, required, given_or, integer_of, text_of, number_within, number_of, name_of, file_of, map_named, value_named, number_at, name_at, file_at, new_name_at, map_at, value_at, number_or, value_or_none}
use Rattle.job_validity.proofs.Outcomes.{Holds, bind, found, when, unless, skip}

abbrev pub IsWithin : (low high : ℕ) → ℕ → Type 0
IsWithin low high n = (low ≤ n) × (n ≤ high)

-- a name that nothing has yet
abbrev pub IsNewName : Known → Text → Type 0
IsNewName known name = (is_name name ≡ true) × (is_taken known name ≡ false)

-- a number of one of the first n, where it is given
abbrev pub IsBelowOrNone : ℕ → Option ℕ → Type 0
IsBelowOrNone n None = Unit {0}
IsBelowOrNone n (Some v) = v < n

abbrev pub IsFilled : Text → Type 0
IsFilled text = 0 < length text

pub given : {A : Type 0} (P : A → Type 0) (default : A) (read : Data → Outcome A) (o : Option Data) → P default → ((d : Data) → Holds P (read d)) → Holds P (given_or default read o)
given P default read None h each = h
given P default read (Some d) h each = each d

-- the place that is found is one of the list
pub place-below : {A : Type 0} (n : ℕ) (test : A → Bool) (xs : List A) (m : ℕ) → place_from n test xs ≡ Some m → m < n + length xs
place-below n test [] m e = absurd (cc)
place-below n test (x ∷ xs) m e = by (test x) (place-below (n + 1) test xs m) e
  where
    by : (b : Bool) → (place_from (n + 1) test xs ≡ Some m → m < n + 1 + length xs) → cond b (Some n) (place_from (n + 1) test xs) ≡ Some m → m < n + suc (length xs)
    by true rest e = let same : n ≡ m = cc in omega arith
    by false rest e = let l = rest e in omega arith

module _ (at : Place) (key : Text) where
  pub number-within : (low high : ℕ) (z : ℤ) → Holds (IsWithin low high) (number_within at key low high z)
  number-within low high (pos n) = when (IsWithin low high) (nat_le low n && nat_le n high) (Ok n) (limit at key) (λ e. let parts = and_parts _ _ e in (leb-true low n parts.0, leb-true n high parts.1))
  number-within low high (negsuc n) = tt

  pub number-of : (low high : ℕ) (d : Data) → Holds (IsWithin low high) (number_of at key low high d)
  number-of low high d = skip (IsWithin low high) (integer_of at key d) _ (number-within low high)

  pub name-of : (d : Data) → Holds (λ t. is_name t ≡ true) (name_of at key d)
  name-of d = skip (λ t. is_name t ≡ true) (text_of at key d) _ (λ t. when (λ t. is_name t ≡ true) (is_name t) (Ok t) (wrong_kind at key) (λ e. e))

  pub file-of : (d : Data) → Holds IsFilled (file_of at key d)
  file-of d = skip IsFilled (text_of at key d) _ (λ t. when IsFilled _ _ _ (λ e. leb-true 1 (length t) e))

pub map-named : (known : Known) (name : Text) → Holds (λ m. m < length known.maps) (map_named known name)
map-named known name = found (λ m. m < length known.maps) _ _ (λ m e. let l = place-below 0 _ known.maps m e in omega arith)

pub value-named : (known : Known) (name : Text) → Holds (λ v. v < length known.values) (value_named known name)
value-named known name = found (λ v. v < length known.values) _ _ (λ v e. let l = place-below 0 _ known.values v e in omega arith)

module _ (at : Place) (table : Members) where
  pub number-at : (key : Text) (low high : ℕ) → Holds (IsWithin low high) (number_at at table key low high)
  number-at key low high = skip (IsWithin low high) (required at table key) _ (number-of at key low high)

  pub number-or : (key : Text) (default low high : ℕ) → IsWithin low high default → Holds (IsWithin low high) (number_or at table key default low high)
  number-or key default low high h = given (IsWithin low high) default (number_of at key low high) (get_member key table) h (number-of at key low high)

  pub file-at : (key : Text) → Holds IsFilled (file_at at table key)
  file-at key = skip IsFilled (required at table key) _ (file-of at key)

  pub name-at : (key : Text) → Holds (λ t. is_name t ≡ true) (name_at at table key)
  name-at key = skip (λ t. is_name t ≡ true) (required at table key) _ (name-of at key)

  pub new-name : (known : Known) → Holds (IsNewName known) (new_name_at at table known)
  new-name known = bind (λ t. is_name t ≡ true) (IsNewName known) (name_at at table (codes "name")) _ (name-at (codes "name")) (λ t h. unless (IsNewName known) (is_taken known t) (Ok t) (NameTaken t) (λ e. (h, e)))

  pub map-at : (key : Text) (known : Known) → Holds (λ m. m < length known.maps) (map_at at table key known)
  map-at key known = skip (λ m. m < length known.maps) (name_at at table key) _ (map-named known)

  pub value-at : (key : Text) (known : Known) → Holds (λ v. v < length known.values) (value_at at table key known)
  value-at key known = skip (λ v. v < length known.values) (name_at at table key) _ (value-named known)

  pub value-or-none : (key : Text) (known : Known) → Holds (IsBelowOrNone (length known.values)) (value_or_none at table key known)
  value-or-none key known =
      given (IsBelowOrNone (length known.values)) None _ (get_member key table) tt
      (λ d. skip (IsBelowOrNone (length known.values)) (name_of at key d) _ (λ name.
      bind (λ v. v < length known.values) (IsBelowOrNone (length known.values)) (value_named known name) _ (value-named known name) (λ v l. l)))
