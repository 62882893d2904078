-- What a book says once a directory of it changed, or a new one was begun.
use Rattle.std.proofs.Common.{◌≡◌, ℕ, suc, ◌<◌, ◌≤◌, Bool, true, false, ◌==◌, cond, List, [], ◌∷◌, ◌++◌, length, get_or, slice_set, Option, None, Some, All, refl, sym, ap, subst, arith}
use Rattle.std.specs.List.{position_or_len}
use Rattle.std.specs.Option.{is_some}
use Rattle.std.proofs.lemmas.Bool.{eqb-true, eq-eqb}
use Rattle.std.proofs.lemmas.List.Elements.{All-push}
use Rattle.directory.specs.Directories.{Directory}
use Rattle.rank_plans.specs.declared.registered.Registered.{Registered}
use Rattle.rank_plans.specs.Books.{Book, IsBook, IsOwnDirectory, directory_of, map_in, map_size_in, owner_in}
use Rattle.rank_plans.proofs.Changes.{All-changed}
use Rattle.rank_plans.proofs.Found.{IsFound, find-apart, find-new, find-old, find-put, find-stays, found-at, past-none, place-within, within-found}

pub same-number : (a : ℕ) → (a == a) ≡ true
same-number a = eq-eqb a a refl

-- the directory of a map stands at this place
abbrev pub IsMapAt : List Registered → ℕ → ℕ → Registered → Type 0
IsMapAt = IsFound (λ r. r.map) (λ a b. a == b) eqb-true same-number

sized : (o : Option Registered) (b : Bool) → is_some (map_size_in o) ≡ b → is_some o ≡ b
sized None b e = e
sized (Some r) b e = e

pub map-at : (rs : List Registered) (m k : ℕ) (r d : Registered) → k ≡ position_or_len (λ r. m == r.map) rs → is_some (map_size_in (map_in rs m)) ≡ true → get_or rs k d ≡ r → IsMapAt rs m k r
map-at rs m k r d at there entry = found-at (λ r. r.map) (λ a b. a == b) eqb-true same-number rs m k r d at (sized (map_in rs m) true there) entry

pub map-within : (rs : List Registered) (m k : ℕ) → k ≡ position_or_len (λ r. m == r.map) rs → is_some (map_size_in (map_in rs m)) ≡ true → k < length rs
map-within rs m k at there = subst (λ n. n < length rs) (sym at) (place-within (λ r. m == r.map) rs (sized (map_in rs m) true there))

abbrev pub with_directory : Registered → Directory → Registered
with_directory r d = record r { directory = d }

module _ (b : Book) (m k : ℕ) (r : Registered) (h : IsMapAt b.maps m k r) where
  pub map-put : (d : Directory) → map_in (slice_set b.maps k (with_directory r d)) m ≡ Some (with_directory r d)
  map-put d = find-put (λ r. r.map) (λ a b. a == b) eqb-true same-number b.maps m k r (with_directory r d) h refl

  pub map-apart : (d : Directory) (o : ℕ) → (o == m) ≡ false → map_in (slice_set b.maps k (with_directory r d)) o ≡ map_in b.maps o
  map-apart d o off = find-apart (λ r. r.map) (λ a b. a == b) eqb-true same-number b.maps m k r (with_directory r d) h refl o off

pub map-new : (rs : List Registered) (r : Registered) → is_some (map_size_in (map_in rs r.map)) ≡ false → map_in (rs ++ r ∷ []) r.map ≡ Some r
map-new rs r none = find-new (λ r. r.map) (λ a b. a == b) eqb-true same-number rs r (sized (map_in rs r.map) false none)

pub map-old : (rs : List Registered) (r : Registered) (o : ℕ) → (o == r.map) ≡ false → map_in (rs ++ r ∷ []) o ≡ map_in rs o
map-old rs r o off = find-old (λ r. r.map) (λ a b. a == b) eqb-true same-number rs r o off

-- what holds of all holds of the one that is found
all-found : (P : Registered → Type 0) (rs : List Registered) (m : ℕ) (r : Registered) → All P rs → map_in rs m ≡ Some r → P r
all-found P [] m r all e = absurd (let bad : ⊥ = cc in bad)
all-found P (x ∷ rs) m r all e = go (m == x.map) e (λ more. all-found P rs m r (λ i d low. all (suc i) d (omega arith)) more)
  where
    go : (b : Bool) → cond b (Some x) (map_in rs m) ≡ Some r → (map_in rs m ≡ Some r → P r) → P r
    go true e more = let is : x ≡ r = cc in subst P is (all 0 x (omega arith))
    go false e more = more e

pub owners-below : (b : Book) → IsBook b → (m g q : ℕ) → directory_of b m g ≡ Some q → q < b.ranks
owners-below b h m g q e = go (map_in b.maps m) refl e
  where
    go : (o : Option Registered) → map_in b.maps m ≡ o → owner_in o g ≡ Some q → q < b.ranks
    go None is e = absurd (let bad : ⊥ = cc in bad)
    go (Some r) is e = (all-found (IsOwnDirectory b.me b.ranks) b.maps m r h.directories is).below g q e

pub IsBook-map : (b : Book) (k : ℕ) (r : Registered) → IsBook b → IsOwnDirectory b.me b.ranks r → IsBook (record b { maps = slice_set b.maps k r })
IsBook-map b k r h e =
    record {
      some_rank = h.some_rank;
      ranks_limit = h.ranks_limit;
      own_rank = h.own_rank;
      directories = All-changed (IsOwnDirectory b.me b.ranks) b.maps k r h.directories e;
      tasks = h.tasks;
    }

pub IsBook-registered : (b : Book) (r : Registered) → IsBook b → IsOwnDirectory b.me b.ranks r → IsBook (record b { maps = b.maps ++ r ∷ [] })
IsBook-registered b r h e =
    record {
      some_rank = h.some_rank;
      ranks_limit = h.ranks_limit;
      own_rank = h.own_rank;
      directories = All-push (IsOwnDirectory b.me b.ranks) b.maps r h.directories e;
      tasks = h.tasks;
    }

-- the sizes of maps stay
pub sizes-stay : (b : Book) (m k : ℕ) (r : Registered) (h : IsMapAt b.maps m k r) (d : Directory) → d.size ≡ r.directory.size → (o : ℕ)
    → map_size_in (map_in (slice_set b.maps k (with_directory r d)) o) ≡ map_size_in (map_in b.maps o)
sizes-stay b m k r h d e o = find-stays (λ r. r.map) (λ a b. a == b) eqb-true same-number map_size_in b.maps m k r (with_directory r d) h refl (ap Some e) o

-- owners stay below P
pub below-after : (P from q : ℕ) (b : Bool) (o : Option ℕ) → from < P → (o ≡ Some q → q < P) → cond b (Some from) o ≡ Some q → q < P
below-after P from q true o low old e = let is : from ≡ q = cc in subst (λ n. n < P) is low
below-after P from q false o low old e = old e

pub map-found : (rs : List Registered) (m : ℕ) → position_or_len (λ r. m == r.map) rs < length rs → is_some (map_size_in (map_in rs m)) ≡ true
map-found rs m low = go (map_in rs m) (within-found (λ r. m == r.map) rs low)
  where
    go : (o : Option Registered) → is_some o ≡ true → is_some (map_size_in o) ≡ true
    go None e = e
    go (Some r) e = refl

pub map-missing : (rs : List Registered) (m : ℕ) → length rs ≤ position_or_len (λ r. m == r.map) rs → is_some (map_size_in (map_in rs m)) ≡ false
map-missing rs m high = ap (λ o. is_some (map_size_in o)) (past-none (λ r. m == r.map) rs high)
