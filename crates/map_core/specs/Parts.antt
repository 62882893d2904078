-- The positions of a list, parted one after the other.
use Rattle.std.specs.Prelude.{ℕ, List, [], ◌∷◌, ◌++◌, map, Option, None, Some, slice_set}
use Rattle.std.specs.List.{filter, range_with_len, slice_index_or}
use Rattle.std.specs.Global.{Vec}
use Rattle.map_core.specs.Classes.{is_permuted, is_lacked, indices_at, places}

-- the positions that were parted: the permuted ones with their places in the held list, and for each rank the lacked
-- indices that it owns, with their positions
pub record PartLists : Type 0 where
  pub permuted : List ℕ
  pub places : List ℕ
  pub lacked : List (List ℕ)
  pub remotes : List (List ℕ)

-- the lists in vectors
abbrev pub lists_of : {X : Type 0} → List (Vec X) → List (List X)
lists_of vs = map (λ v. v.items) vs

-- the list of rank q with x at its end
abbrev pub pushed_to : {X : Type 0} → List (List X) → ℕ → X → List (List X)
pushed_to ls q x = slice_set ls q (slice_index_or ls q [] ++ x ∷ [])

-- position l of index g is parted: its place in the held list is known, or else the owner of the index, if any
abbrev pub with_position : PartLists → ℕ → ℕ → Option ℕ → Option ℕ → PartLists
with_position p l g (Some at) owner = record p { permuted = p.permuted ++ l ∷ []; places = p.places ++ at ∷ [] }
with_position p l g None (Some q) = record p { lacked = pushed_to p.lacked q g; remotes = pushed_to p.remotes q l }
with_position p l g None None = p

-- what the first n positions come to, for P ranks
abbrev pub permuted_below : List ℕ → List ℕ → ℕ → List ℕ
permuted_below held xs n = filter (is_permuted held xs) (range_with_len 0 n)

abbrev pub lacked_below : List ℕ → List ℕ → List (Option ℕ) → ℕ → ℕ → List ℕ
lacked_below held xs owners n q = filter (is_lacked held xs owners q) (range_with_len 0 n)

abbrev pub parts_below : ℕ → List ℕ → List ℕ → List (Option ℕ) → ℕ → PartLists
parts_below P held xs owners n =
    record {
      permuted = permuted_below held xs n;
      places = places held (indices_at xs (permuted_below held xs n));
      lacked = map (λ q. indices_at xs (lacked_below held xs owners n q)) (range_with_len 0 P);
      remotes = map (lacked_below held xs owners n) (range_with_len 0 P);
    }
