-- What the fields of a plan under construction keep.
use Rattle.std.specs.Prelude.{◌≡◌, ℕ, ◌<◌, ◌≤◌, List, [], ◌∷◌, length, map, Option, Some, None}
use Rattle.std.specs.List.{slice_index_or}
use Rattle.std.specs.Global.{Vec}
use Rattle.tables.specs.Indices.{AreDistinct, AreBelow}
use Rattle.map_core.specs.Classes.{same_count, permuted, indices_at, places}
use Rattle.map_core.specs.Parts.{PartLists}

-- the indices that were accepted from a rank, which are kept as their places in the held list
abbrev pub accepted_indices : List ℕ → Option (Vec ℕ) → Option (List ℕ)
accepted_indices held None = None
accepted_indices held (Some v) = Some (indices_at held v.items)

-- the places of those, none where none were accepted
abbrev pub accepted_places : Option (Vec ℕ) → List ℕ
accepted_places None = []
accepted_places (Some v) = v.items

-- the places of each rank are below n
abbrev pub AreAllBelow : ℕ → List (Option (Vec ℕ)) → Type 0
AreAllBelow n [] = Unit {0}
AreAllBelow n (p ∷ ps) = AreBelow n (accepted_places p) × AreAllBelow n ps

pub record IsBuilder (me ranks same : ℕ) (held parted : List ℕ) (parts : PartLists) (accepted : List (Option (Vec ℕ))) : Type 0 where
  pub known : me < ranks
  pub ranks_limit : ranks ≤ 32
  pub distinct : AreDistinct held
  pub same_positions : same ≡ same_count held parted
  pub permuted_positions : parts.permuted ≡ permuted held parted
  pub permuted_places : parts.places ≡ places held (indices_at parted (permuted held parted))
  pub remote_positions : parts.remotes ≡ map (places parted) parts.lacked
  pub remotes_below : (q : ℕ) → AreBelow (length parted) (slice_index_or parts.remotes q [])
  pub lacked_of_each : length parts.lacked ≡ ranks
  pub accepted_of_each : length accepted ≡ ranks
  pub accepted_below : AreAllBelow (length held) accepted
