-- The tables of `map`.
use Rattle.std.specs.Prelude.{◌+◌, ℕ, List, [], ◌∷◌, ◌++◌, Ok, Err, codes, sum, if◌then◌else◌}
use Rattle.toml.specs.Data.{Data, Items, no_items, item, Members}
use Rattle.model_defs.specs.declared.job.MapSpec.{MapSpec}
use Rattle.model_defs.specs.declared.job.MapForm.TheVariants.{Uniform, Blocks, Cyclic, Lists}
use Rattle.model_defs.specs.Limits.{most_indices, most_size}
use Rattle.job_text.specs.declared.fault.JobFault.TheVariants.{BadMap}
use Rattle.job_text.specs.declared.place.Place.{Place}
use Rattle.job_text.specs.declared.place.Place.TheVariants as place
use Rattle.job_text.specs.declared.words.MapKind.{MapKind}
use Rattle.job_text.specs.declared.words.MapKind.TheVariants as kind
use Rattle.job_text.specs.declared.words.Form.TheVariants as form
use Rattle.job_text.specs.Outcomes.{Outcome, ◌>>=◌, or_fault}
use Rattle.job_text.specs.Names.{Text, key_name}
use Rattle.job_text.specs.Words.{kind_named}
use Rattle.job_text.specs.Keys.{wrong_kind, required, text_of, only_keys, number_at, new_name_at}
use Rattle.job_text.specs.Lists.{counts_of, index_lists_of}
use Rattle.job_text.specs.Tables.{table_of}
use Rattle.job_text.specs.Layouts.{are_sound_lists}
use Rattle.job_text.specs.Known.{Known, with_spec, Read, read}

-- the kind decides the form
abbrev pub kind_of : Place → Data → Outcome MapKind
kind_of at d = text_of at (codes "kind") d >>= λ word. or_fault (wrong_kind at (codes "kind")) (kind_named word)

abbrev pub kind_at : Place → Members → Outcome MapKind
kind_at at table = required at table (codes "kind") >>= kind_of at

abbrev pub uniform_map : Text → ℕ → MapSpec
uniform_map name size = record { name = name; size = size; form = Uniform }

abbrev pub cyclic_map : Text → ℕ → MapSpec
cyclic_map name size = record { name = name; size = size; form = Cyclic }

-- its size is the sum of the counts
abbrev pub blocks_map : Text → List ℕ → MapSpec
blocks_map name counts = record { name = name; size = sum counts; form = Blocks counts }

abbrev pub lists_map : Text → ℕ → List (List ℕ) → MapSpec
lists_map name size lists = record { name = name; size = size; form = Lists lists }

-- each list has distinct indices below the size
abbrev pub sound_map : Text → ℕ → List (List ℕ) → Outcome MapSpec
sound_map name size lists = if are_sound_lists size lists then Ok (lists_map name size lists) else Err (BadMap name)

-- the lists of the ranks, one for each
abbrev pub lists_at : Place → Members → ℕ → Outcome (List (List ℕ))
lists_at at table P = required at table (codes "lists") >>= index_lists_of at (codes "lists") P most_indices

module _ (at : Place) (table : Members) (P : ℕ) (name : Text) where
  abbrev pub size_at : ℕ → Outcome ℕ
  size_at most = number_at at table (codes "size") 0 most

  abbrev pub uniform_in : Outcome MapSpec
  uniform_in = size_at most_indices >>= λ size. Ok (uniform_map name size)

  abbrev pub cyclic_in : Outcome MapSpec
  cyclic_in = size_at most_indices >>= λ size. Ok (cyclic_map name size)

  abbrev pub blocks_in : Outcome MapSpec
  blocks_in = required at table (codes "counts") >>= counts_of at (codes "counts") P most_indices >>= λ counts. Ok (blocks_map name counts)

  abbrev pub lists_in : Outcome MapSpec
  lists_in = size_at most_size >>= λ size. lists_at at table P >>= sound_map name size

  abbrev pub form_in : MapKind → Outcome MapSpec
  form_in kind.Uniform = uniform_in
  form_in kind.Blocks = blocks_in
  form_in kind.Cyclic = cyclic_in
  form_in kind.Lists = lists_in

-- the map of a table: its kind, its keys, its name, what its kind has
abbrev pub map_of_kind : Place → Members → Known → MapKind → Outcome MapSpec
map_of_kind at table known k = do
  only ← only_keys at (form.Map k) table
  name ← new_name_at at table known
  form_in at table known.ranks name k

abbrev pub map_in : Place → Members → Known → Outcome MapSpec
map_in at table known = kind_at at table >>= map_of_kind at table known

abbrev pub with_next_map : Read MapSpec → MapSpec → Read MapSpec
with_next_map so_far spec = read (with_spec so_far.known spec) (so_far.done ++ spec ∷ [])

-- the maps of the tables from number k on, after those that were read
abbrev pub maps_after : Read MapSpec → ℕ → Items → Outcome (Read MapSpec)
maps_after so_far k no_items = Ok so_far
maps_after so_far k (item d ds) = do
  table ← table_of (codes "map") d
  spec ← map_in (place.Map k) table so_far.known
  maps_after (with_next_map so_far spec) (k + 1) ds
