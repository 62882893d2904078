-- How keys are named in faults, and which texts are the names of keys.
use Rattle.std.specs.Prelude.{ℕ, Bool, true, false, ◌||◌, List, [], ◌∷◌, ◌++◌, Option, not, find, codes, bytes_eq}
use Rattle.std.specs.Fmt.{decimal}
use Rattle.toml.specs.Data.{Members, no_members, member}
use Rattle.job_text.specs.declared.place.Place.{Place}
use Rattle.job_text.specs.declared.place.Place.TheVariants.{Top, Map, Vector, Parts, Matrix, Do}
use Rattle.job_text.specs.declared.words.MapKind.{MapKind}
use Rattle.job_text.specs.declared.words.MapKind.TheVariants as kind
use Rattle.job_text.specs.declared.words.Op.{Op}
use Rattle.job_text.specs.declared.words.Op.TheVariants as op
use Rattle.job_text.specs.declared.words.Form.{Form}
use Rattle.job_text.specs.declared.words.Form.TheVariants as form

abbrev pub Text : Type 0
Text = List ℕ

-- `map.0.size`: the array, the number of its table, and the key; a key of the top table has its own name
unfoldable pub key_name : Place → Text → Text
key_name Top key = key
key_name (Map k) key = codes "map." ++ (decimal k ++ (codes "." ++ key))
key_name (Vector k) key = codes "vector." ++ (decimal k ++ (codes "." ++ key))
key_name (Parts k) key = codes "parts." ++ (decimal k ++ (codes "." ++ key))
key_name (Matrix k) key = codes "matrix." ++ (decimal k ++ (codes "." ++ key))
key_name (Do k) key = codes "do." ++ (decimal k ++ (codes "." ++ key))

-- the keys of a map by its kind, after `kind`
abbrev pub map_keys : MapKind → List Text
map_keys kind.Uniform = codes "name" ∷ codes "size" ∷ []
map_keys kind.Blocks = codes "name" ∷ codes "counts" ∷ []
map_keys kind.Cyclic = codes "name" ∷ codes "size" ∷ []
map_keys kind.Lists = codes "name" ∷ codes "size" ∷ codes "lists" ∷ []

-- the keys of a statement, after `op`
abbrev pub step_keys : Op → List Text
step_keys op.Move = codes "name" ∷ codes "from" ∷ codes "map" ∷ []
step_keys op.Import = codes "name" ∷ codes "from" ∷ codes "onto" ∷ codes "mode" ∷ []
step_keys op.Export = codes "name" ∷ codes "from" ∷ codes "onto" ∷ codes "mode" ∷ []
step_keys op.Spread = codes "name" ∷ codes "from" ∷ codes "map" ∷ []
step_keys op.Update = codes "name" ∷ codes "x" ∷ codes "y" ∷ codes "alpha" ∷ codes "beta" ∷ []
step_keys op.Scale = codes "name" ∷ codes "value" ∷ codes "alpha" ∷ []
step_keys op.Apply = codes "name" ∷ codes "matrix" ∷ codes "x" ∷ codes "y" ∷ codes "alpha" ∷ codes "beta" ∷ codes "transposed" ∷ []
step_keys op.Transpose = codes "name" ∷ codes "matrix" ∷ []
step_keys op.Multiply = codes "name" ∷ codes "a" ∷ codes "b" ∷ []
step_keys op.Add = codes "name" ∷ codes "a" ∷ codes "b" ∷ codes "alpha" ∷ codes "beta" ∷ []
step_keys op.Assemble = codes "name" ∷ codes "from" ∷ codes "onto" ∷ codes "mode" ∷ []
step_keys op.Print = codes "value" ∷ []

-- the keys of a table by its form; beside a file there is no `fill`
abbrev pub keys_of : Form → List Text
keys_of form.Top = codes "ranks" ∷ codes "map" ∷ codes "vector" ∷ codes "parts" ∷ codes "matrix" ∷ codes "do" ∷ []
keys_of (form.Map k) = codes "kind" ∷ map_keys k
keys_of form.OfFile = codes "name" ∷ codes "map" ∷ codes "columns" ∷ codes "file" ∷ []
keys_of form.OfFiles = codes "name" ∷ codes "map" ∷ codes "columns" ∷ codes "files" ∷ []
keys_of form.Filled = codes "name" ∷ codes "map" ∷ codes "columns" ∷ codes "fill" ∷ []
keys_of form.Matrix = codes "name" ∷ codes "kind" ∷ codes "rows" ∷ codes "domain" ∷ codes "file" ∷ []
keys_of (form.Do o) = codes "op" ∷ step_keys o

abbrev pub is_among : Text → List Text → Bool
is_among key [] = false
is_among key (other ∷ others) = bytes_eq key other || is_among key others

-- the keys of a table, which ascend in byte order
abbrev pub keys_in : Members → List Text
keys_in no_members = []
keys_in (member key value rest) = key ∷ keys_in rest

-- the first key, and so the least in byte order, that the form does not have
abbrev pub unknown_in : Form → Members → Option Text
unknown_in f table = find (λ key. not (is_among key (keys_of f))) (keys_in table)
