-- What is named so far, while a job text is read.
use Rattle.std.specs.Prelude.{ℕ, Bool, ◌||◌, List, [], ◌∷◌, ◌++◌, Option, Some, None, ◌+◌, is_some, length, bytes_eq, if◌then◌else◌}
use Rattle.std.specs.List.{slice_index_or}
use Rattle.map_core.specs.Layouts.{Layout}
use Rattle.model_defs.specs.declared.job.MapSpec.{MapSpec}
use Rattle.model_defs.specs.declared.job.Step.{Step}
use Rattle.model_defs.specs.Maps.{lists_of}
use Rattle.model_defs.specs.Makers.{Maker, Made, maker_name, gives_value}
use Rattle.model_defs.specs.Turns.{Each}
use Rattle.model_defs.specs.declared.shape.Shape.{Shape}
use Rattle.model_defs.specs.Shapes.{shape_by, no_shape}
use Rattle.job_text.specs.declared.known.KnownMap.{KnownMap}
use Rattle.job_text.specs.declared.known.KnownValue.{KnownValue}
use Rattle.job_text.specs.Names.{Text}

-- the maps and the values, in the order in which they are numbered
pub record Known : Type 0 where
  pub ranks : ℕ
  pub maps : List KnownMap
  pub values : List KnownValue

abbrev pub no_names : ℕ → Known
no_names ranks = record { ranks = ranks; maps = []; values = [] }

-- the layout that a map states
abbrev pub layout_by : ℕ → MapSpec → Layout
layout_by P spec = record { size = spec.size; lists = lists_of P spec.size spec.form }

-- the place of the first that passes, where the first of all has this place
abbrev pub place_from : {A : Type 0} → ℕ → (A → Bool) → List A → Option ℕ
place_from n test [] = None
place_from n test (x ∷ xs) = if test x then Some n else place_from (n + 1) test xs

-- the numbers of names
abbrev pub map_number : Known → Text → Option ℕ
map_number known name = place_from 0 (λ m. bytes_eq m.name name) known.maps

abbrev pub value_number : Known → Text → Option ℕ
value_number known name = place_from 0 (λ v. bytes_eq v.name name) known.values

-- maps and values share one space of names
abbrev pub is_taken : Known → Text → Bool
is_taken known name = is_some (map_number known name) || is_some (value_number known name)

-- what stands at a number
abbrev pub no_map : KnownMap
no_map = record { name = []; layout = record { size = 0; lists = [] } }

abbrev pub no_value : KnownValue
no_value = record { name = []; shape = no_shape }

abbrev pub map_name : Known → ℕ → Text
map_name known m = (slice_index_or known.maps m no_map).name

abbrev pub layout_at : Known → ℕ → Layout
layout_at known m = (slice_index_or known.maps m no_map).layout

abbrev pub shape_at : Known → Each Shape
shape_at known v = (slice_index_or known.values v no_value).shape

-- one more map, or one more value
abbrev pub with_map : Known → Text → Layout → Known
with_map known name layout = record known { maps = known.maps ++ record { name = name; layout = layout } ∷ [] }

abbrev pub with_value : Known → Text → Shape → Known
with_value known name shape = record known { values = known.values ++ record { name = name; shape = shape } ∷ [] }

-- the map that was stated, and the value of a maker, whose shape follows from those before
abbrev pub with_spec : Known → MapSpec → Known
with_spec known spec = with_map known spec.name (layout_by known.ranks spec)

abbrev pub with_maker : Known → Maker → Known
with_maker known maker = with_value known (maker_name maker) (shape_by (length known.values) (shape_at known) maker)

abbrev pub with_step : Known → Step → Known
with_step known step = if gives_value step then with_maker known (Made step) else known

-- what is named and what is stated, after the tables of an array
pub record Read (A : Type 0) : Type 0 where
  pub known : Known
  pub done : List A

abbrev pub read : {A : Type 0} → Known → List A → Read A
read known done = record { known = known; done = done }
