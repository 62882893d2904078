-- The shapes of a job's values as a list that grows by one with each maker.
use Rattle.std.specs.Prelude.{ℕ, List, [], ◌∷◌, ◌++◌, length}
use Rattle.std.specs.List.{slice_index_or}
use Rattle.model_defs.specs.Makers.{Maker}
use Rattle.model_defs.specs.Shapes.{Shape, shape_by, no_shape}

-- the shape of a value in a list of those of the first values
abbrev pub at_list : List Shape → ℕ → Shape
at_list shapes v = slice_index_or shapes v no_shape

abbrev pub next_shape : List Shape → Maker → Shape
next_shape shapes m = shape_by (length shapes) (at_list shapes) m

-- the shapes after those of the values that these makers make in order
abbrev pub shapes_from : List Shape → List Maker → List Shape
shapes_from shapes [] = shapes
shapes_from shapes (m ∷ ms) = shapes_from (shapes ++ next_shape shapes m ∷ []) ms
