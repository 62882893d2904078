-- Of which sort a value is.
use Rattle.std.specs.Prelude.{Bool, true, false}
use Rattle.model_defs.specs.declared.shape.Sort.{Sort}
use Rattle.model_defs.specs.declared.shape.Sort.TheVariants.{Vector, Parts, Matrix, Split}

abbrev pub is_vector : Sort → Bool
is_vector Vector = true
is_vector _ = false

abbrev pub is_parts : Sort → Bool
is_parts Parts = true
is_parts _ = false

abbrev pub is_matrix : Sort → Bool
is_matrix Matrix = true
is_matrix _ = false
