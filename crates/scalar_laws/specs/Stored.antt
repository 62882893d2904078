-- How a weighed number is kept: its pair, or for Over a value 0 with a weight beyond every number's.
use Rattle.std.specs.Prelude.{◌==◌, ◌&&◌, ◌||◌, ℕ, ℤ, Bool, unsigned_abs}
use Rattle.scalar_laws.specs.Number.{is_weighed, over_weight}

abbrev pub is_stored : ℤ → ℕ → Bool
is_stored v w = is_weighed v w || (unsigned_abs v == 0 && w == over_weight)
