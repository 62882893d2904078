-- The integers that a job states, as weighed numbers.
use Rattle.std.specs.Prelude.{ℤ, List, All, IsSome}
use Rattle.scalar_laws.specs.Weighed.{weighed_conversions}

-- each of these integers has a weighed number
abbrev pub AreWeighed : List ℤ → Type 0
AreWeighed values = All (λ v. IsSome (weighed_conversions.of_file v)) values
