-- Sources that agree with what files tell.
use Rattle.std.proofs.Common.{Option, None, Some, refl}
use Rattle.outside.specs.Reads.{AgreesWith, Source}
use Rattle.run_input.specs.Sources.{SomeSource}

-- there is always one
agreeing : (told : Option Source) → (source : Source) × AgreesWith told source
agreeing None = (λ name. None, tt)
agreeing (Some source) = (source, refl)

-- what every source passes some source passes
pub SomeSource-any : (told : Option Source) (P : Source → Type 0) → ((source : Source) → P source) → SomeSource told P
SomeSource-any told P h = let some = agreeing told in record { source = some.0; agrees = some.1; passes = h some.0 }

pub SomeSource-weaker : (told : Option Source) (P Q : Source → Type 0) → ((source : Source) → P source → Q source) →
    SomeSource told P → SomeSource told Q
SomeSource-weaker told P Q h some = record { source = some.source; agrees = some.agrees; passes = h some.source some.passes }
