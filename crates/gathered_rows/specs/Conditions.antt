-- What gathering asks of a file.
use Rattle.std.specs.Prelude.{ℕ, ◌≤◌, ◌^◌, All}
use Rattle.scalar_laws.specs.Conversions.{Conversions}
use Rattle.mm_text.specs.Reading.{File}
use Rattle.mm_text.specs.Sound.{IsSound}
use Rattle.model_defs.specs.FileMatrix.{HasNumbers}

-- The data of the file are sound, it has at most 2^40 rows, and each value that it stands for has a number of the kind.
pub record CanBeGathered {S : Type 0} (F : Conversions S) (file : File) : Type 0 where
  pub sound : IsSound file
  pub rows : file.rows ≤ 2 ^ 40
  pub numbers : All (λ line. HasNumbers F file.mirror line.value) file.lines
