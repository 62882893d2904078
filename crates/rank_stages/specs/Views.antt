-- What a rank keeps of a job, as contracts see it.
use Rattle.std.specs.Prelude.{ℕ, List, Option}
use Rattle.tables.specs.Tables.{Table}
use Rattle.model_defs.specs.declared.phase.Plan.{Plan}

-- What a rank of a job keeps. Values, maps and plans are those of the job, by their numbers; indices are global ones.
pub record View (S : Type 0) : Type 0 where
  -- its pieces of the values that were made
  pub values : ℕ → Option (Table S)
  -- of a map the owners of the indices whose home is this rank, as far as they were registered (Tpetra::Directory)
  pub directory : ℕ → ℕ → Option ℕ
  -- by a plan what each rank asked this one
  pub asked : Plan → ℕ → List ℕ
  -- by a plan the owners of the indices that this rank lacks, as far as they were told
  pub owners : Plan → ℕ → Option ℕ
  -- by a plan the indices that this rank lacks and each other rank owns
  pub own : Plan → ℕ → List ℕ
  -- by a plan the indices that each other rank lacks and this rank owns, as that rank told them
  pub told : Plan → ℕ → List ℕ
  -- of a value that is not made yet what this rank gathered in each of its transfers
  pub gathered : ℕ → ℕ → Table S
