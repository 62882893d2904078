-- The layout of consecutive runs of stated lengths, as Tpetra's contiguous map with a count for each process.
use Rattle.std.specs.Prelude.{ℕ, ◌+◌, List, [], ◌∷◌, sum}
use Rattle.std.specs.List.{range_with_len}
use Rattle.map_core.specs.Layouts.{Layout}

-- consecutive runs of these lengths, from g on
abbrev pub runs_from : ℕ → List ℕ → List (List ℕ)
runs_from g [] = []
runs_from g (count ∷ counts) = range_with_len g count ∷ runs_from (g + count) counts

-- each rank has as many of the indices, in order, as its count says
abbrev pub blocks_layout : List ℕ → Layout
blocks_layout counts = record { size = sum counts; lists = runs_from 0 counts }
