-- Worked shares.
use Rattle.std.proofs.Common.{◌≡◌, ℕ, true, List, [], ◌∷◌, refl}
use Rattle.std.specs.Prelude.{ℤ, pos}
use Rattle.mm_text.specs.declared.file_data.Line.{Line}
use Rattle.mm_text.specs.declared.file_data.Mirror.TheVariants.{Plain, Same}
use Rattle.mm_text.specs.Reading.{File}
use Rattle.model_defs.specs.declared.job.Job.{Job}
use Rattle.model_defs.specs.declared.job.MapForm.TheVariants.{Uniform, Lists}
use Rattle.model_defs.specs.declared.job.Origin.TheVariants.{Files, Fill}
use Rattle.rank_share.specs.Shares.{share}

line : ℕ → ℕ → ℤ → Line
line i j v = record { row = i; col = j; value = v }

-- a vector on a uniform map, from a file with 1, 10 and 100; parts on lists that overlap, with 5 in each cell; and a split
-- matrix of a symmetric file
job : Job
job = record {
  ranks = 2;
  maps = record { name = 117 ∷ []; size = 3; form = Uniform } ∷ record { name = 108 ∷ []; size = 3; form = Lists ((1 ∷ 0 ∷ []) ∷ (1 ∷ []) ∷ []) } ∷ [];
  vectors = record { name = 120 ∷ []; map = 0; columns = 1; from = Files ((120 ∷ []) ∷ []) } ∷ [];
  parts = record { name = 112 ∷ []; map = 1; columns = 2; from = Fill (pos 5) } ∷ [];
  matrices = record { name = 97 ∷ []; split = true; rows = 0; domain = 0; file = 97 ∷ [] } ∷ [];
  steps = [];
}

files : List File
files =
    record { rows = 3; cols = 1; mirror = Plain; lines = record { row = 0; col = 0; value = pos 1 } ∷ record { row = 1; col = 0; value = pos 10 } ∷ record { row = 2; col = 0; value = pos 100 } ∷ [] }
    ∷ record { rows = 3; cols = 3; mirror = Same; lines = record { row = 1; col = 0; value = pos 4 } ∷ record { row = 2; col = 2; value = pos 7 } ∷ record { row = 2; col = 1; value = pos 5 } ∷ [] }
    ∷ []

first_rank : share job files 0 ≡ record {
  cells = (line 0 0 (pos 1) ∷ line 1 0 (pos 10) ∷ []) ∷ (line 0 0 (pos 5) ∷ line 0 1 (pos 5) ∷ line 1 0 (pos 5) ∷ line 1 1 (pos 5) ∷ []) ∷ [];
  places = (line 1 0 (pos 4) ∷ line 0 1 (pos 4) ∷ line 2 1 (pos 5) ∷ line 1 2 (pos 5) ∷ []) ∷ [];
}
unfolding line job files
first_rank = refl

second_rank : share job files 1 ≡ record {
  cells = (line 2 0 (pos 100) ∷ []) ∷ (line 1 0 (pos 5) ∷ line 1 1 (pos 5) ∷ []) ∷ [];
  places = (line 2 2 (pos 7) ∷ []) ∷ [];
}
unfolding line job files
second_rank = refl
