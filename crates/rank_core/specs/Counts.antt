-- The entries of the letters that came to a rank, as the code keeps them.
use Rattle.std.specs.Prelude.{ℕ, Option}
use Rattle.std.specs.Map.{lookup}
use Rattle.outside.specs.declared.name.Name.{Name}
use Rattle.outside.specs.Letters.{same_name}
use Rattle.rank_core.specs.declared.counts.EntryCounts.{EntryCounts}

-- the count that is kept under a name
abbrev pub count_of : EntryCounts → Name → Option ℕ
count_of counts n = lookup (same_name n) counts.by_name.entries
