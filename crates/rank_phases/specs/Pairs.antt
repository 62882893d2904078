-- Letters between each two different ranks, phase by phase.
use Rattle.std.specs.Prelude.{ℕ, ◌+◌, ◌==◌, Bool, not, List, [], ◌∷◌, ◌++◌, map}
use Rattle.std.specs.List.{filter, flat_map, range_with_len}
use Rattle.outside.specs.declared.name.Name.{Name}

-- the ranks but this one, ascending
abbrev pub others : ℕ → ℕ → List ℕ
others ranks rank = filter (λ other. not (rank == other)) (range_with_len 0 ranks)

-- the letters of a phase from a rank to each other rank
abbrev pub to_others : ℕ → ℕ → ℕ → List Name
to_others ranks phase rank = map (λ other. record { phase = phase; from = rank; to = other }) (others ranks rank)

-- the letters of a phase to a rank from each other rank
abbrev pub from_others : ℕ → ℕ → ℕ → List Name
from_others ranks phase rank = map (λ other. record { phase = phase; from = other; to = rank }) (others ranks rank)

-- the letters of a phase between each two different ranks, by sender, then receiver
abbrev pub all_pairs : ℕ → ℕ → List Name
all_pairs ranks phase = flat_map (to_others ranks phase) (range_with_len 0 ranks)

-- The letters of phases that are counted from `phase`: of each those between two different ranks that its test keeps,
-- by phase, then sender, then receiver.
abbrev pub sent_names : ℕ → ℕ → List (Name → Bool) → List Name
sent_names ranks phase [] = []
sent_names ranks phase (is_sent ∷ tests) = filter is_sent (all_pairs ranks phase) ++ sent_names ranks (phase + 1) tests
