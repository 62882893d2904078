-- Imports: a rank takes from the owners what its target has and its source lacks, as in Tpetra's import.
use Rattle.std.specs.Prelude.{ℕ, List, [], map, Option, Some, None, slice_set}
use Rattle.std.specs.List.{range_with_len, slice_index_or}
use Rattle.std.specs.Option.{unwrap_or}
use Rattle.map_core.specs.Classes.{same_count, permuted, indices_at, places, lacked_of_each}
use Rattle.map_core.specs.Plans.{PlanLists}

-- an import of one rank, before its plan is finished
pub record Import : Type 0 where
  pub me : ℕ
  pub ranks : ℕ
  pub source : List ℕ
  pub target : List ℕ
  -- for each rank the indices that are wanted from it
  pub wanted : List (List ℕ)
  -- for each rank the indices that it wants, if its want was accepted
  pub wants : List (Option (List ℕ))

-- from each rank the target's indices are wanted that the source lacks and that it owns, in target order
abbrev pub import_start : ℕ → ℕ → List ℕ → List ℕ → List (Option ℕ) → Import
import_start me ranks source target owners =
    record {
      me = me;
      ranks = ranks;
      source = source;
      target = target;
      wanted = lacked_of_each ranks source target owners;
      wants = map (λ _. None) (range_with_len 0 ranks);
    }

abbrev pub wanted_from : Import → ℕ → List ℕ
wanted_from i q = slice_index_or i.wanted q []

abbrev pub want_of : Import → ℕ → Option (List ℕ)
want_of i q = slice_index_or i.wants q None

-- the want of rank q is accepted
abbrev pub with_want : Import → ℕ → List ℕ → Import
with_want i q gs = record i { wants = slice_set i.wants q (Some gs) }

-- the plan: the leading positions with the same index; the other target positions whose index the source holds, in target
-- order, with their source positions; to each rank the source positions of its want, and none without one; from each rank
-- the target positions of what is wanted from it
abbrev pub import_lists : Import → PlanLists
import_lists i =
    record {
      me = i.me;
      ranks = i.ranks;
      same = same_count i.source i.target;
      permute_to = permuted i.source i.target;
      permute_from = places i.source (indices_at i.target (permuted i.source i.target));
      exports = map (λ want. places i.source (unwrap_or want [])) i.wants;
      remotes = map (places i.target) i.wanted;
    }
