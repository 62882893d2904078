-- Exports: a rank gives to the owners what its source has and its target lacks, as in Tpetra's export.
use Rattle.std.specs.Prelude.{ℕ, List, [], map, Option, Some, None, slice_set}
use Rattle.std.specs.List.{range_with_len, slice_index_or}
use Rattle.std.specs.Option.{unwrap_or}
use Rattle.map_core.specs.Classes.{same_count, permuted, indices_at, places, lacked_of_each}
use Rattle.map_core.specs.Plans.{PlanLists}

-- an export of one rank, before its plan is finished
pub record Export : Type 0 where
  pub me : ℕ
  pub ranks : ℕ
  pub source : List ℕ
  pub target : List ℕ
  -- for each rank the indices that are offered to it
  pub offered : List (List ℕ)
  -- for each rank the indices that it offers, if its offer was accepted
  pub offers : List (Option (List ℕ))

-- to each rank the source's indices are offered that the target lacks and that it owns, in source order
abbrev pub export_start : ℕ → ℕ → List ℕ → List ℕ → List (Option ℕ) → Export
export_start me ranks source target owners =
    record {
      me = me;
      ranks = ranks;
      source = source;
      target = target;
      offered = lacked_of_each ranks target source owners;
      offers = map (λ _. None) (range_with_len 0 ranks);
    }

abbrev pub offered_to : Export → ℕ → List ℕ
offered_to e q = slice_index_or e.offered q []

abbrev pub offer_of : Export → ℕ → Option (List ℕ)
offer_of e q = slice_index_or e.offers q None

-- the offer of rank q is accepted
abbrev pub with_offer : Export → ℕ → List ℕ → Export
with_offer e q gs = record e { offers = slice_set e.offers q (Some gs) }

-- the plan: the leading positions with the same index; the other source positions whose index the target holds, in source
-- order, with their target positions; to each rank the source positions of what is offered to it; from each rank the target
-- positions of its offer, and none without one
abbrev pub export_lists : Export → PlanLists
export_lists e =
    record {
      me = e.me;
      ranks = e.ranks;
      same = same_count e.target e.source;
      permute_to = places e.target (indices_at e.source (permuted e.target e.source));
      permute_from = permuted e.target e.source;
      exports = map (places e.source) e.offered;
      remotes = map (λ offer. places e.target (unwrap_or offer [])) e.offers;
    }
