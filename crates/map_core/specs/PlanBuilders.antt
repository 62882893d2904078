-- Plans under construction.
use Rattle.std.specs.Prelude.{◌≡◌, ℕ, List, [], map, Option, None, Some, slice_set}
use Rattle.std.specs.List.{range_with_len, slice_index_or}
use Rattle.std.specs.Option.{unwrap_or}
use Rattle.map_core.specs.Classes.{same_count, permuted, indices_at, places, lacked_of_each, first_lacked}
use Rattle.map_core.specs.Plans.{PlanLists}
use Rattle.map_core.specs.declared.faults.HeldFault.{HeldFault}
use Rattle.map_core.specs.declared.faults.HeldFault.TheVariants.{NotHeld, NoMem}

-- a plan under construction: the parted list, and the list that is held; for each rank the lacked indices that it owns,
-- and the indices that it asked for or announced, if it did
pub record PlanParts : Type 0 where
  pub me : ℕ
  pub ranks : ℕ
  pub held : List ℕ
  pub parted : List ℕ
  pub lacked : List (List ℕ)
  pub accepted : List (Option (List ℕ))

-- no rank was heard yet
abbrev pub started : ℕ → ℕ → List ℕ → List ℕ → List (Option ℕ) → PlanParts
started me ranks held parted owners =
    record {
      me = me;
      ranks = ranks;
      held = held;
      parted = parted;
      lacked = lacked_of_each ranks held parted owners;
      accepted = map (λ _. None) (range_with_len 0 ranks);
    }

abbrev pub lacked_by : PlanParts → ℕ → List ℕ
lacked_by p q = slice_index_or p.lacked q []

-- the indices that were accepted from rank q
abbrev pub accepted_from : PlanParts → ℕ → Option (List ℕ)
accepted_from p q = slice_index_or p.accepted q None

-- the indices gs are accepted from rank q
abbrev pub with_accepted : PlanParts → ℕ → List ℕ → PlanParts
with_accepted p q gs = record p { accepted = slice_set p.accepted q (Some gs) }

-- the plan: what was accepted is sent, and what is lacked is received
abbrev pub plan_of : PlanParts → PlanLists
plan_of p =
    record {
      me = p.me;
      ranks = p.ranks;
      same = same_count p.held p.parted;
      permute_to = permuted p.held p.parted;
      permute_from = places p.held (indices_at p.parted (permuted p.held p.parted));
      exports = map (λ a. places p.held (unwrap_or a [])) p.accepted;
      remotes = map (places p.parted) p.lacked;
    }

-- the fault names the first index that is not held; memory may run out at any list
abbrev pub IsHeldFault : List ℕ → List ℕ → HeldFault → Type 0
IsHeldFault held gs (NotHeld gid) = first_lacked held gs ≡ Some gid
IsHeldFault held gs NoMem = Unit {0}
