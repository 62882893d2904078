-- What a rank keeps of one plan.
use Rattle.std.specs.Prelude.{◌≡◌, ℕ, ◌<◌, ◌≤◌, ◌^◌, ◌==◌, if◌then◌else◌, List, [], length, map, All, Option, None, filter}
use Rattle.std.specs.List.{range_with_len, slice_index_or}
use Rattle.map_core.specs.Layouts.{AreDistinct}
use Rattle.map_core.specs.Homes.{homed}
use Rattle.map_core.specs.Classes.{owns, same_count, permuted, indices_at, places}
use Rattle.map_core.specs.Plans.{PlanLists}
use Rattle.map_core.specs.Uniform.{uniform_layout}
use Rattle.map_core.specs.Layouts.{owner}
use Rattle.model_defs.specs.declared.phase.Plan.{Plan}
use Rattle.rank_plans.specs.Answers.{known_at, AreRanks}

pub record Task : Type 0 where
  pub plan : Plan
  pub ranks : ℕ
  -- of the map of owners
  pub size : ℕ
  -- the indices that the rank lacks, and beside them their owners, as far as they are known
  pub lacking : List ℕ
  pub owners : List (Option ℕ)
  -- what each rank asked, and what each rank lacks of this one, as it told
  pub asked : List (List ℕ)
  pub told : List (List ℕ)
  pub made : Option PlanLists

-- what every task keeps
pub record IsTask (t : Task) : Type 0 where
  pub some_rank : 1 ≤ t.ranks
  pub ranks_limit : t.ranks ≤ 32
  pub size_limit : t.size ≤ 2 ^ 40
  pub below : All (λ g. g < t.size) t.lacking
  pub distinct : AreDistinct t.lacking
  pub beside : length t.owners ≡ length t.lacking
  pub known : AreRanks t.ranks t.owners
  pub asked : length t.asked ≡ t.ranks
  pub told : length t.told ≡ t.ranks

-- the indices that are lacked and that rank q owns, and what rank q asked and told
abbrev pub owned_of : Task → ℕ → List ℕ
owned_of t q = filter (λ g. owns (known_at t.lacking t.owners g) q) t.lacking

abbrev pub asked_by : Task → ℕ → List ℕ
asked_by t q = slice_index_or t.asked q []

abbrev pub told_by : Task → ℕ → List ℕ
told_by t q = slice_index_or t.told q []

-- an empty list for each rank but this one
abbrev pub only_of : (me P : ℕ) → List ℕ → List (List ℕ)
only_of me P xs = map (λ q. if q == me then xs else []) (range_with_len 0 P)

-- a plan is begun whose owners are to be asked for: what the rank asks itself is asked
abbrev pub asking : (me P : ℕ) → Plan → ℕ → List ℕ → Task
asking me P plan size lacking =
    record {
      plan = plan;
      ranks = P;
      size = size;
      lacking = lacking;
      owners = map (λ _. None) lacking;
      asked = only_of me P (homed P size me lacking);
      told = map (λ _. []) (range_with_len 0 P);
      made = None;
    }

-- a plan is begun whose owners are known by rule
abbrev pub ruled : ℕ → Plan → ℕ → List ℕ → Task
ruled P plan size lacking =
    record {
      plan = plan;
      ranks = P;
      size = size;
      lacking = lacking;
      owners = map (owner (uniform_layout P size)) lacking;
      asked = map (λ _. []) (range_with_len 0 P);
      told = map (λ _. []) (range_with_len 0 P);
      made = None;
    }

-- The finished plan of an import, by what the rank lacks of each rank and what each rank lacks of it: positions are in the
-- source and in the target.
abbrev pub import_of : (me P : ℕ) → (source target : List ℕ) → (own told : ℕ → List ℕ) → PlanLists
import_of me P source target own told =
    record {
      me = me;
      ranks = P;
      same = same_count source target;
      permute_to = permuted source target;
      permute_from = places source (indices_at target (permuted source target));
      exports = map (λ q. places source (told q)) (range_with_len 0 P);
      remotes = map (λ q. places target (own q)) (range_with_len 0 P);
    }

-- The finished plan of an export, by what the rank gives to each rank and what each rank gives to it: positions are in the
-- source and in the target.
abbrev pub export_of : (me P : ℕ) → (source target : List ℕ) → (own told : ℕ → List ℕ) → PlanLists
export_of me P source target own told =
    record {
      me = me;
      ranks = P;
      same = same_count source target;
      permute_to = places target (indices_at source (permuted target source));
      permute_from = permuted target source;
      exports = map (λ q. places source (own q)) (range_with_len 0 P);
      remotes = map (λ q. places target (told q)) (range_with_len 0 P);
    }
