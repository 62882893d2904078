-- What a rank keeps of the maps and plans of its job.
use Rattle.std.specs.Prelude.{◌≡◌, ℕ, ◌≤◌, ◌<◌, ◌==◌, Bool, List, [], All, Option, None, Some, is_some, filter}
use Rattle.std.specs.List.{find}
use Rattle.map_core.specs.Classes.{owns}
use Rattle.map_core.specs.Plans.{PlanLists}
use Rattle.directory.specs.Directories.{owner_of}
use Rattle.model_defs.specs.declared.phase.Plan.{Plan}
use Rattle.model_defs.specs.Transfers.{same_plan}
use Rattle.rank_plans.specs.declared.registered.Registered.{Registered}
use Rattle.rank_plans.specs.Answers.{known_at}
use Rattle.rank_plans.specs.Tasks.{Task, asked_by, told_by}

-- the maps that are registered, and the plans that are begun
pub record Book : Type 0 where
  pub me : ℕ
  pub ranks : ℕ
  pub maps : List Registered
  pub plans : List Task

-- a directory of this rank of P ranks, whose owners are below P
pub record IsOwnDirectory (rank P : ℕ) (r : Registered) : Type 0 where
  pub me : r.directory.me ≡ rank
  pub ranks : r.directory.ranks ≡ P
  pub below : (g q : ℕ) → owner_of r.directory g ≡ Some q → q < P

-- what every book keeps
pub record IsBook (b : Book) : Type 0 where
  pub some_rank : 1 ≤ b.ranks
  pub ranks_limit : b.ranks ≤ 32
  pub own_rank : b.me < b.ranks
  pub directories : All (IsOwnDirectory b.me b.ranks) b.maps
  pub tasks : All (λ t. t.ranks ≡ b.ranks) b.plans

-- the directory of a map, and the task of a plan, if there is one
abbrev pub map_in : List Registered → ℕ → Option Registered
map_in maps m = find (λ r. m == r.map) maps

abbrev pub task_in : List Task → Plan → Option Task
task_in plans plan = find (λ t. same_plan plan t.plan) plans

-- what a task says, and nothing where there is none
abbrev pub owner_in : Option Registered → ℕ → Option ℕ
owner_in None g = None
owner_in (Some r) g = owner_of r.directory g

abbrev pub map_size_in : Option Registered → Option ℕ
map_size_in None = None
map_size_in (Some r) = Some r.directory.size

abbrev pub size_in : Option Task → Option ℕ
size_in None = None
size_in (Some t) = Some t.size

abbrev pub lacking_in : Option Task → List ℕ
lacking_in None = []
lacking_in (Some t) = t.lacking

abbrev pub asked_in : Option Task → ℕ → List ℕ
asked_in None q = []
asked_in (Some t) q = asked_by t q

abbrev pub owners_in : Option Task → ℕ → Option ℕ
owners_in None g = None
owners_in (Some t) g = known_at t.lacking t.owners g

abbrev pub told_in : Option Task → ℕ → List ℕ
told_in None q = []
told_in (Some t) q = told_by t q

abbrev pub made_in : Option Task → Option PlanLists
made_in None = None
made_in (Some t) = t.made

-- of a map the owners of the indices whose home is this rank, as far as they were registered, and its size
abbrev pub directory_of : Book → ℕ → ℕ → Option ℕ
directory_of b m = owner_in (map_in b.maps m)

abbrev pub map_size_of : Book → ℕ → Option ℕ
map_size_of b m = map_size_in (map_in b.maps m)

-- by a plan the size of the map of owners, and the indices that this rank lacks
abbrev pub size_of : Book → Plan → Option ℕ
size_of b plan = size_in (task_in b.plans plan)

abbrev pub lacking_of : Book → Plan → List ℕ
lacking_of b plan = lacking_in (task_in b.plans plan)

-- by a plan what each rank asked this one
abbrev pub asked_of : Book → Plan → ℕ → List ℕ
asked_of b plan = asked_in (task_in b.plans plan)

-- by a plan the owners of the indices that this rank lacks, as far as they are known
abbrev pub owners_of : Book → Plan → ℕ → Option ℕ
owners_of b plan = owners_in (task_in b.plans plan)

-- by a plan the indices that this rank lacks and another rank owns
abbrev pub own_of : Book → Plan → ℕ → List ℕ
own_of b plan q = filter (λ g. owns (owners_of b plan g) q) (lacking_of b plan)

-- by a plan the indices that another rank lacks of this one, as that rank told them
abbrev pub told_of : Book → Plan → ℕ → List ℕ
told_of b plan = told_in (task_in b.plans plan)

-- the lists of a plan that is finished
abbrev pub made_of : Book → Plan → Option PlanLists
made_of b plan = made_in (task_in b.plans plan)

-- whether the map is registered, and whether the plan is begun
abbrev pub has_map : Book → ℕ → Bool
has_map b m = is_some (map_size_of b m)

abbrev pub has_plan : Book → Plan → Bool
has_plan b plan = is_some (size_of b plan)

-- All that a book says.
pub record Slices : Type 0 where
  pub me : ℕ
  pub ranks : ℕ
  pub map_size : ℕ → Option ℕ
  pub directory : ℕ → ℕ → Option ℕ
  pub size : Plan → Option ℕ
  pub lacking : Plan → List ℕ
  pub asked : Plan → ℕ → List ℕ
  pub owners : Plan → ℕ → Option ℕ
  pub told : Plan → ℕ → List ℕ
  pub made : Plan → Option PlanLists

abbrev pub slices : Book → Slices
slices b =
    record {
      me = b.me;
      ranks = b.ranks;
      map_size = map_size_of b;
      directory = directory_of b;
      size = size_of b;
      lacking = lacking_of b;
      asked = asked_of b;
      owners = owners_of b;
      told = told_of b;
      made = made_of b;
    }
