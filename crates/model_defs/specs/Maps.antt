-- The maps of a job as layouts: which rank has which global indices (Tpetra::Map).
use Rattle.std.specs.Prelude.{ℕ, Bool, true, false, List, []}
use Rattle.std.specs.List.{slice_index_or, concat}
use Rattle.std.specs.Option.{unwrap_or}
use Rattle.tables.specs.Indices.{stands}
use Rattle.map_core.specs.Layouts.{Layout, rank_list, owner}
use Rattle.map_core.specs.Uniform.{uniform_layout}
use Rattle.map_core.specs.Blocks.{blocks_layout}
use Rattle.map_core.specs.Cyclic.{cyclic_layout}
use Rattle.map_core.specs.Homes.{is_home}
use Rattle.model_defs.specs.declared.job.Job.{Job}
use Rattle.model_defs.specs.declared.job.MapSpec.{MapSpec}
use Rattle.model_defs.specs.declared.job.MapForm.{MapForm}
use Rattle.model_defs.specs.declared.job.MapForm.TheVariants.{Uniform, Blocks, Cyclic, Lists}

-- the lists of the ranks, of a map of this size over P ranks
abbrev pub lists_of : ℕ → ℕ → MapForm → List (List ℕ)
lists_of P size Uniform = (uniform_layout P size).lists
lists_of P size (Blocks counts) = (blocks_layout counts).lists
lists_of P size Cyclic = (cyclic_layout P size).lists
lists_of P size (Lists lists) = lists

-- a map of no index, in place of one that is not there
abbrev pub no_map : MapSpec
no_map = record { name = []; size = 0; form = Uniform }

abbrev pub map_at : Job → ℕ → MapSpec
map_at job m = slice_index_or job.maps m no_map

abbrev pub size_of : Job → ℕ → ℕ
size_of job m = (map_at job m).size

abbrev pub layout_of : Job → ℕ → Layout
layout_of job m = record { size = size_of job m; lists = lists_of job.ranks (size_of job m) (map_at job m).form }

-- the list of a rank, and whether it has an index
abbrev pub list_of : Job → ℕ → ℕ → List ℕ
list_of job m p = rank_list (layout_of job m) p

abbrev pub has_index : Job → ℕ → ℕ → ℕ → Bool
has_index job m p g = stands g (list_of job m p)

-- whether some rank has it
abbrev pub is_mapped : Job → ℕ → ℕ → Bool
is_mapped job m g = stands g (concat (layout_of job m).lists)

-- the rank that owns an index: the first one whose list has it
abbrev pub owner_rank : Job → ℕ → ℕ → ℕ
owner_rank job m g = unwrap_or (owner (layout_of job m) g) 0

-- a uniform map needs no directory: each rank can compute its owners
abbrev pub is_by_rule : MapForm → Bool
is_by_rule Uniform = true
is_by_rule _ = false

abbrev pub is_uniform : Job → ℕ → Bool
is_uniform job m = is_by_rule (map_at job m).form

-- whether rank h keeps the directory's entry of an index (Tpetra::Directory)
abbrev pub is_home_rank : Job → ℕ → ℕ → ℕ → Bool
is_home_rank job m h g = is_home job.ranks (size_of job m) h g
