-- Plans: what one rank sends, receives and copies in a transfer, as Tpetra's import and export have it.
use Rattle.std.specs.Prelude.{◌≡◌, ℕ, ◌<◌, ◌≤◌, List, [], length}
use Rattle.std.specs.List.{slice_index_or}
use Rattle.tables.specs.Indices.{AreBelow}

-- the lists of a plan: all are of local indices, counted from 0
pub record PlanLists : Type 0 where
  pub me : ℕ
  pub ranks : ℕ
  -- how many leading positions of source and target have the same index
  pub same : ℕ
  -- the target and the source of the k-th permuted index
  pub permute_to : List ℕ
  pub permute_from : List ℕ
  -- for each rank, the source positions that are sent to it, and the target positions that it sends to
  pub exports : List (List ℕ)
  pub remotes : List (List ℕ)

-- what every plan keeps
pub record IsPlan (p : PlanLists) : Type 0 where
  pub me : p.me < p.ranks
  pub ranks : p.ranks ≤ 32
  pub permuted : length p.permute_to ≡ length p.permute_from
  pub exports : length p.exports ≡ p.ranks
  pub remotes : length p.remotes ≡ p.ranks

-- the source positions that are sent to rank q
abbrev pub export_list : PlanLists → ℕ → List ℕ
export_list p q = slice_index_or p.exports q []

-- the target positions that rank q sends to
abbrev pub remote_list : PlanLists → ℕ → List ℕ
remote_list p q = slice_index_or p.remotes q []

-- the plan of the way back
abbrev pub reversed : PlanLists → PlanLists
reversed p =
    record {
      me = p.me;
      ranks = p.ranks;
      same = p.same;
      permute_to = p.permute_from;
      permute_from = p.permute_to;
      exports = p.remotes;
      remotes = p.exports;
    }

-- all positions of the plan are in a source of m indices and in a target of n indices
pub record IsWithin (m n : ℕ) (p : PlanLists) : Type 0 where
  pub same_sources : p.same ≤ m
  pub same_targets : p.same ≤ n
  pub permuted_sources : AreBelow m p.permute_from
  pub permuted_targets : AreBelow n p.permute_to
  pub export_sources : (q : ℕ) → AreBelow m (export_list p q)
  pub remote_targets : (q : ℕ) → AreBelow n (remote_list p q)
