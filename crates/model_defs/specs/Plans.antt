-- Which indices each rank has by a plan, which of them it has of its own and which come from or go to another rank.
use Rattle.std.specs.Prelude.{ℕ, Bool, true, false, not, ◌&&◌, ◌==◌, if◌then◌else◌, List, [], is_some, None, Some, filter}
use Rattle.std.specs.List.{list_any}
use Rattle.scalar_laws.specs.Semiring.{Semiring}
use Rattle.scalar_laws.specs.Conversions.{Conversions}
use Rattle.tables.specs.Tables.{Table, only_rows, columns_of}
use Rattle.tables.specs.Indices.{stands, count_from}
use Rattle.mm_text.specs.Reading.{File}
use Rattle.model_defs.specs.declared.job.Job.{Job}
use Rattle.model_defs.specs.Maps.{list_of, has_index, size_of}
use Rattle.model_defs.specs.Turns.{Each}
use Rattle.model_defs.specs.Shapes.{Shape, shape, is_dense, is_split_sort}
use Rattle.model_defs.specs.Pieces.{Value, piece_of}
use Rattle.model_defs.specs.Eval.{first_values, eval}
use Rattle.model_defs.specs.Given.{dealt_part}
use Rattle.model_defs.specs.Transfers.{Plan, ImportPlan, ExportPlan, ColumnPlan, RowPlan, owner_map, Transfer, Way, FromOwners, ToOwners}

-- The kind of number that has one number only: all that is left of a value is which places are there.
abbrev pub One : Type 0
One = Unit {0}

abbrev pub one_semiring : Semiring One
one_semiring = record { nought = tt; one = tt; plus = λ a b. tt; times = λ a b. tt; top = λ a b. tt }

abbrev pub one_conversions : Conversions One
one_conversions = record { of_file = λ v. Some tt; is_over = λ a. false; shown = λ a. None; to_wire = λ a. []; of_wire = λ bytes. tt }

-- the columns of a value's tables
abbrev pub width_of : Job → Shape → ℕ
width_of job s = if is_dense s.sort then s.columns else size_of job s.domain

-- the rows below a size that have a place in the first columns, ascending
abbrev pub rows_of : {S : Type 0} → ℕ → ℕ → Table S → List ℕ
rows_of rows cols t = filter (λ i. list_any (λ j. is_some (t i j)) (count_from 0 cols)) (count_from 0 rows)

module _ (job : Job) (files : List File) where
  -- Which places the values have. It is the same whatever is picked, since all numbers are one.
  abbrev pub structure : Each (Value One)
  structure = eval one_semiring one_conversions job files (λ k i j. 0)

  abbrev pub structure_before : ℕ → Each (Value One)
  structure_before k = first_values one_semiring one_conversions job files (λ k i j. 0) k

  -- the columns of rank p's places in a matrix, and the rows of the lines that were dealt to it, ascending
  abbrev pub rank_columns : ℕ → ℕ → List ℕ
  rank_columns v p =
      columns_of (size_of job (shape job v).domain) (count_from 0 (size_of job (shape job v).rows)) (piece_of job (shape job v) p (structure v))

  -- the places of a split matrix at a rank, or those of the lines that were dealt to it
  abbrev pub dealt_places : Bool → ℕ → ℕ → Table One
  dealt_places true v p = structure v p
  dealt_places false v p = dealt_part one_semiring one_conversions job files v p

  abbrev pub rank_rows : ℕ → ℕ → List ℕ
  rank_rows v p =
      rows_of (size_of job (shape job v).rows) (size_of job (shape job v).domain) (dealt_places (is_split_sort (shape job v).sort) v p)

  -- The list of a rank by a plan, whose indices other ranks may have too.
  abbrev pub rank_list_by : Plan → ℕ → List ℕ
  rank_list_by (ImportPlan source target) p = list_of job target p
  rank_list_by (ExportPlan source target) p = list_of job source p
  rank_list_by (ColumnPlan value) p = rank_columns value p
  rank_list_by (RowPlan value) p = rank_rows value p

  -- whether rank p owns an index
  abbrev pub owns : Plan → ℕ → ℕ → Bool
  owns plan p g = has_index job (owner_map job plan) p g

  -- the indices of rank p's list that it does not own, and those of them that rank q owns
  abbrev pub lacking : Plan → ℕ → List ℕ
  lacking plan p = filter (λ g. not (owns plan p g)) (rank_list_by plan p)

  abbrev pub remote : Plan → ℕ → ℕ → List ℕ
  remote plan p q = filter (owns plan q) (lacking plan p)

  -- the indices whose entries p sends to q by a transfer, in their order
  abbrev pub sent_by : Way → Plan → ℕ → ℕ → List ℕ
  sent_by FromOwners plan p q = remote plan q p
  sent_by ToOwners plan p q = remote plan p q

  abbrev pub sent_rows : Transfer → ℕ → ℕ → List ℕ
  sent_rows t p q = sent_by t.way t.plan p q

  -- whether an entry of rank p at this index comes to q: to itself where it has and owns the index, else where it is sent
  abbrev pub passes : Transfer → ℕ → ℕ → ℕ → Bool
  passes t p q i = if p == q then stands i (rank_list_by t.plan p) && owns t.plan p i else stands i (sent_rows t p q)

  -- the rows that a rank has in the target of a transfer
  abbrev pub target_by : Way → Plan → ℕ → ℕ → Bool
  target_by FromOwners plan p i = stands i (rank_list_by plan p)
  target_by ToOwners plan p i = owns plan p i

  abbrev pub is_target_row : Transfer → ℕ → ℕ → Bool
  is_target_row t p i = target_by t.way t.plan p i

  -- what comes to q of the entries that p has for a transfer
  abbrev pub brought : {S : Type 0} → Transfer → Table S → ℕ → ℕ → Table S
  brought t entries p q = only_rows (passes t p q) entries
