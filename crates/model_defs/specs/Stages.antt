-- What each rank does for a value, transfer after transfer: which entries it has for others, onto what it gathers those
-- that come, and what it makes of what it gathered.
use Rattle.std.specs.Prelude.{ℕ, zero, suc, Bool, true, false, if◌then◌else◌, List, [], ◌∷◌, length, Option, None, Some}
use Rattle.std.specs.List.{slice_index_or}
use Rattle.scalar_laws.specs.Semiring.{Semiring}
use Rattle.scalar_laws.specs.Conversions.{Conversions}
use Rattle.tables.specs.Tables.{Table, nowhere}
use Rattle.mm_text.specs.Reading.{File}
use Rattle.combine_modes.specs.declared.mode.Mode.{Mode}
use Rattle.combine_modes.specs.declared.mode.Mode.TheVariants.{Add, Replace}
use Rattle.combine_modes.specs.Modes.{gathered, combined}
use Rattle.model_defs.specs.Operations.{product, transpose, turned, scaled, combination, grown, filled}
use Rattle.model_defs.specs.declared.job.Job.{Job}
use Rattle.model_defs.specs.Maps.{has_index, size_of, owner_rank}
use Rattle.model_defs.specs.Makers.{Maker, GivenMatrix, Made, maker_of, value_count}
use Rattle.model_defs.specs.Turns.{Each, in_turn}
use Rattle.model_defs.specs.Shapes.{Shape, shape, is_dense}
use Rattle.model_defs.specs.Pieces.{Value, piece_of}
use Rattle.model_defs.specs.FileMatrix.{number_of}
use Rattle.model_defs.specs.Given.{given, dealt_part}
use Rattle.model_defs.specs.Eval.{Pick}
use Rattle.model_defs.specs.Transfers.{Plan, owner_map, Way, FromOwners, ToOwners, ImportPlan, Transfer, from_owners, transfers}
use Rattle.model_defs.specs.Plans.{brought, is_target_row}
use Rattle.model_defs.specs.declared.job.Step.TheVariants as step

-- how what comes is combined, and onto what
pub record Target (S : Type 0) : Type 0 where
  pub mode : Mode
  pub old : Table S

abbrev pub target : {S : Type 0} → Mode → Table S → Target S
target mode old = record { mode = mode; old = old }

-- the transfer of a stage
abbrev pub transfer_at : Job → ℕ → ℕ → Transfer
transfer_at job k stage = slice_index_or (transfers job k) stage (from_owners (ImportPlan 0 0))

abbrev pub stage_count : Job → ℕ → ℕ
stage_count job k = length (transfers job k)

-- a vector or parts get what comes for their cells, matrices get places
abbrev pub is_fixed : Job → ℕ → Bool
is_fixed job k = is_dense (shape job k).sort

-- what x is where a rank's places are: its own cells at the first stage, then the copies that came
abbrev pub near_x : {S : Type 0} → ℕ → Table S → Table S → Table S
near_x zero x got = x
near_x (suc stage) x got = got

-- what a rank has for others in an apply: its cells of x, or the sums at its places
abbrev pub apply_offers : {S : Type 0} → Semiring S → Way → (n : ℕ) (a x near : Table S) → Table S
apply_offers R FromOwners n a x near = x
apply_offers R ToOwners n a x near = product R n a near

-- the sums of an apply: they came, or are made of the copies that came
abbrev pub apply_sums : {S : Type 0} → Semiring S → Way → (n : ℕ) (a got : Table S) → Table S
apply_sums R FromOwners n a got = product R n a got
apply_sums R ToOwners n a got = got

abbrev pub own_addend : {S : Type 0} → Semiring S → Job → ℕ → Shape → Each (Table S) → Option ℕ → Table S
own_addend R job p s mine None = filled (has_index job s.rows p) s.columns R.nought
own_addend R job p s mine (Some y) = mine y

abbrev pub last_way : List Transfer → Way
last_way [] = FromOwners
last_way (t ∷ []) = t.way
last_way (t ∷ u ∷ ts) = last_way (u ∷ ts)

abbrev pub onto_piece : {S : Type 0} → Each (Table S) → Option ℕ → Table S
onto_piece mine None = nowhere
onto_piece mine (Some onto) = mine onto

-- Where a statement does not say it: copies replace noughts, sums are added to noughts, rows to no places.
abbrev pub plain_target : {S : Type 0} → Bool → Way → Table S → Target S
plain_target true FromOwners noughts = target Replace noughts
plain_target true ToOwners noughts = target Add noughts
plain_target false way noughts = target Add nowhere

abbrev pub target_by : {S : Type 0} → Each (Table S) → Target S → Maker → Target S
target_by mine plain (Made (step.Import name source onto mode)) = target mode (mine onto)
target_by mine plain (Made (step.Export name source onto mode)) = target mode (mine onto)
target_by mine plain (Made (step.Assemble name source onto mode)) = target mode (onto_piece mine onto)
target_by mine plain _ = plain

-- the rank whose number is picked: a copy comes from the owner alone, what goes to an owner may come from many
abbrev pub source_of : Job → Way → Plan → (ℕ → ℕ → ℕ) → ℕ → ℕ → ℕ
source_of job FromOwners plan pick i j = owner_rank job (owner_map job plan) i
source_of job ToOwners plan pick i j = pick i j

module _ {S : Type 0} (R : Semiring S) (F : Conversions S) (job : Job) (files : List File) where
  -- The entries that rank p has for others at a stage, by the way of its transfer. `mine` are its pieces of the values
  -- before, `got` is what it gathered at the stage before.
  abbrev pub entries_by : ℕ → ℕ → Way → ℕ → Each (Table S) → Table S → Maker → Table S
  entries_by p k way stage mine got (GivenMatrix spec) = dealt_part R F job files k p
  entries_by p k way stage mine got (Made (step.Move name source m)) = mine source
  entries_by p k way stage mine got (Made (step.Import name source onto mode)) = mine source
  entries_by p k way stage mine got (Made (step.Export name source onto mode)) = mine source
  entries_by p k way stage mine got (Made (step.Spread name source m)) = mine source
  entries_by p k way stage mine got (Made (step.Apply name a x y alpha beta transposed)) =
      apply_offers R way (size_of job (shape job x).rows) (turned transposed (mine a)) (mine x) (near_x stage (mine x) got)
  entries_by p k way stage mine got (Made (step.Transpose name a)) = transpose (mine a)
  entries_by p k way stage mine got (Made (step.Multiply name a b)) = mine b
  entries_by p k way stage mine got (Made (step.Add name a b alpha beta)) = mine b
  entries_by p k way stage mine got (Made (step.Assemble name source onto mode)) = mine source
  entries_by p k way stage mine got _ = nowhere

  abbrev pub entries : ℕ → ℕ → ℕ → Each (Table S) → Table S → Table S
  entries p k stage mine got = entries_by p k (transfer_at job k stage).way stage mine got (maker_of job k)

  abbrev pub target_at : ℕ → ℕ → ℕ → Each (Table S) → Target S
  target_at p k stage mine =
      target_by mine
      (plain_target (is_fixed job k) (transfer_at job k stage).way
      (filled (is_target_row job files (transfer_at job k stage) p) (shape job k).columns R.nought))
      (maker_of job k)

  -- what rank p makes of what it gathered at the last stage, by the way of the last transfer
  abbrev pub made_by : ℕ → ℕ → Way → Each (Table S) → Table S → Maker → Table S
  made_by p k way mine got (GivenMatrix spec) = if spec.split then given R F job files k (GivenMatrix spec) p else got
  made_by p k way mine got (Made (step.Update name x y alpha beta)) = combination R (number_of R F alpha) (mine x) (number_of R F beta) (mine y)
  made_by p k way mine got (Made (step.Scale name value alpha)) = scaled R (number_of R F alpha) (mine value)
  made_by p k way mine got (Made (step.Apply name a x y alpha beta transposed)) =
      grown R (number_of R F alpha)
      (apply_sums R way (size_of job (shape job x).rows) (turned transposed (mine a)) got)
      (number_of R F beta) (own_addend R job p (shape job k) mine y)
  made_by p k way mine got (Made (step.Multiply name a b)) = product R (size_of job (shape job a).domain) (mine a) got
  made_by p k way mine got (Made (step.Add name a b alpha beta)) = combination R (number_of R F alpha) (mine a) (number_of R F beta) got
  made_by p k way mine got (Made step) = got
  made_by p k way mine got m = piece_of job (shape job k) p (given R F job files k m)

  abbrev pub made_piece : ℕ → ℕ → Each (Table S) → Table S → Table S
  made_piece p k mine got = made_by p k (last_way (transfers job k)) mine got (maker_of job k)

  -- By ranks, where each transfer's arrivals are the tables that came, in order.

  abbrev pub Arrivals : Type 0
  Arrivals = ℕ → ℕ → List (Table S)

  abbrev pub gathered_next : ℕ → Arrivals → ℕ → Each (Table S) → ℕ → Table S → Table S
  gathered_next p arrivals k mine stage got =
      gathered R (target_at p k stage mine).mode (is_fixed job k) (target_at p k stage mine).old
      (brought job files (transfer_at job k stage) (entries p k stage mine got) p p ∷ arrivals k stage)

  -- what rank p has gathered after so many stages of value k
  abbrev pub gathered_after : ℕ → Arrivals → ℕ → Each (Table S) → ℕ → Table S
  gathered_after p arrivals k mine zero = nowhere
  gathered_after p arrivals k mine (suc stage) = gathered_next p arrivals k mine stage (gathered_after p arrivals k mine stage)

  abbrev pub make_piece : ℕ → Arrivals → ℕ → Each (Table S) → Table S
  make_piece p arrivals k mine = made_piece p k mine (gathered_after p arrivals k mine (stage_count job k))

  -- rank p's pieces of the first n values
  abbrev pub first_pieces : ℕ → Arrivals → ℕ → Each (Table S)
  first_pieces p arrivals n = in_turn nowhere (make_piece p arrivals) n

  abbrev pub pieces : ℕ → Arrivals → Each (Table S)
  pieces p arrivals = first_pieces p arrivals (value_count job)

  -- the entries that rank p has for others at a stage of value k
  abbrev pub rank_entries : ℕ → Arrivals → ℕ → ℕ → Table S
  rank_entries p arrivals k stage =
      entries p k stage (first_pieces p arrivals k) (gathered_after p arrivals k (first_pieces p arrivals k) stage)

  -- By all ranks at once, where each has its piece of the values before.

  abbrev pub all_pieces : Each (Value S) → ℕ → Each (Table S)
  all_pieces values p v = piece_of job (shape job v) p (values v)

  abbrev pub met_next : Pick → ℕ → Each (Value S) → ℕ → Value S → Value S
  met_next pick k values stage got p =
      combined R (target_at p k stage (all_pieces values p)).mode (is_fixed job k) job.ranks (target_at p k stage (all_pieces values p)).old
      (λ q. brought job files (transfer_at job k stage) (entries q k stage (all_pieces values q) (got q)) q p)
      (source_of job (transfer_at job k stage).way (transfer_at job k stage).plan (pick k))

  -- what each rank has after so many stages of value k, where all that the ranks have for each other has come
  abbrev pub met_after : Pick → ℕ → Each (Value S) → ℕ → Value S
  met_after pick k values zero p = nowhere
  met_after pick k values (suc stage) p = met_next pick k values stage (met_after pick k values stage) p
