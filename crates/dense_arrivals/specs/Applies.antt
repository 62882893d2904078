-- An apply at one rank, stage after stage: what it has for others, onto what it gathers, and what it makes.
use Rattle.std.specs.Prelude.{◌≡◌, ◌<◌, ◌-◌, ℕ, Bool, true, false, List, Option, is_some, if◌then◌else◌}
use Rattle.scalar_laws.specs.Semiring.{Semiring}
use Rattle.scalar_laws.specs.Conversions.{Conversions}
use Rattle.tables.specs.Indices.{stands}
use Rattle.tables.specs.Tables.{Table}
use Rattle.combine_modes.specs.declared.mode.Mode.TheVariants.{Add, Replace}
use Rattle.mm_text.specs.Reading.{File}
use Rattle.model_defs.specs.declared.job.Job.{Job}
use Rattle.model_defs.specs.declared.phase.Transfer.{Transfer}
use Rattle.model_defs.specs.declared.phase.Way.{Way}
use Rattle.model_defs.specs.declared.phase.Way.TheVariants.{FromOwners, ToOwners}
use Rattle.model_defs.specs.declared.phase.Plan.TheVariants.{ColumnPlan, RowPlan}
use Rattle.model_defs.specs.FileMatrix.{number_of}
use Rattle.model_defs.specs.Fitting.{IsFitting}
use Rattle.model_defs.specs.Laws.{HasPlaces}
use Rattle.model_defs.specs.Letters.{entry_places}
use Rattle.model_defs.specs.Maps.{has_index, size_of}
use Rattle.model_defs.specs.Operations.{combination, filled, grown, product, turned}
use Rattle.model_defs.specs.Plans.{rank_list_by}
use Rattle.model_defs.specs.Shapes.{shape, is_split_sort}
use Rattle.model_defs.specs.Stages.{Arrivals, first_pieces, gathered_after, made_piece, own_addend, rank_entries, stage_count, target_at, transfer_at}
use Rattle.model_defs.specs.Transfers.{owner_map, from_owners, to_owners}
use Rattle.model_defs.specs.Valid.{IsValid}
use Rattle.rank_matrices.specs.Matrices.{product_on}
use Rattle.value_phases.specs.ValueKinds.{IsApply}
use Rattle.dense_arrivals.specs.DenseBegun.{AgreeOn}

-- An apply of a valid job whose files fit.
pub record IsGoodApply (job : Job) (files : List File) (k : ℕ) : Type 0 where
  pub valid : IsValid job
  pub fitting : IsFitting job files
  pub apply : IsApply job k

-- Its transfers: x comes to where the places are, and sums that were made elsewhere go to the result's owners.
abbrev pub first_transfer : ℕ → (split transposed : Bool) → Transfer
first_transfer a false false = from_owners (ColumnPlan a)
first_transfer a false true = to_owners (ColumnPlan a)
first_transfer a true false = from_owners (ColumnPlan a)
first_transfer a true true = from_owners (RowPlan a)

abbrev pub second_transfer : ℕ → (transposed : Bool) → Transfer
second_transfer a false = to_owners (RowPlan a)
second_transfer a true = to_owners (ColumnPlan a)

-- whether numbers come from the owners
abbrev pub is_from_owners : Way → Bool
is_from_owners FromOwners = true
is_from_owners ToOwners = false

-- a number is there exactly where another one is
abbrev pub IsThere : {S : Type 0} → Option S → Option S → Type 0
IsThere a b = is_some a ≡ is_some b

abbrev pub AppliesHaveTransfers : Type 0
AppliesHaveTransfers =
    (job : Job) (k : ℕ) (apply : IsApply job k)
    → (transfer_at job k 0 ≡ first_transfer apply.a (is_split_sort (shape job apply.a).sort) apply.transposed)
    × (stage_count job k ≡ (if is_split_sort (shape job apply.a).sort then 2 else 1))
    × (is_split_sort (shape job apply.a).sort ≡ true → transfer_at job k 1 ≡ second_transfer apply.a apply.transposed)

module _ {S : Type 0} (R : Semiring S) (F : Conversions S) where
  module _ (job : Job) (files : List File) (p : ℕ) (arrivals : Arrivals R F job files) (k : ℕ) where
    -- the rank's pieces of the values before, and what it gathered at the stages before
    abbrev pub mine : ℕ → Table S
    mine = first_pieces R F job files p arrivals k

    abbrev pub got : ℕ → Table S
    got stage = gathered_after R F job files p arrivals k (first_pieces R F job files p arrivals k) stage

  -- Where x goes from its owners, the rank's entries are its cells of x.
  abbrev pub CopiesOfX : Type 0
  CopiesOfX =
      (job : Job) (files : List File) (k p : ℕ) (arrivals : Arrivals R F job files) (good : IsGoodApply job files k)
      → (transfer_at job k 0).way ≡ FromOwners
      → rank_entries R F job files p arrivals k 0 ≡ mine job files p arrivals k good.apply.x

  -- Where sums go to their owners, its entries are the sums of its places with what it has of x, at the rows that it keeps or sends.
  -- Of a matrix that is whole that is its own piece of x, of a split one what it gathered at the stage before. All places that it
  -- has for others must have come, as `EntriesArePlaced` says it.
  abbrev pub SumsOfOwn : Type 0
  SumsOfOwn =
      (job : Job) (files : List File) (k p stage : ℕ) (arrivals : Arrivals R F job files) (good : IsGoodApply job files k) (list : List ℕ) (near : Table S)
      → stage < stage_count job k → (transfer_at job k stage).way ≡ ToOwners
      → HasPlaces (rank_entries R F job files p arrivals k stage) (entry_places job files p k stage)
      → ((g : ℕ) → stands g list ≡ stands g (rank_list_by job files (transfer_at job k stage).plan p))
      → near ≡ (if is_split_sort (shape job good.apply.a).sort then got job files p arrivals k 1 else mine job files p arrivals k good.apply.x)
      → AgreeOn job files (transfer_at job k stage) p
      (product_on R list (shape job k).columns (size_of job (shape job good.apply.x).rows) (turned good.apply.transposed (mine job files p arrivals k good.apply.a)) near)
      (rank_entries R F job files p arrivals k stage)

  -- What comes replaces noughts, sums are added to noughts, at the rows of the transfer's target.
  abbrev pub AppliesAreOntoNoughts : Type 0
  AppliesAreOntoNoughts =
      (job : Job) (files : List File) (k p stage : ℕ) (arrivals : Arrivals R F job files) (good : IsGoodApply job files k) (list : List ℕ) → stage < stage_count job k
      → ((g : ℕ) → stands g list ≡ (if is_from_owners (transfer_at job k stage).way then stands g (rank_list_by job files (transfer_at job k stage).plan p)
      else has_index job (owner_map job (transfer_at job k stage).plan) p g))
      → ((target_at R F job files p k stage (mine job files p arrivals k)).mode ≡ (if is_from_owners (transfer_at job k stage).way then Replace else Add))
      × ((target_at R F job files p k stage (mine job files p arrivals k)).old ≡ filled (λ i. stands i list) (shape job k).columns R.nought)

  -- At the end: the copies of x that came are multiplied, or the sums came.
  abbrev pub CopiesAreApplied : Type 0
  CopiesAreApplied =
      (job : Job) (files : List File) (k p : ℕ) (arrivals : Arrivals R F job files) (good : IsGoodApply job files k) (came : Table S)
      → is_split_sort (shape job good.apply.a).sort ≡ false → good.apply.transposed ≡ false
      → made_piece R F job files p k (mine job files p arrivals k) came
      ≡ grown R (number_of R F good.apply.alpha)
      (product R (size_of job (shape job good.apply.x).rows) (mine job files p arrivals k good.apply.a) came)
      (number_of R F good.apply.beta) (own_addend R job p (shape job k) (mine job files p arrivals k) good.apply.y)

  abbrev pub SumsAreApplied : Type 0
  SumsAreApplied =
      (job : Job) (files : List File) (k p : ℕ) (arrivals : Arrivals R F job files) (good : IsGoodApply job files k) (came : Table S)
      → (transfer_at job k (stage_count job k - 1)).way ≡ ToOwners
      → ((i j : ℕ) → IsThere (came i j) (own_addend R job p (shape job k) (mine job files p arrivals k) good.apply.y i j))
      → made_piece R F job files p k (mine job files p arrivals k) came
      ≡ combination R (number_of R F good.apply.alpha) came (number_of R F good.apply.beta)
      (own_addend R job p (shape job k) (mine job files p arrivals k) good.apply.y)
