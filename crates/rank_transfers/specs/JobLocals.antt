-- A value whose transfer goes from a map to itself: nothing is sent, and each rank makes its piece of its own cells.
use Rattle.std.specs.Prelude.{◌≡◌, ℕ, true, List, [], None, Some}
use Rattle.scalar_laws.specs.Semiring.{Semiring}
use Rattle.scalar_laws.specs.Conversions.{Conversions}
use Rattle.tables.specs.Tables.{Table}
use Rattle.combine_modes.specs.declared.mode.Mode.{Mode}
use Rattle.multivector.specs.Vectors.{IsVector, VectorState}
use Rattle.mm_text.specs.Reading.{File}
use Rattle.peers.specs.Protocols.{Letter}
use Rattle.model_defs.specs.declared.job.Job.{Job}
use Rattle.model_defs.specs.Machine.{arrivals}
use Rattle.model_defs.specs.Makers.{maker_of}
use Rattle.model_defs.specs.Maps.{list_of}
use Rattle.model_defs.specs.Phases.{send_phase}
use Rattle.model_defs.specs.Shapes.{shape}
use Rattle.model_defs.specs.Stages.{Arrivals, first_pieces, made_piece, make_piece, stage_count, transfer_at}
use Rattle.model_defs.specs.Transfers.{is_local}
use Rattle.rank_stages.specs.DataLaws.{copied_by}
use Rattle.rank_values.specs.Vectors.{global_table}
use Rattle.rank_transfers.specs.Arrivals.{after_table}
use Rattle.rank_transfers.specs.JobMoves.{IsExported, IsImported, IsMoved, IsSpread}

-- No phase sends the numbers of a transfer that goes by such a plan.
abbrev pub LocalTransfersAreUnsent : Type 0
LocalTransfersAreUnsent = (job : Job) (k t : ℕ) → is_local (transfer_at job k t).plan ≡ true → send_phase job k t ≡ None

module _ {S : Type 0} (R : Semiring S) (F : Conversions S) where
  -- So nothing comes by it, whatever letters were given.
  abbrev pub NothingComesByLocals : Type 0
  NothingComesByLocals =
      (job : Job) (files : List File) (p k t : ℕ) (given : List Letter) → is_local (transfer_at job k t).plan ≡ true
      → arrivals R F job files p given k t ≡ []

  -- What is made of cells that are sent as they are is what was gathered in its one transfer.
  abbrev pub CopiesAreGathered : Type 0
  CopiesAreGathered =
      (job : Job) (files : List File) (k source p : ℕ) (mine : ℕ → Table S) (got : Table S) → copied_by (maker_of job k) ≡ Some source
      → (stage_count job k ≡ 1) × (made_piece R F job files p k mine got ≡ got)

  -- An import from a map to itself combines the rank's own cells with those of its parts.
  abbrev pub LocalImportsAreMade : Type 0
  LocalImportsAreMade =
      (job : Job) (files : List File) (k source onto : ℕ) (mode : Mode) (p : ℕ) (arrivals : Arrivals R F job files) (x old : VectorState S)
      → IsImported job k source onto mode → (shape job source).rows ≡ (shape job onto).rows → arrivals k 0 ≡ []
      → x.map ≡ list_of job (shape job source).rows p → global_table x ≡ first_pieces R F job files p arrivals k source
      → global_table old ≡ first_pieces R F job files p arrivals k onto
      → make_piece R F job files p arrivals k (first_pieces R F job files p arrivals k) ≡ after_table R mode (global_table old) (global_table x)

  -- So does an export.
  abbrev pub LocalExportsAreMade : Type 0
  LocalExportsAreMade =
      (job : Job) (files : List File) (k source onto : ℕ) (mode : Mode) (p : ℕ) (arrivals : Arrivals R F job files) (x old : VectorState S)
      → IsExported job k source onto mode → (shape job source).rows ≡ (shape job onto).rows → arrivals k 0 ≡ []
      → x.map ≡ list_of job (shape job source).rows p → global_table x ≡ first_pieces R F job files p arrivals k source
      → global_table old ≡ first_pieces R F job files p arrivals k onto
      → make_piece R F job files p arrivals k (first_pieces R F job files p arrivals k) ≡ after_table R mode (global_table old) (global_table x)

  -- A move or a spread from a map to itself has the source's cells.
  abbrev pub LocalMovesAreMade : Type 0
  LocalMovesAreMade =
      (job : Job) (files : List File) (k source target p : ℕ) (arrivals : Arrivals R F job files) (x : VectorState S)
      → IsMoved job k source target → (shape job source).rows ≡ target → arrivals k 0 ≡ []
      → IsVector x → x.columns ≡ (shape job k).columns
      → x.map ≡ list_of job (shape job source).rows p → global_table x ≡ first_pieces R F job files p arrivals k source
      → make_piece R F job files p arrivals k (first_pieces R F job files p arrivals k) ≡ global_table x

  abbrev pub LocalSpreadsAreMade : Type 0
  LocalSpreadsAreMade =
      (job : Job) (files : List File) (k source target p : ℕ) (arrivals : Arrivals R F job files) (x : VectorState S)
      → IsSpread job k source target → (shape job source).rows ≡ target → arrivals k 0 ≡ []
      → IsVector x → x.columns ≡ (shape job k).columns
      → x.map ≡ list_of job (shape job source).rows p → global_table x ≡ first_pieces R F job files p arrivals k source
      → make_piece R F job files p arrivals k (first_pieces R F job files p arrivals k) ≡ global_table x
