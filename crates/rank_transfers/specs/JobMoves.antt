-- A value that is made by a move, an import, a spread or an export, as its rank begins it.
use Rattle.std.specs.Prelude.{◌≡◌, ℕ, true, List}
use Rattle.scalar_laws.specs.Semiring.{Semiring}
use Rattle.scalar_laws.specs.Conversions.{Conversions}
use Rattle.map_core.specs.Plans.{PlanLists}
use Rattle.combine_modes.specs.Modes.{after_one}
use Rattle.combine_modes.specs.declared.mode.Mode.{Mode}
use Rattle.combine_modes.specs.declared.mode.Mode.TheVariants.{Replace}
use Rattle.multivector.specs.Vectors.{VectorState}
use Rattle.mm_text.specs.Reading.{File}
use Rattle.model_defs.specs.declared.job.Job.{Job}
use Rattle.model_defs.specs.declared.job.Step.TheVariants as step
use Rattle.model_defs.specs.Makers.{Made, maker_of}
use Rattle.model_defs.specs.Maps.{has_index, list_of}
use Rattle.model_defs.specs.Operations.{filled}
use Rattle.model_defs.specs.Plans.{brought}
use Rattle.model_defs.specs.Shapes.{is_dense, shape}
use Rattle.model_defs.specs.Stages.{Arrivals, first_pieces, is_fixed, rank_entries, target_at, transfer_at}
use Rattle.tables.specs.Tables.{Table}
use Rattle.rank_values.specs.Vectors.{global_table}
use Rattle.rank_transfers.specs.Arrivals.{after_table, own_rows}
use Rattle.rank_transfers.specs.JobRows.{IsJobExport, IsJobImport}

-- Value k is a dense value that is made by a move to a map.
pub record IsMoved (job : Job) (k source target : ℕ) : Type 0 where
  pub name : List ℕ
  pub is : maker_of job k ≡ Made (step.Move name source target)
  pub dense : is_dense (shape job k).sort ≡ true

-- It is made by an import onto parts,
pub record IsImported (job : Job) (k source onto : ℕ) (mode : Mode) : Type 0 where
  pub name : List ℕ
  pub is : maker_of job k ≡ Made (step.Import name source onto mode)
  pub dense : is_dense (shape job k).sort ≡ true

-- by a spread to a map,
pub record IsSpread (job : Job) (k source target : ℕ) : Type 0 where
  pub name : List ℕ
  pub is : maker_of job k ≡ Made (step.Spread name source target)
  pub dense : is_dense (shape job k).sort ≡ true

-- or by an export onto a vector.
pub record IsExported (job : Job) (k source onto : ℕ) (mode : Mode) : Type 0 where
  pub name : List ℕ
  pub is : maker_of job k ≡ Made (step.Export name source onto mode)
  pub dense : is_dense (shape job k).sort ≡ true

module _ {S : Type 0} (R : Semiring S) (F : Conversions S) where
  -- What is begun with zeros is what the job's rank gathers first.
  abbrev pub MovesAreBegun : Type 0
  MovesAreBegun =
      (job : Job) (files : List File) (k source target p : ℕ) (arrivals : Arrivals R F job files) (plan : PlanLists) (x zeros new : VectorState S)
      → IsMoved job k source target → IsJobImport job files (shape job source).rows target p plan
      → x.map ≡ list_of job (shape job source).rows p → global_table x ≡ first_pieces R F job files p arrivals k source
      → global_table zeros ≡ filled (has_index job target p) (shape job k).columns R.nought
      → global_table new ≡ after_table R Replace (global_table zeros) (own_rows plan x)
      → (let onto = target_at R F job files p k 0 (first_pieces R F job files p arrivals k) in
      global_table new
      ≡ (λ i j. after_one R onto.mode (is_fixed job k) (onto.old i j)
      (brought job files (transfer_at job k 0) (rank_entries R F job files p arrivals k 0) p p i j)))

  -- What rank p gathers first for value k: what it brings to itself, combined with what the value is gathered onto.
  abbrev pub gathered_first : (job : Job) (files : List File) (k p : ℕ) → Arrivals R F job files → Table S
  gathered_first job files k p arrivals =
      let onto = target_at R F job files p k 0 (first_pieces R F job files p arrivals k) in
      λ i j. after_one R onto.mode (is_fixed job k) (onto.old i j)
      (brought job files (transfer_at job k 0) (rank_entries R F job files p arrivals k 0) p p i j)

  -- An import is begun onto the rank's own parts.
  abbrev pub ImportsAreBegun : Type 0
  ImportsAreBegun =
      (job : Job) (files : List File) (k source onto : ℕ) (mode : Mode) (p : ℕ) (arrivals : Arrivals R F job files) (plan : PlanLists) (x old new : VectorState S)
      → IsImported job k source onto mode → IsJobImport job files (shape job source).rows (shape job onto).rows p plan
      → x.map ≡ list_of job (shape job source).rows p → global_table x ≡ first_pieces R F job files p arrivals k source
      → global_table old ≡ first_pieces R F job files p arrivals k onto
      → global_table new ≡ after_table R mode (global_table old) (own_rows plan x)
      → global_table new ≡ gathered_first job files k p arrivals

  -- A spread is begun with zeros.
  abbrev pub SpreadsAreBegun : Type 0
  SpreadsAreBegun =
      (job : Job) (files : List File) (k source target p : ℕ) (arrivals : Arrivals R F job files) (plan : PlanLists) (x zeros new : VectorState S)
      → IsSpread job k source target → IsJobImport job files (shape job source).rows target p plan
      → x.map ≡ list_of job (shape job source).rows p → global_table x ≡ first_pieces R F job files p arrivals k source
      → global_table zeros ≡ filled (has_index job target p) (shape job k).columns R.nought
      → global_table new ≡ after_table R Replace (global_table zeros) (own_rows plan x)
      → global_table new ≡ gathered_first job files k p arrivals

  -- An export is begun onto the rank's own piece of the vector, with the rank's own part.
  abbrev pub ExportsAreBegun : Type 0
  ExportsAreBegun =
      (job : Job) (files : List File) (k source onto : ℕ) (mode : Mode) (p : ℕ) (arrivals : Arrivals R F job files) (plan : PlanLists) (x old new : VectorState S)
      → IsExported job k source onto mode → IsJobExport job files (shape job source).rows (shape job onto).rows p plan
      → x.map ≡ list_of job (shape job source).rows p → global_table x ≡ first_pieces R F job files p arrivals k source
      → global_table old ≡ first_pieces R F job files p arrivals k onto
      → global_table new ≡ after_table R mode (global_table old) (own_rows plan x)
      → global_table new ≡ gathered_first job files k p arrivals
