-- A move, an import, a spread and an export as their rank begins them.
use Rattle.std.proofs.Common.{◌≡◌, ℕ, Bool, true, List, get_or, sym, subst, ◌∙◌}
use Rattle.scalar_laws.specs.Semiring.{Semiring}
use Rattle.scalar_laws.specs.Conversions.{Conversions}
use Rattle.tables.specs.Tables.{Table}
use Rattle.combine_modes.specs.Modes.{after_one}
use Rattle.combine_modes.specs.declared.mode.Mode.TheVariants.{Replace}
use Rattle.mm_text.specs.Reading.{File}
use Rattle.model_defs.specs.declared.job.Job.{Job}
use Rattle.model_defs.specs.declared.job.Step.TheVariants as step
use Rattle.model_defs.specs.declared.phase.Plan.TheVariants.{ExportPlan, ImportPlan}
use Rattle.model_defs.specs.Makers.{Maker, Made, maker_of}
use Rattle.model_defs.specs.Maps.{has_index}
use Rattle.model_defs.specs.Operations.{filled}
use Rattle.model_defs.specs.Plans.{brought, is_target_row}
use Rattle.model_defs.specs.Shapes.{shape}
use Rattle.model_defs.specs.Stages.{Arrivals, entries_by, first_pieces, gathered_after, is_fixed, plain_target, target_by}
use Rattle.model_defs.specs.declared.phase.Transfer.{Transfer}
use Rattle.model_defs.specs.Transfers.{from_owners, to_owners, transfers_by}
use Rattle.rank_values.specs.Vectors.{global_table}
use Rattle.rank_transfers.specs.Arrivals.{after_table}
use Rattle.rank_transfers.specs.JobMoves.{ExportsAreBegun, ImportsAreBegun, MovesAreBegun, SpreadsAreBegun, gathered_first}
use Rattle.rank_transfers.proofs.Exports.{own-exports-are-brought}
use Rattle.rank_transfers.proofs.Imports.{own-rows-are-brought}

module _ {S : Type 0} (R : Semiring S) (F : Conversions S) where
  module _ (job : Job) (files : List File) (k p : ℕ) (arrivals : Arrivals R F job files) where
    abbrev pub mine : ℕ → Table S
    mine = first_pieces R F job files p arrivals k

    abbrev pub transfer : Maker → Transfer
    transfer m = get_or (transfers_by job k m) 0 (from_owners (ImportPlan 0 0))

    -- what is gathered first by the maker of the value, where its cells are fixed or not
    abbrev pub first_by : Maker → Bool → Table S
    first_by m fixed i j =
        let onto = target_by mine (plain_target fixed (transfer m).way (filled (is_target_row job files (transfer m) p) (shape job k).columns R.nought)) m in
        after_one R onto.mode fixed (onto.old i j)
        (brought job files (transfer m)
        (entries_by R F job files p k (transfer m).way 0 mine (gathered_after R F job files p arrivals k mine 0) m) p p i j)

    pub first-is : (m : Maker) → maker_of job k ≡ m → is_fixed job k ≡ true → (t : Table S) → t ≡ first_by m true → t ≡ gathered_first R F job files k p arrivals
    first-is m made fixed t e =
        let P : Maker → Type 0 = λ n. t ≡ first_by n (is_fixed job k) in
        let Q : Bool → Type 0 = λ b. t ≡ first_by m b in
        subst P (sym made) (subst Q (sym fixed) e)

  pub moves-are-begun : MovesAreBegun R F
  moves-are-begun job files k source target p arrivals plan x zeros new moved is on piece none begun =
      first-is job files k p arrivals (Made (step.Move moved.name source target)) moved.is moved.dense (global_table new)
      (begun
      ∙ (λ t. after_table R Replace (none t) (own-rows-are-brought job files (shape job source).rows target p plan x is on t))
      ∙ (λ t. after_table R Replace (filled (has_index job target p) (shape job k).columns R.nought)
      (brought job files (from_owners (ImportPlan (shape job source).rows target)) (piece t) p p)))

  pub spreads-are-begun : SpreadsAreBegun R F
  spreads-are-begun job files k source target p arrivals plan x zeros new spread is on piece none begun =
      first-is job files k p arrivals (Made (step.Spread spread.name source target)) spread.is spread.dense (global_table new)
      (begun
      ∙ (λ t. after_table R Replace (none t) (own-rows-are-brought job files (shape job source).rows target p plan x is on t))
      ∙ (λ t. after_table R Replace (filled (has_index job target p) (shape job k).columns R.nought)
      (brought job files (from_owners (ImportPlan (shape job source).rows target)) (piece t) p p)))

  pub imports-are-begun : ImportsAreBegun R F
  imports-are-begun job files k source onto mode p arrivals plan x old new imported is on piece own begun =
      first-is job files k p arrivals (Made (step.Import imported.name source onto mode)) imported.is imported.dense (global_table new)
      (begun
      ∙ (λ t. after_table R mode (own t) (own-rows-are-brought job files (shape job source).rows (shape job onto).rows p plan x is on t))
      ∙ (λ t. after_table R mode (first_pieces R F job files p arrivals k onto)
      (brought job files (from_owners (ImportPlan (shape job source).rows (shape job onto).rows)) (piece t) p p)))

  pub exports-are-begun : ExportsAreBegun R F
  exports-are-begun job files k source onto mode p arrivals plan x old new exported is on piece own begun =
      first-is job files k p arrivals (Made (step.Export exported.name source onto mode)) exported.is exported.dense (global_table new)
      (begun
      ∙ (λ t. after_table R mode (own t) (own-exports-are-brought job files (shape job source).rows (shape job onto).rows p plan x is on t))
      ∙ (λ t. after_table R mode (first_pieces R F job files p arrivals k onto)
      (brought job files (to_owners (ExportPlan (shape job source).rows (shape job onto).rows)) (piece t) p p)))
