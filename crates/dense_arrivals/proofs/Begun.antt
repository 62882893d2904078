-- A vector as its rank begins it.
use Rattle.std.proofs.Common.{◌≡◌, ℕ, Bool, true, false, cond, List, None, refl, sym, ◌∙◌}
use Rattle.scalar_laws.specs.Semiring.{Semiring}
use Rattle.scalar_laws.specs.Conversions.{Conversions}
use Rattle.tables.specs.Tables.{Table}
use Rattle.map_core.specs.Plans.{PlanLists}
use Rattle.combine_modes.specs.Modes.{after_one}
use Rattle.mm_text.specs.Reading.{File}
use Rattle.multivector.specs.Vectors.{VectorState}
use Rattle.model_defs.specs.declared.job.Job.{Job}
use Rattle.model_defs.specs.declared.phase.Transfer.{Transfer}
use Rattle.model_defs.specs.Plans.{brought, passes}
use Rattle.model_defs.specs.Stages.{first_pieces, rank_entries, target_at, transfer_at}
use Rattle.rank_transfers.specs.Arrivals.{after_table, own_rows}
use Rattle.rank_values.specs.Vectors.{global_table}
use Rattle.matrix_arrivals.specs.RowPlans.{IsServing}
use Rattle.dense_arrivals.specs.DenseBegun.{AgreeOn, CellsAreBegun, ServingPlansCanBegin}

pub serving-plans-can-begin : ServingPlansCanBegin
serving-plans-can-begin job files t p source target plan is few =
    record { own = is.own; targets = record { below = is.targets.below; once = is.targets.once }; few_rows = few }

-- the rows that stay of a vector are brought, of any table that agrees with it there
own-are-brought : {S : Type 0} (job : Job) (files : List File) (t : Transfer) (p : ℕ) (target : List ℕ) (plan : PlanLists) (v : VectorState S) (entries : Table S)
    → IsServing job files t p v.map target plan → AgreeOn job files t p (global_table v) entries → own_rows plan v ≡ brought job files t entries p p
own-are-brought job files t p target plan v entries is agree =
    (λ s g j. cond (is.kept g s) (global_table v g j) None) ∙ (λ s g j. by g j (passes job files t p p g) refl s)
  where
    by : (g j : ℕ) (b : Bool) → passes job files t p p g ≡ b → cond b (global_table v g j) None ≡ cond b (entries g j) None
    by g j true e = agree.0 g j e
    by g j false e = refl

pub cells-are-begun : {S : Type 0} (R : Semiring S) (F : Conversions S) → CellsAreBegun R F
cells-are-begun R F job files k stage p arrivals plan x old new fixed is agree before begun =
    let onto = target_at R F job files p k stage (first_pieces R F job files p arrivals k) in
    let entries = rank_entries R F job files p arrivals k stage in
    begun
    ∙ (λ s. after_table R onto.mode (before s) (own-are-brought job files (transfer_at job k stage) p old.map plan x entries is agree s))
    ∙ (λ s i j. after_one R onto.mode (sym fixed s) (onto.old i j) (brought job files (transfer_at job k stage) entries p p i j))
