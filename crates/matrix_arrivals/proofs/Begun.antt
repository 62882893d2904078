-- A matrix as its rank begins it.
use Rattle.std.proofs.Common.{◌≡◌, Bool, true, false, cond, None, refl, sym, ap, ◌∙◌}
use Rattle.scalar_laws.specs.Semiring.{Semiring}
use Rattle.scalar_laws.specs.Conversions.{Conversions}
use Rattle.tables.specs.Tables.{Table, nowhere}
use Rattle.combine_modes.specs.declared.mode.Mode.TheVariants as modes
use Rattle.combine_modes.specs.Modes.{after_one}
use Rattle.crs_matrix.specs.Rows.{row_table}
use Rattle.matrix_moves.specs.Arrivals.{after_table}
use Rattle.model_defs.specs.declared.job.Step.TheVariants as step
use Rattle.model_defs.specs.declared.phase.Way.{Way}
use Rattle.model_defs.specs.Makers.{GivenMatrix, GivenParts, GivenVector, Made, Maker, maker_of}
use Rattle.model_defs.specs.Operations.{filled}
use Rattle.model_defs.specs.Plans.{brought, is_target_row}
use Rattle.model_defs.specs.Shapes.{shape}
use Rattle.model_defs.specs.Stages.{first_pieces, is_fixed, plain_target, rank_entries, target_by, transfer_at}
use Rattle.model_defs.specs.Turns.{Each}
use Rattle.matrix_arrivals.specs.RowsBegun.{AssembledRowsAreCombined, OwnRowsAreBrought, PlainRowsAreAdded, RowsAreBegun, is_plain, onto}

pub own-rows-are-brought : {S : Type 0} → OwnRowsAreBrought S
own-rows-are-brought job files t p target plan a is = λ s g j. cond (is.kept g s) (row_table a g j) None

pub rows-are-begun : {S : Type 0} (R : Semiring S) (F : Conversions S) → RowsAreBegun R F
rows-are-begun R F job files k stage p arrivals plan a old new loose is entries before begun =
    let mode = (onto R F job files p arrivals k stage).mode in
    begun
    ∙ (λ s. after_table R mode (before s) (own-rows-are-brought job files (transfer_at job k stage) p old.rows plan a is s))
    ∙ (λ s. after_table R mode (onto R F job files p arrivals k stage).old (brought job files (transfer_at job k stage) (entries s) p p))
    ∙ (λ s i j. after_one R mode (sym loose s) ((onto R F job files p arrivals k stage).old i j)
    (brought job files (transfer_at job k stage) (rank_entries R F job files p arrivals k stage) p p i j))

plain-is : {S : Type 0} (mine : Each (Table S)) (way : Way) (noughts : Table S) (m : Maker) (b : Bool) → is_plain m ≡ true → b ≡ false
    → ((target_by mine (plain_target b way noughts) m).mode ≡ modes.Add) × ((target_by mine (plain_target b way noughts) m).old ≡ nowhere)
plain-is mine way noughts m true e h = absurd (let bad : ⊥ = cc in bad)
plain-is mine way noughts (GivenMatrix spec) false e h = (refl, refl)
plain-is mine way noughts (Made (step.Move name source m)) false e h = (refl, refl)
plain-is mine way noughts (Made (step.Transpose name a)) false e h = (refl, refl)
plain-is mine way noughts (Made (step.Multiply name a b)) false e h = (refl, refl)
plain-is mine way noughts (Made (step.Add name a b alpha beta)) false e h = (refl, refl)
plain-is mine way noughts (GivenVector spec) false e h = absurd (let bad : ⊥ = cc in bad)
plain-is mine way noughts (GivenParts spec) false e h = absurd (let bad : ⊥ = cc in bad)
plain-is mine way noughts (Made (step.Import name source base mode)) false e h = absurd (let bad : ⊥ = cc in bad)
plain-is mine way noughts (Made (step.Export name source base mode)) false e h = absurd (let bad : ⊥ = cc in bad)
plain-is mine way noughts (Made (step.Spread name source m)) false e h = absurd (let bad : ⊥ = cc in bad)
plain-is mine way noughts (Made (step.Update name x y alpha beta)) false e h = absurd (let bad : ⊥ = cc in bad)
plain-is mine way noughts (Made (step.Scale name value alpha)) false e h = absurd (let bad : ⊥ = cc in bad)
plain-is mine way noughts (Made (step.Apply name a x y alpha beta transposed)) false e h = absurd (let bad : ⊥ = cc in bad)
plain-is mine way noughts (Made (step.Assemble name source base mode)) false e h = absurd (let bad : ⊥ = cc in bad)
plain-is mine way noughts (Made (step.Print value)) false e h = absurd (let bad : ⊥ = cc in bad)

pub plain-rows-are-added : {S : Type 0} (R : Semiring S) (F : Conversions S) → PlainRowsAreAdded R F
plain-rows-are-added R F job files k stage p arrivals plain loose =
    plain-is (first_pieces R F job files p arrivals k) (transfer_at job k stage).way
    (filled (is_target_row job files (transfer_at job k stage) p) (shape job k).columns R.nought) (maker_of job k) (is_fixed job k) plain loose

pub assembled-rows-are-combined : {S : Type 0} (R : Semiring S) (F : Conversions S) → AssembledRowsAreCombined R F
assembled-rows-are-combined R F job files k stage p arrivals name source base mode e =
    let mine = first_pieces R F job files p arrivals k in
    let plain = plain_target (is_fixed job k) (transfer_at job k stage).way (filled (is_target_row job files (transfer_at job k stage) p) (shape job k).columns R.nought) in
    (ap (λ m. (target_by mine plain m).mode) e, ap (λ m. (target_by mine plain m).old) e)
