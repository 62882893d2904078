-- A letter of a value in the making is absorbed.
use Rattle.std.proofs.Common.{◌≡◌, ℕ, ◌<◌, ◌≤◌, List, length, Result, Ok, Err, sym, ap, ◌∙◌, subst}
use Rattle.std.specs.Prelude.{OnOk}
use Rattle.scalar_laws.specs.Semiring.{Semiring}
use Rattle.scalar_laws.specs.Conversions.{Conversions}
use Rattle.tables.specs.Tables.{found}
use Rattle.crs_matrix.specs.Rows.{row_table}
use Rattle.matrix_moves.specs.Arrivals.{ArrivingRowsState, IsPlacesLetter, after_table as after_rows, cells_of_letter, rows_from as places_from}
use Rattle.multivector.specs.Vectors.{HasSameShape}
use Rattle.outside.specs.declared.name.Name.{Name}
use Rattle.rank_transfers.specs.Arrivals.{ArrivingState, after_table, numbers_table, rows_from}
use Rattle.rank_values.specs.Vectors.{global_table}
use Rattle.vector_moves.specs.Moves.{IsRowsLetter}
use Rattle.rank_makings.specs.declared.coming.CellsComing.{CellsComing}
use Rattle.rank_makings.specs.declared.coming.RowsComing.{RowsComing}
use Rattle.rank_makings.specs.declared.coming.Coming.{Coming}
use Rattle.rank_makings.specs.declared.coming.Coming.TheVariants.{Cells, Rows}
use Rattle.rank_makings.specs.Comings.{AreCellsComing, AreRowsComing, IsComingIn, IsLetterFor, Scene, with_letter}
use Rattle.rank_makings.proofs.CellLetters.{cells-absorbed, cells-letter, cells-rank}
use Rattle.rank_makings.proofs.RowLetters.{rows-absorbed, rows-letter, rows-rank}

pub on-any : {T E Q : Type 0} (r : Result T E) → Q → OnOk r Q
on-any (Ok x) q = q
on-any (Err e) q = tt

-- what holds of each letter once it was absorbed
pub on-each : {T E L : Type 0} {P : L → Type 0} {Q : Type 0} (r : Result T E) → ((letter : L) → OnOk r (P letter)) → (((letter : L) → P letter) → Q) → OnOk r Q
on-each (Ok x) f q = q f
on-each (Err e) f q = tt

module _ {S : Type 0} (R : Semiring S) (F : Conversions S) (e : Scene S) (v : Coming S) (coming : IsComingIn R F e v) where
  module _ (c : CellsComing S) (is : v ≡ Cells c) where
    pub are-cells : AreCellsComing R F e.job e.files e.me e.pieces e.given e.k e.stage e.now c
    are-cells = subst (IsComingIn R F e) is coming

    module _ (name : Name) (bytes : List ℕ) (from : ℕ) (same : name.from ≡ from) (letter : IsLetterFor R F e name bytes) where
      pub from-cells : from < c.arriving.plan.ranks
      from-cells = cells-rank R F e.job e.files e.me e.pieces e.given e.k e.stage e.now c are-cells from (subst (λ q. q < e.job.ranks) same letter.from)

      pub letter-of-cells : IsRowsLetter c.arriving.vector.columns bytes (rows_from c.arriving.plan c.arriving.vector.map from)
      letter-of-cells =
          subst (λ q. IsRowsLetter c.arriving.vector.columns bytes (rows_from c.arriving.plan c.arriving.vector.map q)) same
          (cells-letter R F e.job e.files e.me e.pieces e.given e.k e.stage e.now c are-cells name bytes letter.from letter.to letter.read)

      pub after-cells : (new : ArrivingState S) → new.plan ≡ c.arriving.plan → new.mode ≡ c.arriving.mode → HasSameShape c.arriving.vector new.vector
          → ((l : IsRowsLetter c.arriving.vector.columns bytes (rows_from c.arriving.plan c.arriving.vector.map from))
          → global_table new.vector
          ≡ after_table R c.arriving.mode (global_table c.arriving.vector) (numbers_table F c.arriving.vector.columns (rows_from c.arriving.plan c.arriving.vector.map from) l.numbers))
          → AreCellsComing R F e.job e.files e.me e.pieces e.given e.k e.stage (with_letter R F e name bytes).now (record { source = c.source; arriving = new })
      after-cells new plan mode shape combined =
          cells-absorbed R F e.job e.files e.me e.pieces e.given e.k e.stage e.now c are-cells name bytes letter.from letter.to letter.read new plan mode shape
          (subst
          (λ q. (l : IsRowsLetter c.arriving.vector.columns bytes (rows_from c.arriving.plan c.arriving.vector.map q))
          → global_table new.vector
          ≡ after_table R c.arriving.mode (global_table c.arriving.vector) (numbers_table F c.arriving.vector.columns (rows_from c.arriving.plan c.arriving.vector.map q) l.numbers))
          (sym same) combined)

  module _ (c : RowsComing S) (is : v ≡ Rows c) where
    pub are-rows : AreRowsComing R F e.job e.files e.me e.pieces e.given e.k e.stage e.now c
    are-rows = subst (IsComingIn R F e) is coming

    module _ (name : Name) (bytes : List ℕ) (from : ℕ) (same : name.from ≡ from) (letter : IsLetterFor R F e name bytes) where
      pub from-rows : from < c.arriving.plan.ranks
      from-rows = rows-rank R F e.job e.files e.me e.pieces e.given e.k e.stage e.now c are-rows from (subst (λ q. q < e.job.ranks) same letter.from)

      pub letter-of-rows : IsPlacesLetter bytes (places_from c.arriving.plan c.arriving.fill.rows from)
      letter-of-rows =
          subst (λ q. IsPlacesLetter bytes (places_from c.arriving.plan c.arriving.fill.rows q)) same
          (rows-letter R F e.job e.files e.me e.pieces e.given e.k e.stage e.now c are-rows name bytes letter.from letter.to letter.read)

      pub after-rows : (new : ArrivingRowsState S) → new.plan ≡ c.arriving.plan → new.mode ≡ c.arriving.mode → new.fill.rows ≡ c.arriving.fill.rows
          → ((l : IsPlacesLetter bytes (places_from c.arriving.plan c.arriving.fill.rows from))
          → row_table new.fill ≡ after_rows R c.arriving.mode (row_table c.arriving.fill) (found (cells_of_letter F bytes (places_from c.arriving.plan c.arriving.fill.rows from) l)))
          → AreRowsComing R F e.job e.files e.me e.pieces e.given e.k e.stage (with_letter R F e name bytes).now (record { source = c.source; arriving = new })
      after-rows new plan mode rows combined =
          rows-absorbed R F e.job e.files e.me e.pieces e.given e.k e.stage e.now c are-rows name bytes letter.from letter.to letter.read new plan mode rows
          (subst
          (λ q. (l : IsPlacesLetter bytes (places_from c.arriving.plan c.arriving.fill.rows q))
          → row_table new.fill ≡ after_rows R c.arriving.mode (row_table c.arriving.fill) (found (cells_of_letter F bytes (places_from c.arriving.plan c.arriving.fill.rows q) l)))
          (sym same) combined)
