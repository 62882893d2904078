-- The letters of a value in the making are packed of what is sent.
use Rattle.std.proofs.Common.{◌≡◌, ℕ, ◌<◌, ◌≤◌, List, length, get_or, Some, Result, Ok, Err, IfOk, sym, ap, ◌∙◌, subst}
use Rattle.std.specs.Prelude.{slice_get}
use Rattle.std.proofs.lemmas.Option.{slice_get-get_or, slice_get_within, same_Some}
use Rattle.scalar_laws.specs.Semiring.{Semiring}
use Rattle.scalar_laws.specs.Conversions.{Conversions}
use Rattle.tables.specs.Indices.{AreBelow}
use Rattle.crs_matrix.specs.ByRow.{by_row}
use Rattle.crs_matrix.specs.Rows.{RowCells, row_table}
use Rattle.map_core.specs.Plans.{export_list}
use Rattle.matrix_moves.specs.Sources.{HasWidth, rows_letter, rows_to as places_to}
use Rattle.multivector.specs.Vectors.{VectorState}
use Rattle.model_defs.specs.Letters.{width}
use Rattle.rank_transfers.specs.Arrivals.{rows_to, table_letter}
use Rattle.rank_values.specs.Vectors.{global_table}
use Rattle.rank_pieces.specs.declared.pieces.Piece.{Piece}
use Rattle.rank_pieces.specs.declared.pieces.Piece.TheVariants.{Vector, Matrix}
use Rattle.rank_pieces.specs.declared.pieces.RankMatrix.{RankMatrix}
use Rattle.rank_makings.specs.declared.coming.CellSource.TheVariants as cell
use Rattle.rank_makings.specs.declared.coming.RowSource.TheVariants as row
use Rattle.rank_makings.specs.declared.coming.CellsComing.{CellsComing}
use Rattle.rank_makings.specs.declared.coming.RowsComing.{RowsComing}
use Rattle.rank_makings.specs.Comings.{AreCellsComing, AreRowsComing, HasLetterTo, IsCellSource, IsSentRows, Scene, letter_to}
use Rattle.rank_makings.proofs.CellLetters.{cells-below, cells-columns, cells-content, cells-rank, cells-some}
use Rattle.rank_makings.proofs.RowLetters.{rows-below, rows-content, rows-rank, rows-some, rows-width}

pub if-ok : {T E : Type 0} {P Q : T → Type 0} (r : Result T E) → IfOk r P → ((x : T) → P x → Q x) → IfOk r Q
if-ok (Ok x) p f = f x p
if-ok (Err e) p f = tt

module _ {S : Type 0} (R : Semiring S) (F : Conversions S) (e : Scene S) (pieces : List (Piece S)) (same : e.pieces ≡ pieces) where
  module _ (c : CellsComing S) (h : AreCellsComing R F e.job e.files e.me e.pieces e.given e.k e.stage e.now c) where
    -- the vector of a piece, or the sums
    module _ (v : ℕ) (is : c.source ≡ cell.Piece v) where
      piece-at : slice_get pieces v ≡ Some (Vector h.sent)
      piece-at = ap (λ ps. slice_get ps v) (sym same) ∙ subst (λ s. IsCellSource e.pieces s h.sent) is h.sent_is

      pub cells-known : v < length pieces
      cells-known = slice_get_within pieces v (Vector h.sent) piece-at

      found-at : (x : Piece S) → x ≡ get_or pieces v x → Vector h.sent ≡ x
      found-at x at = same_Some (Vector h.sent) x (sym piece-at ∙ slice_get-get_or pieces v x cells-known ∙ ap Some (sym at))

      pub cells-of-piece : (x : Piece S) (a : VectorState S) → x ≡ get_or pieces v x → x ≡ Vector a → a ≡ h.sent
      cells-of-piece x a at vector = let one : Vector h.sent ≡ Vector a = found-at x at ∙ vector in cc

      pub cells-no-matrix : (x : Piece S) (m : RankMatrix S) → x ≡ get_or pieces v x → x ≡ Matrix m → ⊥
      cells-no-matrix x m at matrix = let one : Vector h.sent ≡ Matrix m = found-at x at ∙ matrix in cc

    pub cells-of-sums : (sums : VectorState S) → c.source ≡ cell.Sums sums → sums ≡ h.sent
    cells-of-sums sums is = subst (λ s. IsCellSource e.pieces s h.sent) is h.sent_is

    module _ (to : ℕ) (letter : HasLetterTo e to) where
      pub cells-to : to < c.arriving.plan.ranks
      cells-to = cells-rank R F e.job e.files e.me e.pieces e.given e.k e.stage e.now c h to letter.known

      pub cells-some-row : 1 ≤ length (export_list c.arriving.plan to)
      cells-some-row = cells-some R F e.job e.files e.me e.pieces e.given e.k e.stage e.now c h to letter.known letter.some_row

      module _ (a : VectorState S) (is : a ≡ h.sent) where
        pub cells-many : a.columns ≡ c.arriving.vector.columns
        cells-many = ap (λ x. x.columns) is ∙ cells-columns R F e.job e.files e.me e.pieces e.given e.k e.stage e.now c h

        pub cells-sources : AreBelow (length a.map) (export_list c.arriving.plan to)
        cells-sources = subst (λ x. AreBelow (length x.map) (export_list c.arriving.plan to)) (sym is) (cells-below R F e.job e.files e.me e.pieces e.given e.k e.stage e.now c h to)

        pub cells-packed : table_letter R F a.columns (global_table a) (rows_to c.arriving.plan a.map to) ≡ letter_to R F e to
        cells-packed =
            ap (λ x. table_letter R F x.columns (global_table x) (rows_to c.arriving.plan x.map to)) is
            ∙ cells-content R F e.job e.files e.me e.pieces e.given e.k e.stage e.now c h to letter.known

  module _ (c : RowsComing S) (h : AreRowsComing R F e.job e.files e.me e.pieces e.given e.k e.stage e.now c) where
    -- the rows of a piece, or those that were dealt
    module _ (v : ℕ) (is : c.source ≡ row.Piece v) where
      sent-rows : (m : RankMatrix S) × (slice_get e.pieces v ≡ Some (Matrix m)) × (by_row m.matrix ≡ h.sent)
      sent-rows = subst (λ s. IsSentRows e.pieces s h.sent) is h.sent_is

      matrix-at : slice_get pieces v ≡ Some (Matrix sent-rows.0)
      matrix-at = ap (λ ps. slice_get ps v) (sym same) ∙ sent-rows.1

      pub rows-known : v < length pieces
      rows-known = slice_get_within pieces v (Matrix sent-rows.0) matrix-at

      matrix-found : (x : Piece S) → x ≡ get_or pieces v x → Matrix sent-rows.0 ≡ x
      matrix-found x at = same_Some (Matrix sent-rows.0) x (sym matrix-at ∙ slice_get-get_or pieces v x rows-known ∙ ap Some (sym at))

      pub rows-of-piece : (x : Piece S) (m : RankMatrix S) → x ≡ get_or pieces v x → x ≡ Matrix m → by_row m.matrix ≡ h.sent
      rows-of-piece x m at matrix =
          let one : Matrix sent-rows.0 ≡ Matrix m = matrix-found x at ∙ matrix in
          let own : m ≡ sent-rows.0 = cc in
          ap (λ n. by_row n.matrix) own ∙ sent-rows.2

      pub rows-no-vector : (x : Piece S) (a : VectorState S) → x ≡ get_or pieces v x → x ≡ Vector a → ⊥
      rows-no-vector x a at vector = let one : Matrix sent-rows.0 ≡ Vector a = matrix-found x at ∙ vector in cc

    pub rows-of-fill : (fill : RowCells S) → c.source ≡ row.Own fill → fill ≡ h.sent
    rows-of-fill fill is = subst (λ s. IsSentRows e.pieces s h.sent) is h.sent_is

    module _ (to : ℕ) (letter : HasLetterTo e to) where
      pub rows-to : to < c.arriving.plan.ranks
      rows-to = rows-rank R F e.job e.files e.me e.pieces e.given e.k e.stage e.now c h to letter.known

      pub rows-some-row : 1 ≤ length (export_list c.arriving.plan to)
      rows-some-row = rows-some R F e.job e.files e.me e.pieces e.given e.k e.stage e.now c h to letter.known letter.some_row

      module _ (a : RowCells S) (is : a ≡ h.sent) where
        pub rows-sources : AreBelow (length a.rows) (export_list c.arriving.plan to)
        rows-sources = subst (λ x. AreBelow (length x.rows) (export_list c.arriving.plan to)) (sym is) (rows-below R F e.job e.files e.me e.pieces e.given e.k e.stage e.now c h to)

        pub rows-wide : HasWidth (width e.job e.files e.k) (row_table a)
        rows-wide = subst (λ x. HasWidth (width e.job e.files e.k) (row_table x)) (sym is) (rows-width R F e.job e.files e.me e.pieces e.given e.k e.stage e.now c h)

        pub rows-packed : rows_letter F (width e.job e.files e.k) (row_table a) (places_to c.arriving.plan a.rows to) ≡ letter_to R F e to
        rows-packed =
            ap (λ x. rows_letter F (width e.job e.files e.k) (row_table x) (places_to c.arriving.plan x.rows to)) is
            ∙ rows-content R F e.job e.files e.me e.pieces e.given e.k e.stage e.now c h to letter.known
