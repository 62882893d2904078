-- A matrix after a letter of rows came.
use Rattle.std.proofs.Common.{◌≡◌, ℕ, zero, suc, ◌+◌, ◌*◌, ◌<◌, ◌≤◌, true, false, List, [], ◌∷◌, map, length, get_or, refl, sym, ap, subst, ◌∙◌, arith}
use Rattle.std.specs.List.{flat_map, list_all}
use Rattle.std.proofs.lemmas.List.{length-map}
use Rattle.scalar_laws.specs.Semiring.{Semiring}
use Rattle.scalar_laws.specs.Conversions.{Conversions}
use Rattle.tables.specs.declared.Cell.{Cell}
use Rattle.tables.specs.Indices.{AreBelow, AreDistinct, count_from}
use Rattle.tables.specs.Tables.{all_cells, found}
use Rattle.map_core.specs.Classes.{index_at, indices_at}
use Rattle.combine_modes.specs.declared.mode.Mode.{Mode}
use Rattle.letter_codec.specs.declared.kind.Kind.TheVariants.{Rows}
use Rattle.letter_codec.specs.declared.letter.Letter.{Letter}
use Rattle.letter_codec.specs.Letters.{AreRows, IsLetter, RowEntry, place_count}
use Rattle.letter_codec.specs.Parts.{words_of}
use Rattle.distributor.specs.Arrivals.{arrived_moves, numbers_in, with_numbers}
use Rattle.distributor.specs.Entries.{Entry, entry_at, with_cells}
use Rattle.distributor.specs.Transfers.{IsPartOf, moved_cells}
use Rattle.distributor.proofs.Arrived.{length-with_numbers, rows-unique}
use Rattle.crs_matrix.specs.Rows.{RowCells, has_row, local_table, row_table}
use Rattle.vector_moves.proofs.Positions.{count-list}
use Rattle.model_defs.specs.Letters.{row_words}
use Rattle.model_defs.specs.Machine.{cells_at}
use Rattle.matrix_moves.specs.Arrivals.{IsPartGathered, IsPlacesLetter, after_table, cells_of_letter}
use Rattle.matrix_moves.proofs.Placed.{below-taken, moved-cells, put_rows, rows-apart, rows-below}
use Rattle.matrix_moves.proofs.Gathered.{gathered, globally, part-gathered, put-globally}
use Rattle.matrix_moves.proofs.Given.{cells-at}
use Rattle.matrix_moves.proofs.Read.{are-rows, arrived-columns, row_at, rows-read}

-- as many numbers as places
pub letter-size : (words numbers : List ℕ) → IsLetter Rows words numbers → (rows : List RowEntry) → AreRows words rows → length numbers ≡ 32 * place_count rows
letter-size words numbers is rows are =
    is.pieces ∙ ap (λ n. 32 * n) (is.form.2 ∙ ap place_count (rows-unique is.form.0 rows (sym is.form.1.0 ∙ are.0)))

default : {A : Type 0} (xs : List A) (i : ℕ) (c d : A) → i < length xs → get_or xs i c ≡ get_or xs i d
default [] i c d l = absurd (omega (arith, l))
default (x ∷ xs) zero c d l = refl
default (x ∷ xs) (suc i) c d l = default xs i c d (omega (arith, l))

module _ {S : Type 0} where
  all-entries : (es : List (Entry S)) → map (λ f. (entry_at es f).cells) (count_from 0 (length es)) ≡ map (λ e. e.cells) es
  all-entries es =
      let f : ℕ → List (ℕ × S) = λ l. (entry_at es l).cells in
      ap (λ n. map f (count_from 0 n)) (sym (length-map es (λ e. e.cells)))
      ∙ count-list f 0 (map (λ e. e.cells) es)
      (λ i d l. let same : 0 + i ≡ i = omega arith in ap f same ∙ cells-at es i ∙ default (map (λ (e : Entry S). e.cells) es) i [] d l)

  -- a target that has these positions takes what comes
  pub arrived-taken : (entries : List (Entry S)) (y : RowCells S) (tos : List ℕ) → AreBelow (length y.rows) tos
      → list_all (λ c. has_row y c.row c.col) (moved_cells entries (arrived_moves tos)) ≡ true
  arrived-taken entries y tos below =
      ap (list_all (λ c. has_row y c.row c.col)) (moved-cells entries (count_from 0 (length tos)) tos)
      ∙ below-taken (length y.rows) (put_rows (map (λ f. (entry_at entries f).cells) (count_from 0 (length tos))) tos)
      (rows-below (length y.rows) (map (λ f. (entry_at entries f).cells) (count_from 0 (length tos))) tos below)

module _ {S : Type 0} (F : Conversions S) (bytes : List ℕ) (y : RowCells S) (tos : List ℕ) (come : IsPlacesLetter bytes (indices_at y.rows tos))
    (letter : Letter) (read : (letter.kind ≡ Rows) × (words_of letter.words.now ≡ flat_map (row_words come.places come.width) (indices_at y.rows tos)) × (letter.numbers.now ≡ come.numbers)) where
  abbrev pub rows : List RowEntry
  rows = map (row_at come.places come.width) (indices_at y.rows tos)

  abbrev pub entries : List (Entry S)
  entries = with_numbers rows (numbers_in F letter.numbers.now)

  pub are : AreRows (words_of letter.words.now) rows
  are = let P : List ℕ → Type 0 = λ ws. AreRows ws rows in subst P (sym read.1) (are-rows come.places come.width (indices_at y.rows tos))

  pub count-entries : length entries ≡ length tos
  count-entries =
      length-with_numbers rows (numbers_in F letter.numbers.now)
      ∙ length-map (indices_at y.rows tos) (row_at come.places come.width)
      ∙ length-map tos (index_at y.rows)

  abbrev cells : List (Cell S)
  cells = put_rows (map (λ e. e.cells) entries) tos

  cells-are : moved_cells entries (arrived_moves tos) ≡ cells
  cells-are =
      moved-cells entries (count_from 0 (length tos)) tos
      ∙ ap (λ n. put_rows (map (λ f. (entry_at entries f).cells) (count_from 0 n)) tos) (sym count-entries)
      ∙ ap (λ rs. put_rows rs tos) (all-entries entries)

  enough : 32 * place_count rows ≤ length letter.numbers.now
  enough =
      let size = letter-size (flat_map (row_words come.places come.width) (indices_at y.rows tos)) come.numbers come.letter rows (are-rows come.places come.width (indices_at y.rows tos)) in
      let same = ap length read.2 in
      omega (arith, size, same)

  globally-are : map (globally y.rows) cells ≡ cells_of_letter F bytes (indices_at y.rows tos) come
  globally-are =
      put-globally y.rows (map (λ e. e.cells) entries) tos
      ∙ rows-read F come.places come.width (indices_at y.rows tos) letter.numbers.now enough
      ∙ ap (cells_at F (all_cells come.places (indices_at y.rows tos) (count_from 0 come.width))) read.2

  module _ (R : Semiring S) (mode : Mode) (new : RowCells S) (distinct : AreDistinct y.rows) (below : AreBelow (length y.rows) tos) (once : AreDistinct tos) (same : new.rows ≡ y.rows) where
    pub absorbed : local_table new ≡ with_cells R mode false (local_table y) (moved_cells entries (arrived_moves tos))
        → row_table new ≡ after_table R mode (row_table y) (found (cells_of_letter F bytes (indices_at y.rows tos) come))
    absorbed h =
        gathered y.rows distinct R mode y new refl same cells
        (rows-below (length y.rows) (map (λ e. e.cells) entries) tos below)
        (rows-apart (map (λ e. e.cells) entries) tos (arrived-columns F come.places come.width (indices_at y.rows tos) (numbers_in F letter.numbers.now)) once)
        (h ∙ ap (with_cells R mode false (local_table y)) cells-are)
        ∙ ap (λ cs. after_table R mode (row_table y) (found cs)) globally-are

    pub part-absorbed : IsPartOf R mode false (local_table y) (moved_cells entries (arrived_moves tos)) (local_table new)
        → IsPartGathered R mode (row_table y) (cells_of_letter F bytes (indices_at y.rows tos) come) (row_table new)
    part-absorbed part =
        let P : List (Cell S) → Type 0 = λ cs. IsPartOf R mode false (local_table y) cs (local_table new) in
        part-gathered y.rows distinct R mode y new refl same cells (cells_of_letter F bytes (indices_at y.rows tos) come)
        (rows-below (length y.rows) (map (λ e. e.cells) entries) tos below)
        (rows-apart (map (λ e. e.cells) entries) tos (arrived-columns F come.places come.width (indices_at y.rows tos) (numbers_in F letter.numbers.now)) once)
        globally-are
        (subst P cells-are part)
