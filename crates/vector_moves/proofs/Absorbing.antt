-- The rows of a letter that was read.
use Rattle.std.proofs.Common.{◌≡◌, ℕ, zero, suc, ◌+◌, ◌*◌, ◌/◌, ◌<◌, ◌≤◌, ◌^◌, append_assoc, Bool, true, List, [], ◌∷◌, ◌++◌, map, Option, Some, None, refl, sym, ap, subst, ◌∙◌, arith, length, get_or, take, drop, length-append}
use Rattle.std.specs.List.{list_all, flat_map, zip}
use Rattle.std.proofs.lemmas.List.{length-map}
use Rattle.std.proofs.Math.Nat.{mul_comm}
use Rattle.std.proofs.Math.Seq.{take-append_seam, drop-append_seam}
use Rattle.scalar_laws.specs.Semiring.{Semiring}
use Rattle.scalar_laws.specs.Conversions.{Conversions, AreConversions}
use Rattle.tables.specs.Indices.{AreDistinct, AreBelow, count_from}
use Rattle.map_core.specs.Classes.{index_at, indices_at}
use Rattle.combine_modes.specs.declared.mode.Mode.{Mode}
use Rattle.combine_modes.specs.Modes.{gathered}
use Rattle.letter_codec.specs.declared.kind.Kind.{Kind}
use Rattle.letter_codec.specs.declared.kind.Kind.TheVariants.{Nums}
use Rattle.letter_codec.specs.declared.letter.Letter.{Letter}
use Rattle.letter_codec.specs.Letters.{IsLetter, AreWords, letter_bytes, number_bytes, word_bytes, word_of_bytes}
use Rattle.letter_codec.specs.Parts.{AreParts, words_of, number_at}
use Rattle.letter_codec.proofs.ReadLetters.{letter-count, letter-words, length-letter}
use Rattle.letter_codec.proofs.ReadWords.{length-word_bytes}
use Rattle.letter_codec.proofs.WrittenNumbers.{length-number_bytes, read-back}
use Rattle.distributor.specs.Entries.{Entry, numbered, with_cells}
use Rattle.distributor.specs.Transfers.{moved_cells}
use Rattle.distributor.specs.Arrivals.{numbers_in, arrived_moves, HasEntries, IsOfKind}
use Rattle.distributor.proofs.Numbered.{length-count_from, length-numbered}
use Rattle.distributor.proofs.Absorbed.{of-numbers}
use Rattle.multivector.specs.Vectors.{VectorState, IsVector, HasSameShape, has_cell, vector_table, vector_entries}
use Rattle.vector_moves.specs.Rows.{by_index, rows_of, row_numbers, vector_letter, letter_vector}
use Rattle.vector_moves.specs.Moves.{AreMoves, IsRowsLetter}
use Rattle.vector_moves.proofs.Came.{HaveLength, rows_cells, rows-length, rows-taken, moved-rows, moved-table}
use Rattle.vector_moves.proofs.Sent.{length-numbers}
use Rattle.vector_moves.proofs.Positions.{below-count, count-list, all-indices, distinct-indices}

-- letters with equal bytes have equally many words and the same numbers
pub same-numbers : (a b : Kind) (v w m n : List ℕ) → length v < 2 ^ 64 → length w < 2 ^ 64 → letter_bytes a v m ≡ letter_bytes b w n → (length v ≡ length w) × (m ≡ n)
same-numbers a b v w m n few some e = (counts, numbers)
  where
    counts : length v ≡ length w
    counts = sym (letter-count a v m few) ∙ ap (λ z. word_of_bytes (take 8 (drop 1 z))) e ∙ letter-count b w n some

    behind : (words rest : List ℕ) (k : ℕ) → k ≡ length words → drop (8 * k) (word_bytes words ++ rest) ≡ rest
    behind words rest k f =
        let size : 8 * k ≡ length (word_bytes words) = omega (arith, f, length-word_bytes words) in
        ap (λ i. drop i (word_bytes words ++ rest)) size ∙ drop-append_seam (word_bytes words) rest

    numbers : m ≡ n
    numbers =
        sym (behind v m (length v) refl)
        ∙ ap (drop (8 * length v)) (sym (letter-words a v m) ∙ ap (drop 9) e ∙ letter-words b w n)
        ∙ behind w n (length v) counts

module _ {S : Type 0} (F : Conversions S) where
  -- the numbers in bytes that were written
  pub numbers-back : AreConversions F → (ns : List S) → numbers_in F (number_bytes F ns) ≡ ns
  numbers-back laws ns =
      let count : length (number_bytes F ns) / 32 ≡ length ns = omega (arith, length-number_bytes F laws ns) in
      ap (λ k. map (number_at F (number_bytes F ns)) (count_from 0 k)) count
      ∙ count-list (number_at F (number_bytes F ns)) 0 ns (λ i d l. let same : 0 + i ≡ i = omega arith in ap (number_at F (number_bytes F ns)) same ∙ read-back F laws ns i d l)

  pub length-numbers_in : (bytes : List ℕ) → length (numbers_in F bytes) ≡ length bytes / 32
  length-numbers_in bytes = length-map (count_from 0 (length bytes / 32)) (number_at F bytes) ∙ length-count_from 0 (length bytes / 32)

-- rows that stand one behind the other
pub rows-back : {S : Type 0} (w k : ℕ) (before : List S) (f : ℕ → List S) (froms : List ℕ) → length before ≡ k * w → HaveLength w (map f froms)
    → map (λ i. take w (drop (i * w) (before ++ flat_map f froms))) (count_from k (length froms)) ≡ map f froms
rows-back w k before f [] e h = refl
rows-back w k before f (a ∷ more) e h = λ t. first t ∷ (shift ∙ rows-back w (k + 1) (before ++ f a) f more (omega (arith, length-append before (f a), e, h.0)) h.1) t
  where
    first : take w (drop (k * w) (before ++ (f a ++ flat_map f more))) ≡ f a
    first =
        ap (λ n. take w (drop n (before ++ (f a ++ flat_map f more)))) (sym e)
        ∙ ap (take w) (drop-append_seam before (f a ++ flat_map f more))
        ∙ ap (λ n. take n (f a ++ flat_map f more)) (sym h.0)
        ∙ take-append_seam (f a) (flat_map f more)

    shift : map (λ i. take w (drop (i * w) (before ++ (f a ++ flat_map f more)))) (count_from (k + 1) (length more))
        ≡ map (λ i. take w (drop (i * w) ((before ++ f a) ++ flat_map f more))) (count_from (k + 1) (length more))
    shift = ap (λ z. map (λ i. take w (drop (i * w) z)) (count_from (k + 1) (length more))) (sym (append_assoc before (f a) (flat_map f more)))

module _ {S : Type 0} (F : Conversions S) (letter : Letter) (columns : ℕ) (kind : IsOfKind (Some columns) letter) where
  -- the rows of the letter, as a vector
  abbrev pub as_vector : VectorState S
  as_vector = record { map = words_of letter.words.now; columns = columns; values = numbers_in F letter.numbers.now }

  pub is-vector : IsVector as_vector
  is-vector =
      let size = length-numbers_in F letter.numbers.now in
      omega (arith, size, kind.1)

  -- its cells
  pub letter-cells : (tos : List ℕ) → length (words_of letter.words.now) ≡ length tos
      → moved_cells (numbered columns (words_of letter.words.now) (numbers_in F letter.numbers.now)) (arrived_moves tos)
      ≡ rows_cells (map (row_numbers as_vector) (count_from 0 (length tos))) tos
  letter-cells tos many = moved-rows as_vector (count_from 0 (length tos)) tos is-vector (below-count (length (words_of letter.words.now)) 0 (length tos) (omega (arith, many)))

  pub letter-taken : (y : VectorState S) (tos : List ℕ) → columns ≡ y.columns → AreBelow (length y.map) tos → length (words_of letter.words.now) ≡ length tos
      → list_all (λ c. has_cell y c.row c.col) (moved_cells (numbered columns (words_of letter.words.now) (numbers_in F letter.numbers.now)) (arrived_moves tos)) ≡ true
  letter-taken y tos same below many =
      ap (list_all (λ c. has_cell y c.row c.col)) (letter-cells tos many)
      ∙ rows-taken y (map (row_numbers as_vector) (count_from 0 (length tos))) tos
      (let P : ℕ → Type 0 = λ w. HaveLength w (map (row_numbers as_vector) (count_from 0 (length tos))) in
      subst P same (rows-length as_vector (count_from 0 (length tos)) is-vector (below-count (length (words_of letter.words.now)) 0 (length tos) (omega (arith, many)))))
      below

  -- the letter of rows of a vector has these rows
  pub letter-rows : AreConversions F → (x : VectorState S) (froms : List ℕ) → IsVector x → AreBelow (length x.map) froms → x.columns ≡ columns
      → letter.numbers.now ≡ number_bytes F (flat_map (row_numbers x) froms)
      → map (row_numbers as_vector) (count_from 0 (length froms)) ≡ map (row_numbers x) froms
  letter-rows laws x froms is below same e =
      let numbers : numbers_in F letter.numbers.now ≡ flat_map (row_numbers x) froms = ap (numbers_in F) e ∙ numbers-back F laws (flat_map (row_numbers x) froms) in
      let P : ℕ → Type 0 = λ w. HaveLength w (map (row_numbers x) froms) in
      ap (λ z. map (λ i. take columns (drop (i * columns) z)) (count_from 0 (length froms))) numbers
      ∙ rows-back columns 0 [] (row_numbers x) froms (omega arith) (subst P same (rows-length x froms is below))

module _ {S : Type 0} (F : Conversions S) (laws : AreConversions F) (R : Semiring S) (mode : Mode) (letter : Letter) (bytes : List ℕ) (width : Option ℕ) (y : VectorState S)
    (for_y : width ≡ Some y.columns) (kind : IsOfKind (Some y.columns) letter) (parts : AreParts letter)
    (whole : bytes ≡ letter_bytes letter.kind (words_of letter.words.now) letter.numbers.now) (small : length bytes < 2 ^ 64) where
  -- a letter of rows of a vector: as many words as rows, and their numbers
  pub same-rows : (x : VectorState S) (froms : List ℕ) → bytes ≡ vector_letter F x froms
      → (length (words_of letter.words.now) ≡ length froms) × (letter.numbers.now ≡ number_bytes F (flat_map (row_numbers x) froms))
  same-rows x froms e =
      let words = length-map froms (index_at x.map) in
      let size = ap length e ∙ length-letter Nums (indices_at x.map froms) (number_bytes F (flat_map (row_numbers x) froms)) in
      let same = same-numbers letter.kind Nums (words_of letter.words.now) (indices_at x.map froms) letter.numbers.now (number_bytes F (flat_map (row_numbers x) froms))
      parts.0.few (omega (arith, size, small)) (sym whole ∙ e) in
      (same.0 ∙ words, same.1)

  pub absorbed-rows : (new : VectorState S) (tos : List ℕ) → AreDistinct y.map → new.map ≡ y.map
      → ((entries : List (Entry S)) → HasEntries F width letter entries → vector_table new ≡ with_cells R mode true (vector_table y) (moved_cells entries (arrived_moves tos)))
      → (x : VectorState S) (froms : List ℕ) → IsVector x → AreDistinct x.map → x.columns ≡ y.columns → AreMoves x.map y.map froms tos → bytes ≡ vector_letter F x froms
      → by_index new ≡ gathered R mode true (by_index y) (rows_of x (indices_at x.map froms) ∷ [])
  absorbed-rows new tos dy same cells x froms is dx columns moves e =
      let rows = same-rows x froms e in
      let many : length froms ≡ length tos = sym (length-map froms (index_at x.map)) ∙ ap length moves.indices ∙ length-map tos (index_at y.map) in
      moved-table R mode x y new froms tos dx dy moves.sources moves.targets moves.indices moves.once same
      (of-numbers F letter (λ entries. vector_table new ≡ with_cells R mode true (vector_table y) (moved_cells entries (arrived_moves tos))) width y.columns for_y cells
      ∙ ap (with_cells R mode true (vector_table y))
      (letter-cells F letter y.columns kind tos (rows.0 ∙ many)
      ∙ ap (λ n. rows_cells (map (row_numbers (as_vector F letter y.columns kind)) (count_from 0 n)) tos) (sym many)
      ∙ ap (λ rs. rows_cells rs tos) (letter-rows F letter y.columns kind laws x froms is moves.sources columns rows.1)))

  -- whatever its rows are: row k comes for position k
  pub absorbed-letter : (new : VectorState S) (tos : List ℕ) → AreDistinct y.map → new.map ≡ y.map → AreBelow (length y.map) tos
      → ((entries : List (Entry S)) → HasEntries F width letter entries → length entries ≡ length tos)
      → ((entries : List (Entry S)) → HasEntries F width letter entries → vector_table new ≡ with_cells R mode true (vector_table y) (moved_cells entries (arrived_moves tos)))
      → (words numbers : List ℕ) → IsLetter Nums words numbers → bytes ≡ letter_bytes Nums words numbers → AreDistinct tos
      → by_index new ≡ gathered R mode true (by_index y) (rows_of (letter_vector F y tos numbers) (indices_at y.map tos) ∷ [])
  absorbed-letter new tos dy same below counts cells words numbers is e once =
      moved-table R mode rows y new (count_from 0 (length tos)) tos (distinct-indices y.map tos dy below once) dy
      (below-count (length (indices_at y.map tos)) 0 (length tos) (omega (arith, many))) below all once same
      (of-numbers F letter (λ entries. vector_table new ≡ with_cells R mode true (vector_table y) (moved_cells entries (arrived_moves tos))) width y.columns for_y cells
      ∙ ap (with_cells R mode true (vector_table y)) (letter-cells F letter y.columns kind tos count))
      ∙ ap (λ gids. gathered R mode true (by_index y) (rows_of rows gids ∷ [])) all
      ∙ ap (λ ns. gathered R mode true (by_index y) (rows_of (letter_vector F y tos ns) (indices_at y.map tos) ∷ []))
      (same-numbers letter.kind Nums (words_of letter.words.now) words letter.numbers.now numbers parts.0.few is.few (sym whole ∙ e)).1
    where
      rows : VectorState S
      rows = letter_vector F y tos letter.numbers.now

      many : length (indices_at y.map tos) ≡ length tos
      many = length-map tos (index_at y.map)

      all : indices_at (indices_at y.map tos) (count_from 0 (length tos)) ≡ indices_at y.map tos
      all = ap (λ n. indices_at (indices_at y.map tos) (count_from 0 n)) (sym many) ∙ all-indices (indices_at y.map tos)

      count : length (words_of letter.words.now) ≡ length tos
      count =
          sym (length-numbered y.columns (words_of letter.words.now) (numbers_in F letter.numbers.now))
          ∙ of-numbers F letter (λ entries. length entries ≡ length tos) width y.columns for_y counts

-- the letter of rows of a vector is a letter, where their indices have 64 bits
pub is-letter : {S : Type 0} (F : Conversions S) → AreConversions F → (x : VectorState S) (froms : List ℕ) → IsVector x → AreBelow (length x.map) froms
    → AreWords (indices_at x.map froms) → (bytes : List ℕ) → length bytes < 2 ^ 64 → bytes ≡ vector_letter F x froms
    → IsLetter Nums (indices_at x.map froms) (number_bytes F (flat_map (row_numbers x) froms))
is-letter F laws x froms is below fit bytes small e =
    let words = length-map froms (index_at x.map) in
    let size = ap length e ∙ length-letter Nums (indices_at x.map froms) (number_bytes F (flat_map (row_numbers x) froms)) in
    let numbers = length-numbers x froms is below in
    record {
      few = omega (arith, size, small);
      fit = fit;
      count = length (flat_map (row_numbers x) froms);
      pieces = length-number_bytes F laws (flat_map (row_numbers x) froms);
      form = (x.columns, numbers ∙ mul_comm (length froms) x.columns ∙ ap (λ n. x.columns * n) (sym words));
    }

-- it is one of rows with as many numbers each as the vector has columns
pub rows-letter : {S : Type 0} (F : Conversions S) → AreConversions F → (x : VectorState S) (froms : List ℕ) → IsVector x → AreBelow (length x.map) froms
    → AreWords (indices_at x.map froms) → (bytes : List ℕ) → length bytes < 2 ^ 64 → bytes ≡ vector_letter F x froms
    → IsRowsLetter x.columns bytes (indices_at x.map froms)
rows-letter F laws x froms is below fit bytes small e =
    let words = length-map froms (index_at x.map) in
    let numbers = length-numbers x froms is below in
    record {
      numbers = number_bytes F (flat_map (row_numbers x) froms);
      letter = is-letter F laws x froms is below fit bytes small e;
      each = length-number_bytes F laws (flat_map (row_numbers x) froms) ∙ ap (λ n. 32 * n) (numbers ∙ ap (λ n. n * x.columns) (sym words));
      whole = e;
    }

-- a letter that has these parts is one of rows with so many numbers
pub read-kind : (letter : Letter) (words numbers : List ℕ) (columns : ℕ) → (letter.kind ≡ Nums) × (words_of letter.words.now ≡ words) × (letter.numbers.now ≡ numbers)
    → length numbers ≡ 32 * (length words * columns) → IsOfKind (Some columns) letter
read-kind letter words numbers columns h e = (h.0, ap length h.2 ∙ e ∙ ap (λ ws. 32 * (length ws * columns)) (sym h.1))

-- the letter that was read
pub read-letter : (letter : Letter) (bytes : List ℕ) (columns : ℕ) → AreParts letter → bytes ≡ letter_bytes letter.kind (words_of letter.words.now) letter.numbers.now
    → IsOfKind (Some columns) letter → IsRowsLetter columns bytes (words_of letter.words.now)
read-letter letter bytes columns parts whole kind =
    let P : Kind → Type 0 = λ k. IsLetter k (words_of letter.words.now) letter.numbers.now in
    record {
      numbers = letter.numbers.now;
      letter = subst P kind.0 parts.0;
      each = kind.1;
      whole = whole ∙ ap (λ k. letter_bytes k (words_of letter.words.now) letter.numbers.now) kind.0;
    }

-- every cell of the letter is taken
pub entries-taken : {S : Type 0} (F : Conversions S) (letter : Letter) (width : Option ℕ) (y : VectorState S) (tos : List ℕ) → width ≡ Some y.columns → IsOfKind (Some y.columns) letter
    → AreBelow (length y.map) tos → (entries : List (Entry S)) → HasEntries F width letter entries → length entries ≡ length tos
    → list_all (λ c. has_cell y c.row c.col) (moved_cells entries (arrived_moves tos)) ≡ true
entries-taken {S} F letter width y tos for_y kind below entries has many =
    let P : Option ℕ → Type 0 = λ o. HasEntries F o letter entries in
    let are = subst P for_y has in
    ap (λ (es : List (Entry S)). list_all (λ c. has_cell y c.row c.col) (moved_cells es (arrived_moves tos))) are
    ∙ letter-taken F letter y.columns kind y tos refl below (sym (length-numbered y.columns (words_of letter.words.now) (numbers_in F letter.numbers.now)) ∙ sym (ap length are) ∙ many)
