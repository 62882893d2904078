-- The cells of a letter of rows, read one after the other.
use Rattle.std.proofs.Common.{◌≡◌, ℕ, zero, suc, ◌+◌, ◌*◌, ◌/◌, ◌≤◌, Bool, true, false, cond, ◌||◌, eqb, List, [], ◌∷◌, ◌++◌, map, filter, length, take, drop, Option, Some, None, refl, sym, ap, ◌∙◌, arith, lt-ltb, length-append, length-drop}
use Rattle.std.specs.Prelude.{is_some}
use Rattle.std.specs.List.{flat_map, list_all, zip}
use Rattle.std.proofs.lemmas.List.{length-map}
use Rattle.std.proofs.lemmas.List.Folds.{flat_map-map}
use Rattle.std.proofs.lemmas.List.Sums.{sum_by-cons}
use Rattle.scalar_laws.specs.Conversions.{Conversions}
use Rattle.tables.specs.declared.Cell.{Cell}
use Rattle.tables.specs.Indices.{AreDistinct, count_from, stands}
use Rattle.tables.specs.Tables.{Table, all_cells, cell_if, row_cells}
use Rattle.tables.proofs.Counting.{stands-before}
use Rattle.map_core.proofs.Members.{AreDistinct-filter}
use Rattle.letter_codec.specs.Letters.{AreRows, RowEntry, ascend_above, entry_words, is_above, place_count}
use Rattle.letter_codec.specs.Parts.{number_at}
use Rattle.distributor.specs.Arrivals.{numbers_in, with_numbers}
use Rattle.distributor.specs.Entries.{Entry, placed}
use Rattle.distributor.proofs.Numbered.{drop-drop}
use Rattle.crs_matrix.specs.Rows.{columns_in}
use Rattle.model_defs.specs.Letters.{row_columns, row_words}
use Rattle.model_defs.specs.Machine.{cells_at}
use Rattle.model_defs.specs.Plans.{One}
use Rattle.model_defs.proofs.Filters.{and}
use Rattle.matrix_moves.proofs.Placed.{HaveColumns, put_rows}

-- ---- the rows of a table of places

pub distinct-count : (b n : ℕ) → AreDistinct (count_from b n)
distinct-count b zero = tt
distinct-count b (suc n) = (stands-before (b + 1) n b (omega arith), distinct-count (b + 1) n)

module _ (places : Table One) (width : ℕ) where
  abbrev pub row_at : ℕ → RowEntry
  row_at i = record { row = i; columns = row_columns places width i }

  ascends : (p : ℕ → Bool) (b n : ℕ) (before : Option ℕ) → ((c : ℕ) → b ≤ c → is_above before c ≡ true) → ascend_above before (filter p (count_from b n)) ≡ true
  ascends p b zero before h = refl
  ascends p b (suc n) before h =
      by (p b) (ascends p (b + 1) n (Some b) (λ c l. lt-ltb b c (omega (arith, l)))) (ascends p (b + 1) n before (λ c l. h c (omega (arith, l))))
    where
      by : (x : Bool) → ascend_above (Some b) (filter p (count_from (b + 1) n)) ≡ true → ascend_above before (filter p (count_from (b + 1) n)) ≡ true
          → ascend_above before (cond x (b ∷ filter p (count_from (b + 1) n)) (filter p (count_from (b + 1) n))) ≡ true
      by true here past = and (is_above before b) (ascend_above (Some b) (filter p (count_from (b + 1) n))) (h b (omega arith)) here
      by false here past = past

  all-ascend : (rows : List ℕ) → list_all (λ e. ascend_above None e.columns) (map row_at rows) ≡ true
  all-ascend [] = refl
  all-ascend (i ∷ is) =
      and (ascend_above None (row_columns places width i)) (list_all (λ (e : RowEntry). ascend_above None e.columns) (map row_at is))
      (ascends (λ j. is_some (places i j)) 0 width None (λ c l. refl)) (all-ascend is)

  pub are-rows : (rows : List ℕ) → AreRows (flat_map (row_words places width) rows) (map row_at rows)
  are-rows rows = (sym (flat_map-map entry_words row_at rows), all-ascend rows)

  pub distinct-columns : (i : ℕ) → AreDistinct (row_columns places width i)
  distinct-columns i = AreDistinct-filter (λ j. is_some (places i j)) (count_from 0 width) (distinct-count 0 width)

  abbrev pub place : ℕ → ℕ → Cell One
  place i j = record { row = i; col = j; value = tt }

  pub row-places : (i : ℕ) (js : List ℕ) → row_cells places i js ≡ map (place i) (filter (λ j. is_some (places i j)) js)
  row-places i [] = refl
  row-places i (j ∷ js) = by (places i j) (row-places i js)
    where
      by : (o : Option One) → row_cells places i js ≡ map (place i) (filter (λ k. is_some (places i k)) js)
          → cell_if i j o ++ row_cells places i js ≡ map (place i) (cond (is_some o) (j ∷ filter (λ k. is_some (places i k)) js) (filter (λ k. is_some (places i k)) js))
      by None rest = rest
      by (Some v) rest = ap (λ z. place i j ∷ z) rest

  pub count-places : (rows : List ℕ) → length (all_cells places rows (count_from 0 width)) ≡ place_count (map row_at rows)
  count-places [] = refl
  count-places (i ∷ is) =
      let both = length-append (row_cells places i (count_from 0 width)) (all_cells places is (count_from 0 width)) in
      let row = ap length (row-places i (count_from 0 width)) ∙ length-map (row_columns places width i) (place i) in
      let more = sum_by-cons (λ (e : RowEntry). length e.columns) (row_at i) (map row_at is) in
      let rest = count-places is in
      omega (arith, both, row, more, rest)

-- ---- numbers

module _ {S : Type 0} (F : Conversions S) where
  shifted : (bytes : List ℕ) (k n : ℕ) → map (number_at F bytes) (count_from (k + 1) n) ≡ map (number_at F (drop 32 bytes)) (count_from k n)
  shifted bytes k zero = refl
  shifted bytes k (suc n) = λ s. one s ∷ shifted bytes (k + 1) n s
    where
      there : 32 * (k + 1) ≡ 32 + 32 * k
      there = omega arith

      one : number_at F bytes (k + 1) ≡ number_at F (drop 32 bytes) k
      one = ap (λ z. F.of_wire (take 32 z)) (ap (λ i. drop i bytes) there ∙ sym (drop-drop 32 (32 * k) bytes))

  -- the first number, and the others
  numbers-next : (bytes : List ℕ) → 32 ≤ length bytes → numbers_in F bytes ≡ F.of_wire (take 32 bytes) ∷ numbers_in F (drop 32 bytes)
  numbers-next bytes l =
      let size = length-drop 32 bytes in
      let count : length bytes / 32 ≡ suc (length (drop 32 bytes) / 32) = omega (arith, size, l) in
      ap (λ n. map (number_at F bytes) (count_from 0 n)) count
      ∙ ap (λ z. F.of_wire (take 32 bytes) ∷ z) (shifted bytes 0 (length (drop 32 bytes) / 32))

  numbers-behind : (n : ℕ) (bytes : List ℕ) → 32 * n ≤ length bytes → drop n (numbers_in F bytes) ≡ numbers_in F (drop (32 * n) bytes)
  numbers-behind zero bytes l = refl
  numbers-behind (suc n) bytes l =
      let size = length-drop 32 bytes in
      let there : 32 + 32 * n ≡ 32 * suc n = omega arith in
      ap (drop (suc n)) (numbers-next bytes (omega (arith, l)))
      ∙ numbers-behind n (drop 32 bytes) (omega (arith, l, size))
      ∙ ap (numbers_in F) (drop-drop 32 (32 * n) bytes ∙ ap (λ k. drop k bytes) there)

  -- the cells of one row
  row-read : (i : ℕ) (cols : List ℕ) (bytes : List ℕ) → 32 * length cols ≤ length bytes
      → map (placed i) (zip cols (take (length cols) (numbers_in F bytes))) ≡ cells_at F (map (λ j. record { row = i; col = j; value = tt }) cols) bytes
  row-read i [] bytes l = refl
  row-read i (j ∷ js) bytes l =
      let size = length-drop 32 bytes in
      ap (λ ns. map (placed i) (zip (j ∷ js) (take (suc (length js)) ns))) (numbers-next bytes (omega (arith, l)))
      ∙ ap (λ z. record { row = i; col = j; value = F.of_wire (take 32 bytes) } ∷ z) (row-read i js (drop 32 bytes) (omega (arith, l, size)))

  cells-both : (xs ys : List (Cell One)) (bytes : List ℕ) → cells_at F (xs ++ ys) bytes ≡ cells_at F xs bytes ++ cells_at F ys (drop (32 * length xs) bytes)
  cells-both [] ys bytes = refl
  cells-both (x ∷ xs) ys bytes =
      let there : 32 + 32 * length xs ≡ 32 * suc (length xs) = omega arith in
      ap (λ z. record { row = x.row; col = x.col; value = F.of_wire (take 32 bytes) } ∷ z)
      (cells-both xs ys (drop 32 bytes)
      ∙ ap (λ b. cells_at F xs (drop 32 bytes) ++ cells_at F ys b) (drop-drop 32 (32 * length xs) bytes ∙ ap (λ k. drop k bytes) there))

  -- the cells of a letter, row after row
  pub rows-read : (places : Table One) (width : ℕ) (rows bytes : List ℕ) → 32 * place_count (map (row_at places width) rows) ≤ length bytes
      → put_rows (map (λ e. e.cells) (with_numbers (map (row_at places width) rows) (numbers_in F bytes))) rows
      ≡ cells_at F (all_cells places rows (count_from 0 width)) bytes
  rows-read places width [] bytes l = refl
  rows-read places width (i ∷ is) bytes l =
      (λ s. row-read i cols bytes first s ++ rest (rows-read places width is (drop (32 * length (row_columns places width i)) bytes)) s)
      ∙ (λ s. cells_at F (sym here s) bytes ++ cells_at F (all_cells places is (count_from 0 width)) (drop (32 * sym long s) bytes))
      ∙ sym (cells-both (row_cells places i (count_from 0 width)) (all_cells places is (count_from 0 width)) bytes)
    where
      cols : List ℕ
      cols = row_columns places width i

      here : row_cells places i (count_from 0 width) ≡ map (place places width i) cols
      here = row-places places width i (count_from 0 width)

      long : length (row_cells places i (count_from 0 width)) ≡ length cols
      long = ap length here ∙ length-map cols (place places width i)

      first : 32 * length cols ≤ length bytes
      first = let more = sum_by-cons (λ (e : RowEntry). length e.columns) (row_at places width i) (map (row_at places width) is) in omega (arith, l, more)

      rest : (32 * place_count (map (row_at places width) is) ≤ length (drop (32 * length cols) bytes)
          → put_rows (map (λ (e : Entry S). e.cells) (with_numbers (map (row_at places width) is) (numbers_in F (drop (32 * length cols) bytes)))) is
          ≡ cells_at F (all_cells places is (count_from 0 width)) (drop (32 * length cols) bytes))
          → put_rows (map (λ (e : Entry S). e.cells) (with_numbers (map (row_at places width) is) (drop (length cols) (numbers_in F bytes)))) is
          ≡ cells_at F (all_cells places is (count_from 0 width)) (drop (32 * length cols) bytes)
      rest others =
          let more = sum_by-cons (λ (e : RowEntry). length e.columns) (row_at places width i) (map (row_at places width) is) in
          let size = length-drop (32 * length cols) bytes in
          ap (λ ns. put_rows (map (λ (e : Entry S). e.cells) (with_numbers (map (row_at places width) is) ns)) is) (numbers-behind (length cols) bytes first)
          ∙ others (omega (arith, l, more, size))

  -- each row has distinct columns
  zip-absent : (c : ℕ) (cols : List ℕ) (ns : List S) → stands c cols ≡ false → stands c (columns_in (zip cols ns)) ≡ false
  zip-absent c [] ns e = refl
  zip-absent c (d ∷ cols) [] e = refl
  zip-absent c (d ∷ cols) (n ∷ ns) e = by (eqb d c) e (zip-absent c cols ns)
    where
      by : (b : Bool) → (b || stands c cols) ≡ false → (stands c cols ≡ false → stands c (columns_in (zip cols ns)) ≡ false) → (b || stands c (columns_in (zip cols ns))) ≡ false
      by true h rest = absurd (let bad : ⊥ = cc in bad)
      by false h rest = rest h

  zip-distinct : (cols : List ℕ) (ns : List S) → AreDistinct cols → AreDistinct (columns_in (zip cols ns))
  zip-distinct [] ns d = tt
  zip-distinct (c ∷ cols) [] d = tt
  zip-distinct (c ∷ cols) (n ∷ ns) d = (zip-absent c cols ns d.0, zip-distinct cols ns d.1)

  pub arrived-columns : (places : Table One) (width : ℕ) (rows : List ℕ) (ns : List S)
      → HaveColumns (map (λ e. e.cells) (with_numbers (map (row_at places width) rows) ns))
  arrived-columns places width [] ns = tt
  arrived-columns places width (i ∷ is) ns = (
    zip-distinct (row_columns places width i) (take (length (row_columns places width i)) ns) (distinct-columns places width i),
    arrived-columns places width is (drop (length (row_columns places width i)) ns),
  )
