-- The letter of some rows of a source.
use Rattle.std.proofs.Common.{◌≡◌, ℕ, zero, suc, ◌+◌, ◌<◌, ◌≤◌, ◌^◌, Bool, true, false, cond, ◌&&◌, eqb, nat_lt, List, [], ◌∷◌, ◌++◌, map, filter, length, take, Option, Some, None, refl, sym, ap, subst, ◌∙◌, arith, lt-ltb}
use Rattle.std.specs.Prelude.{is_some, slice_get}
use Rattle.std.specs.List.{flat_map, list_all}
use Rattle.std.proofs.lemmas.Bool.{eqb-true, eqb-false, eq-eqb, ne_eqb}
use Rattle.std.proofs.lemmas.Grind.{flat_map-append}
use Rattle.std.proofs.lemmas.List.{length-map}
use Rattle.scalar_laws.specs.Conversions.{Conversions, AreConversions}
use Rattle.tables.specs.declared.Cell.{Cell}
use Rattle.tables.specs.Indices.{AreBelow, count_from}
use Rattle.tables.specs.Tables.{Table, all_cells, cell_if, row_cells}
use Rattle.map_core.specs.Classes.{index_at, indices_at}
use Rattle.letter_codec.specs.declared.kind.Kind.{Kind}
use Rattle.letter_codec.specs.declared.kind.Kind.TheVariants.{Rows}
use Rattle.letter_codec.specs.Letters.{letter_bytes}
use Rattle.distributor.specs.Entries.{Entry, columns_of, entry_at, placed}
use Rattle.distributor.specs.Packed.{entries_letter, numbers_of, sent_entries, words_for}
use Rattle.distributor.proofs.Written.{length-letter, rows-words, sent-more}
use Rattle.crs_graph.specs.Ascending.{IsAbove, IsAscending}
use Rattle.crs_matrix.specs.Rows.{columns_in, number_at, row_table}
use Rattle.model_defs.specs.Letters.{row_columns, row_words}
use Rattle.model_defs.proofs.Filters.{and, both}
use Rattle.matrix_moves.specs.Sources.{HasWidth, IsRowSource, IsShort, as_rows, rows_letter}
use Rattle.matrix_moves.proofs.Given.{cells-at, gid-at, row-number, row_of}

below-as : (m n : ℕ) (xs : List ℕ) → m ≡ n → AreBelow m xs → AreBelow n xs
below-as m n xs e b = let P : ℕ → Type 0 = λ k. AreBelow k xs in subst P e b

module _ {S : Type 0} where
  -- the columns of a row ascend from a number on
  abbrev pub AscendFrom : ℕ → List (ℕ × S) → Type 0
  AscendFrom b [] = Unit {0}
  AscendFrom b (c ∷ cs) = (b ≤ c.0) × AscendFrom (suc c.0) cs

  above-from : (g : ℕ) (r : List (ℕ × S)) → IsAbove g (columns_in r) → AscendFrom (suc g) r
  above-from g [] h = tt
  above-from g (c ∷ cs) h = (omega (arith, h.0), above-from c.0 cs h.1)

  pub ascending-from : (r : List (ℕ × S)) → IsAscending (columns_in r) → AscendFrom 0 r
  ascending-from [] h = tt
  ascending-from (c ∷ cs) h = (omega arith, above-from c.0 cs h)

  from-none : (r : List (ℕ × S)) (b j : ℕ) → AscendFrom b r → j < b → number_at r j ≡ None
  from-none [] b j h l = refl
  from-none (c ∷ cs) b j h l =
      ap (λ x. cond x (Some c.1) (number_at cs j)) (ne_eqb c.0 j (λ e. absurd (omega (arith, h.0, l, e))))
      ∙ from-none cs (suc c.0) j h.1 (omega (arith, h.0, l))

  -- the cells of a row of a table are those of its columns
  row-cells : (t : Table S) (g : ℕ) (r : List (ℕ × S)) (b n : ℕ) → AscendFrom b r → AreBelow (b + n) (columns_in r)
      → ((j : ℕ) → b ≤ j → t g j ≡ number_at r j) → row_cells t g (count_from b n) ≡ map (placed g) r
  row-cells t g [] b zero up low h = refl
  row-cells t g (c ∷ cs) b zero up low h = absurd (omega (arith, up.0, low.0))
  row-cells t g [] b (suc n) up low h =
      ap (λ o. cell_if g b o ++ row_cells t g (count_from (b + 1) n)) (h b (omega arith))
      ∙ row-cells t g [] (b + 1) n tt tt (λ j l. h j (omega (arith, l)))
  row-cells t g (c ∷ cs) b (suc n) up low h =
      by (eqb c.0 b) refl
      (λ a k. row-cells t g cs (b + 1) n a (below-as (b + suc n) (b + 1 + n) (columns_in cs) more low.1) k)
      (λ a. row-cells t g (c ∷ cs) (b + 1) n a (below-as (b + suc n) (b + 1 + n) (columns_in (c ∷ cs)) more low) (λ j l. h j (omega (arith, l))))
    where
      more : b + suc n ≡ b + 1 + n
      more = omega arith

      past : eqb c.0 b ≡ true → (j : ℕ) → b + 1 ≤ j → t g j ≡ number_at cs j
      past e j l =
          h j (omega (arith, l))
          ∙ ap (λ x. cond x (Some c.1) (number_at cs j)) (ne_eqb c.0 j (λ f. let same : c.0 ≡ b = eqb-true c.0 b e in absurd (omega (arith, l, f, same))))

      by : (x : Bool) → eqb c.0 b ≡ x
          → (AscendFrom (b + 1) cs → ((j : ℕ) → b + 1 ≤ j → t g j ≡ number_at cs j) → row_cells t g (count_from (b + 1) n) ≡ map (placed g) cs)
          → (AscendFrom (b + 1) (c ∷ cs) → row_cells t g (count_from (b + 1) n) ≡ placed g c ∷ map (placed g) cs)
          → cell_if g b (t g b) ++ row_cells t g (count_from (b + 1) n) ≡ placed g c ∷ map (placed g) cs
      by true e here later =
          let same : c.0 ≡ b = eqb-true c.0 b e in
          let next : suc c.0 ≡ b + 1 = omega (arith, same) in
          let P : ℕ → Type 0 = λ k. AscendFrom k cs in
          ap (λ o. cell_if g b o ++ row_cells t g (count_from (b + 1) n))
          (h b (omega arith) ∙ ap (λ x. cond x (Some c.1) (number_at cs b)) e)
          ∙ (λ s. record { row = g; col = sym same s; value = c.1 } ∷ here (subst P next up.1) (past e) s)
      by false e here later =
          let up_next : b + 1 ≤ c.0 = (let differ = eqb-false c.0 b e in grind (arith, differ, up.0)) in
          ap (λ o. cell_if g b o ++ row_cells t g (count_from (b + 1) n))
          (h b (omega arith) ∙ from-none (c ∷ cs) (b + 1) b (up_next, up.1) (omega arith))
          ∙ later (up_next, up.1)

  -- which columns a row has
  filter-cells : (t : Table S) (g : ℕ) (js : List ℕ) → filter (λ j. is_some (t g j)) js ≡ map (λ c. c.col) (row_cells t g js)
  filter-cells t g [] = refl
  filter-cells t g (j ∷ js) = by (t g j) (filter-cells t g js)
    where
      by : (o : Option S) → filter (λ k. is_some (t g k)) js ≡ map (λ c. c.col) (row_cells t g js)
          → cond (is_some o) (j ∷ filter (λ k. is_some (t g k)) js) (filter (λ k. is_some (t g k)) js) ≡ map (λ c. c.col) (cell_if g j o ++ row_cells t g js)
      by None rest = rest
      by (Some v) rest = ap (λ z. j ∷ z) rest

  columns-placed : (g : ℕ) (r : List (ℕ × S)) → map (λ c. c.col) (map (placed g) r) ≡ columns_in r
  columns-placed g [] = refl
  columns-placed g (c ∷ cs) = ap (λ z. c.0 ∷ z) (columns-placed g cs)

  pub columns-below : (width : ℕ) (r : List (ℕ × S)) → ((j : ℕ) → is_some (number_at r j) ≡ true → j < width) → AreBelow width (columns_in r)
  columns-below width [] h = tt
  columns-below width (c ∷ cs) h = (
    h c.0 (ap (λ x. is_some (cond x (Some c.1) (number_at cs c.0))) (eq-eqb c.0 c.0 refl)),
    columns-below width cs (λ j e. h j (by (eqb c.0 j) j e)),
  )
    where
      by : (x : Bool) (j : ℕ) → is_some (number_at cs j) ≡ true → is_some (cond x (Some c.1) (number_at cs j)) ≡ true
      by true j e = refl
      by false j e = e

  written : (F : Conversions S) (g : ℕ) (r : List (ℕ × S)) → flat_map (λ c. F.to_wire c.value) (map (placed g) r) ≡ flat_map F.to_wire (map (λ c. c.1) r)
  written F g [] = refl
  written F g (c ∷ cs) = ap (λ z. F.to_wire c.1 ++ z) (written F g cs)

  module _ (entries : List (Entry S)) (is : IsRowSource (as_rows entries)) (width : ℕ) (within : HasWidth width (row_table (as_rows entries))) where
    abbrev table : Table S
    table = row_table (as_rows entries)

    abbrev gid : ℕ → ℕ
    gid f = index_at (as_rows entries).rows f

    abbrev row : ℕ → List (ℕ × S)
    row f = row_of (as_rows entries) f

    cells-are : (f : ℕ) → f < length (as_rows entries).rows → row_cells table (gid f) (count_from 0 width) ≡ map (placed (gid f)) (row f)
    cells-are f low =
        row-cells table (gid f) (row f) 0 width
        (ascending-from (row f) (is.is_matrix.ascend f))
        (below-as width (0 + width) (columns_in (row f)) (omega arith) (columns-below width (row f) (λ j e. within (gid f) j (ap is_some (sym (number j)) ∙ e))))
        (λ j l. sym (number j))
      where
        number : (j : ℕ) → number_at (row f) j ≡ table (gid f) j
        number j = row-number (as_rows entries) f (gid f) j is.distinct low refl

    columns-are : (f : ℕ) → f < length (as_rows entries).rows → row_columns table width (gid f) ≡ columns_of (entry_at entries f)
    columns-are f low =
        filter-cells table (gid f) (count_from 0 width)
        ∙ ap (map (λ c. c.col)) (cells-are f low)
        ∙ columns-placed (gid f) (row f)
        ∙ sym (ap columns_in (cells-at entries f))

    row-words : (f : ℕ) → f < length (as_rows entries).rows → words_for Rows (entry_at entries f) ≡ row_words table width (gid f)
    row-words f low = λ s. gid-at entries f s ∷ (sym (length-map (entry_at entries f).cells (λ c. c.0)) ∙ ap length (sym (columns-are f low))) s ∷ sym (columns-are f low) s

    words-are : (froms : List ℕ) → AreBelow (length (as_rows entries).rows) froms
        → flat_map (words_for Rows) (sent_entries entries froms) ≡ flat_map (row_words table width) (indices_at (as_rows entries).rows froms)
    words-are [] b = refl
    words-are (f ∷ fs) b = λ s. row-words f b.0 s ++ words-are fs b.1 s

    numbers-are : (F : Conversions S) (froms : List ℕ) → AreBelow (length (as_rows entries).rows) froms
        → flat_map F.to_wire (flat_map numbers_of (sent_entries entries froms))
        ≡ flat_map (λ c. F.to_wire c.value) (all_cells table (indices_at (as_rows entries).rows froms) (count_from 0 width))
    numbers-are F [] b = refl
    numbers-are F (f ∷ fs) b =
        flat_map-append F.to_wire (numbers_of (entry_at entries f)) (flat_map numbers_of (sent_entries entries fs))
        ∙ (λ s. one s ++ numbers-are F fs b.1 s)
        ∙ sym (flat_map-append (λ (c : Cell S). F.to_wire c.value) (row_cells table (gid f) (count_from 0 width)) (all_cells table (indices_at (as_rows entries).rows fs) (count_from 0 width)))
      where
        one : flat_map F.to_wire (numbers_of (entry_at entries f)) ≡ flat_map (λ c. F.to_wire c.value) (row_cells table (gid f) (count_from 0 width))
        one =
            ap (λ (cs : List (ℕ × S)). flat_map F.to_wire (map (λ c. c.1) cs)) (cells-at entries f)
            ∙ sym (written F (gid f) (row f))
            ∙ ap (flat_map (λ (c : Cell S). F.to_wire c.value)) (sym (cells-are f b.0))

    pub sent-letter : (F : Conversions S) (froms : List ℕ) → AreBelow (length (as_rows entries).rows) froms
        → entries_letter F Rows (sent_entries entries froms) ≡ rows_letter F width table (indices_at (as_rows entries).rows froms)
    sent-letter F froms b = λ s. letter_bytes Rows (words-are froms b s) (numbers-are F froms b s)

  pub sent-fits : (F : Conversions S) → AreConversions F → (kind : Kind) → kind ≡ Rows → (sent : List (Entry S)) → IsShort sent
      → length (entries_letter F kind sent) < 2 ^ 64
  sent-fits F laws kind k sent short =
      let size = length-letter F laws kind sent in
      let words = rows-words kind sent k in
      let cells = short.few_cells in
      let rows = short.few_rows in
      omega (arith, size, words, cells, rows)

  -- one entry more
  pub few-more : (entries : List (Entry S)) (list : List ℕ) (i lid : ℕ) → slice_get list i ≡ Some lid
      → list_all (λ e. nat_lt (length e.cells) 4294967296) (sent_entries entries (take i list)) ≡ true
      → length (entry_at entries lid).cells < 4294967296
      → list_all (λ e. nat_lt (length e.cells) 4294967296) (sent_entries entries (take (i + 1) list)) ≡ true
  few-more entries list i lid h all low =
      ap (list_all (λ (e : Entry S). nat_lt (length e.cells) 4294967296)) (sent-more entries list i lid h)
      ∙ push (sent_entries entries (take i list)) all
    where
      push : (es : List (Entry S)) → list_all (λ e. nat_lt (length e.cells) 4294967296) es ≡ true
          → list_all (λ e. nat_lt (length e.cells) 4294967296) (es ++ entry_at entries lid ∷ []) ≡ true
      push [] a = ap (λ x. x && true) (lt-ltb (length (entry_at entries lid).cells) 4294967296 low)
      push (e ∷ es) a =
          let parts = both (nat_lt (length e.cells) 4294967296) (list_all (λ (d : Entry S). nat_lt (length d.cells) 4294967296) es) a in
          and (nat_lt (length e.cells) 4294967296) (list_all (λ (d : Entry S). nat_lt (length d.cells) 4294967296) (es ++ entry_at entries lid ∷ [])) parts.0 (push es parts.1)
