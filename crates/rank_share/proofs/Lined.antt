-- What the lines of a share stand for as a table.
use Rattle.std.proofs.Common.{◌≡◌, ℕ, ◌<◌, ◌≤◌, ◌⊎◌, inl, inr, Bool, true, false, cond, eqb, ◌||◌, ◌&&◌, List, [], ◌∷◌, ◌++◌, filter, map, Option, None, Some, refl, sym, ap, ◌∙◌, arith}
use Rattle.std.specs.Prelude.{ℤ}
use Rattle.std.specs.List.{flat_map}
use Rattle.std.proofs.lemmas.Bool.{or_parts, eqb-true, eq-eqb, ne_eqb, eqb-false, and_from}
use Rattle.std.proofs.lemmas.List.{append-nil}
use Rattle.std.proofs.lemmas.List.Concat.{flat_map_single}
use Rattle.std.proofs.lemmas.List.Elements.{filter-append}
use Rattle.scalar_laws.specs.Semiring.{Semiring}
use Rattle.scalar_laws.specs.Conversions.{Conversions}
use Rattle.tables.specs.Indices.{stands, count_from, AreDistinct}
use Rattle.tables.specs.Sums.{total, if_there, both_or_one}
use Rattle.tables.proofs.Counting.{stands-within}
use Rattle.mm_text.specs.declared.file_data.Line.{Line}
use Rattle.model_defs.specs.FileMatrix.{number_of}
use Rattle.rank_share.specs.Ascending.{ascending}
use Rattle.rank_share.specs.CellLines.{at_index, names_place, named_lines, index_lines, cell_lines, filled_line, filled_index, filled_lines}
use Rattle.rank_share.specs.Laws.{lines_table}
use Rattle.rank_share.proofs.Rising.{distinct-strict, strict-ascending, stands-ascending}
use Rattle.rank_share.proofs.Sorted.{strict-count}

module _ (p : Line → Bool) (f : ℕ → List Line) where
  none-pass : (k : ℕ) (is : List ℕ) → stands k is ≡ false → ((j : ℕ) → (j ≡ k → ⊥) → filter p (f j) ≡ []) → filter p (flat_map f is) ≡ []
  none-pass k [] e others = refl
  none-pass k (i ∷ is) e others =
      let parts = or_parts (eqb i k) (stands k is) e in
      let rest = none-pass k is parts.1 others in
      let first = others i (eqb-false i k parts.0) in
      filter-append p (f i) (flat_map f is) ∙ (λ t. first t ++ rest t)

  -- Of the lines of distinct numbers, where only those of one number may pass, a filter leaves what it leaves of these.
  picked : (k : ℕ) (ks : List ℕ) → AreDistinct ks → stands k ks ≡ true → ((j : ℕ) → (j ≡ k → ⊥) → filter p (f j) ≡ []) → filter p (flat_map f ks) ≡ filter p (f k)
  picked k [] apart s others = absurd (let bad : ⊥ = cc in bad)
  picked k (j ∷ js) apart s others = filter-append p (f j) (flat_map f js) ∙ go (eqb j k) refl (λ more. picked k js apart.1 more others)
    where
      go : (b : Bool) → eqb j k ≡ b → (stands k js ≡ true → filter p (flat_map f js) ≡ filter p (f k)) → filter p (f j) ++ filter p (flat_map f js) ≡ filter p (f k)
      go true e rest =
          let same = eqb-true j k e in
          let gone = none-pass k js (ap (λ i. stands i js) (sym same) ∙ apart.0) others in
          (λ t. filter p (f (same t)) ++ gone t) ∙ append-nil (filter p (f k))
      go false e rest =
          let first = others j (eqb-false j k e) in
          (λ t. first t ++ filter p (flat_map f js)) ∙ rest (ap (λ b. b || stands k js) (sym e) ∙ s)

-- the lines of another index do not pass
other-index : (g j h : ℕ) (ls : List Line) → (h ≡ g → ⊥) → filter (names_place g j) (map (at_index h) ls) ≡ []
other-index g j h [] ne = refl
other-index g j h (l ∷ ls) ne =
    let rest = other-index g j h ls ne in
    (λ t. cond (ne_eqb h g ne t && eqb l.col j) (at_index h l ∷ filter (names_place g j) (map (at_index h) ls)) (filter (names_place g j) (map (at_index h) ls))) ∙ rest

-- nor do those of another column
other-column : (g i j c : ℕ) (ls : List Line) → (c ≡ j → ⊥) → filter (names_place g j) (named_lines ls g i c) ≡ []
other-column g i j c [] ne = refl
other-column g i j c (l ∷ ls) ne = go (eqb l.row i) (eqb l.col c) refl (other-column g i j c ls ne)
  where
    go : (a b : Bool) → eqb l.col c ≡ b → filter (names_place g j) (named_lines ls g i c) ≡ [] → filter (names_place g j) (map (at_index g) (cond (a && b) (l ∷ filter (names_place i c) ls) (filter (names_place i c) ls))) ≡ []
    go true true e rest =
        let col = eqb-true l.col c e in
        let off : eqb l.col j ≡ false = ne_eqb l.col j (λ f. ne (sym col ∙ f)) in
        (λ t. cond (eqb g g && off t) (at_index g l ∷ filter (names_place g j) (named_lines ls g i c)) (filter (names_place g j) (named_lines ls g i c)))
        ∙ none (eqb g g) (at_index g l ∷ filter (names_place g j) (named_lines ls g i c)) (filter (names_place g j) (named_lines ls g i c)) ∙ rest
      where
        none : (b : Bool) (xs ys : List Line) → cond (b && false) xs ys ≡ ys
        none true xs ys = refl
        none false xs ys = refl
    go true false e rest = rest
    go false b e rest = rest

-- and all those of the place do
own-place : (g i j : ℕ) (ls : List Line) → filter (names_place g j) (named_lines ls g i j) ≡ named_lines ls g i j
own-place g i j [] = refl
own-place g i j (l ∷ ls) = go (eqb l.row i) (eqb l.col j) refl (own-place g i j ls)
  where
    go : (a b : Bool) → eqb l.col j ≡ b → filter (names_place g j) (named_lines ls g i j) ≡ named_lines ls g i j
        → filter (names_place g j) (map (at_index g) (cond (a && b) (l ∷ filter (names_place i j) ls) (filter (names_place i j) ls))) ≡ map (at_index g) (cond (a && b) (l ∷ filter (names_place i j) ls) (filter (names_place i j) ls))
    go true true e rest =
        (λ t. cond (and_from (eqb g g) (eqb l.col j) (eq-eqb g g refl) e t) (at_index g l ∷ filter (names_place g j) (named_lines ls g i j)) (filter (names_place g j) (named_lines ls g i j)))
        ∙ ap (λ ys. at_index g l ∷ ys) rest
    go true false e rest = rest
    go false b e rest = rest

-- The lines of a place of a rank.
pub lines-at : (row : ℕ → ℕ) (list : List ℕ) (columns : ℕ) (lines : List Line) (g j : ℕ) → AreDistinct list → stands g list ≡ true → j < columns
    → filter (names_place g j) (cell_lines row list columns lines) ≡ named_lines lines g (row g) j
lines-at row list columns lines g j apart s l =
    picked (names_place g j) (λ h. index_lines lines columns h (row h)) g (ascending list) (distinct-strict (ascending list) (strict-ascending list apart)) (stands-ascending g list ∙ s)
    (λ h ne. none-index h (row h) (count_from 0 columns) ne)
    ∙ picked (names_place g j) (named_lines lines g (row g)) j (count_from 0 columns) (distinct-strict (count_from 0 columns) (strict-count 0 columns)) (stands-within 0 columns j (omega arith) (omega arith))
    (λ c ne. other-column g (row g) j c lines ne)
    ∙ own-place g (row g) j lines
  where
    none-index : (h i : ℕ) (cs : List ℕ) → (h ≡ g → ⊥) → filter (names_place g j) (flat_map (named_lines lines h i) cs) ≡ []
    none-index h i [] ne = refl
    none-index h i (c ∷ cs) ne =
        let rest = none-index h i cs ne in
        filter-append (names_place g j) (named_lines lines h i c) (flat_map (named_lines lines h i) cs) ∙ (λ t. other-index g j h (filter (names_place i c) lines) ne t ++ rest t)

pub filled-at : (list : List ℕ) (columns : ℕ) (v : ℤ) (g j : ℕ) → AreDistinct list → stands g list ≡ true → j < columns
    → filter (names_place g j) (filled_lines list columns v) ≡ filled_line v g j ∷ []
filled-at list columns v g j apart s l =
    picked (names_place g j) (filled_index v columns) g (ascending list) (distinct-strict (ascending list) (strict-ascending list apart)) (stands-ascending g list ∙ s)
    (λ h ne. none-index h (count_from 0 columns) ne)
    ∙ ap (filter (names_place g j)) (sym (flat_map_single (filled_line v g) (count_from 0 columns)))
    ∙ picked (names_place g j) (λ c. filled_line v g c ∷ []) j (count_from 0 columns) (distinct-strict (count_from 0 columns) (strict-count 0 columns)) (stands-within 0 columns j (omega arith) (omega arith))
    (λ c ne. (λ t. cond (eqb g g && ne_eqb c j ne t) (filled_line v g c ∷ []) []) ∙ none (eqb g g) (filled_line v g c ∷ []))
    ∙ (λ t. cond (and_from (eqb g g) (eqb j j) (eq-eqb g g refl) (eq-eqb j j refl) t) (filled_line v g j ∷ []) [])
  where
    none : (b : Bool) (xs : List Line) → cond (b && false) xs [] ≡ []
    none true xs = refl
    none false xs = refl

    none-index : (h : ℕ) (cs : List ℕ) → (h ≡ g → ⊥) → filter (names_place g j) (map (filled_line v h) cs) ≡ []
    none-index h [] ne = refl
    none-index h (c ∷ cs) ne =
        let rest = none-index h cs ne in
        (λ t. cond (ne_eqb h g ne t && eqb c j) (filled_line v h c ∷ filter (names_place g j) (map (filled_line v h) cs)) (filter (names_place g j) (map (filled_line v h) cs))) ∙ rest

module _ {S : Type 0} (R : Semiring S) (F : Conversions S) where
  -- the sum of the numbers of lines, if there is one
  abbrev pub lines_sum : List Line → Option S
  lines_sum ls = total (if_there R.plus) (λ l. Some (number_of R F l.value)) ls

  -- a place of the table of lines is the sum of the lines that name it
  pub table-at : (ls : List Line) (i j : ℕ) → lines_table R F ls i j ≡ lines_sum (filter (names_place i j) ls)
  table-at [] i j = refl
  table-at (l ∷ ls) i j = go (names_place i j l) (table-at ls i j)
    where
      go : (b : Bool) → lines_table R F ls i j ≡ lines_sum (filter (names_place i j) ls)
          → both_or_one R.plus (cond b (Some (number_of R F l.value)) None) (lines_table R F ls i j) ≡ lines_sum (cond b (l ∷ filter (names_place i j) ls) (filter (names_place i j) ls))
      go true e = ap (both_or_one R.plus (Some (number_of R F l.value))) e
      go false e = e

  sum-at_index : (g : ℕ) (ls : List Line) → lines_sum (map (at_index g) ls) ≡ lines_sum ls
  sum-at_index g [] = refl
  sum-at_index g (l ∷ ls) = ap (both_or_one R.plus (Some (number_of R F l.value))) (sum-at_index g ls)

  -- A cell of a rank's lines is that of the file.
  pub cell-table : (row : ℕ → ℕ) (list : List ℕ) (columns : ℕ) (lines : List Line) (g j : ℕ) → AreDistinct list → stands g list ≡ true → j < columns
      → lines_table R F (cell_lines row list columns lines) g j ≡ lines_table R F lines (row g) j
  cell-table row list columns lines g j apart s l =
      table-at (cell_lines row list columns lines) g j ∙ ap lines_sum (lines-at row list columns lines g j apart s l)
      ∙ sum-at_index g (filter (names_place (row g) j) lines) ∙ sym (table-at lines (row g) j)

  pub filled-table : (list : List ℕ) (columns : ℕ) (v : ℤ) (g j : ℕ) → AreDistinct list → stands g list ≡ true → j < columns
      → lines_table R F (filled_lines list columns v) g j ≡ Some (number_of R F v)
  filled-table list columns v g j apart s l = table-at (filled_lines list columns v) g j ∙ ap lines_sum (filled-at list columns v g j apart s l)
