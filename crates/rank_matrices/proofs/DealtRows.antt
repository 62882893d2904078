-- The lines of a matrix that are dealt to a rank, and the rows that they name.
use Rattle.std.proofs.Common.{◌≡◌, ℕ, zero, suc, ◌+◌, ◌<◌, Bool, true, false, cond, List, [], ◌∷◌, ◌++◌, get_or, map, refl, sym, ap, ◌∙◌, subst, arith}
use Rattle.std.specs.Prelude.{ℤ, pos, is_some, filter}
use Rattle.std.specs.List.{flat_map, list_any}
use Rattle.std.proofs.lemmas.List.Concat.{flat_map-append}
use Rattle.scalar_laws.specs.Semiring.{Semiring}
use Rattle.scalar_laws.specs.Conversions.{Conversions}
use Rattle.tables.specs.declared.Cell.{Cell}
use Rattle.tables.specs.Indices.{count_from, dealt, stands}
use Rattle.tables.specs.Tables.{table_of}
use Rattle.tables.proofs.Counting.{stands-within}
use Rattle.map_core.proofs.Members.{and_true, both_true, stands-filter}
use Rattle.mm_text.specs.declared.file_data.Line.{Line}
use Rattle.mm_text.specs.declared.file_data.Mirror.{Mirror}
use Rattle.mm_text.specs.declared.file_data.Mirror.TheVariants.{Plain}
use Rattle.mm_text.specs.Reading.{File}
use Rattle.model_defs.specs.declared.job.Job.{Job}
use Rattle.model_defs.specs.FileMatrix.{entry_cells, entry_numbers, number_cell}
use Rattle.model_defs.specs.Eval.{make_value}
use Rattle.model_defs.specs.Given.{dealt_part, given_matrix, value_file}
use Rattle.model_defs.specs.Makers.{GivenMatrix, maker_of, value_count}
use Rattle.model_defs.specs.Maps.{size_of}
use Rattle.model_defs.specs.Plans.{dealt_places, one_conversions, one_semiring, rows_of, structure, structure_before}
use Rattle.model_defs.specs.Shapes.{is_split_sort, shape, shape_by}
use Rattle.model_defs.specs.declared.shape.Sort.TheVariants.{Matrix, Split}
use Rattle.model_defs.proofs.AllRows.{fitting}
use Rattle.model_defs.proofs.Formed.{file-within}
use Rattle.model_defs.proofs.KnownShapes.{shape-of-made}
use Rattle.model_defs.proofs.Turns.{in_turn-is}
use Rattle.crs_graph.specs.Ascending.{IsAbove, IsAscending}
use Rattle.crs_graph.proofs.AllColumns.{ascending-ascends, ascending_unique, same_test, stands-ascending}
use Rattle.rank_share.specs.Shares.{entry_lines, place_line}
use Rattle.rank_values.specs.Vectors.{lines_table}
use Rattle.rank_values.proofs.Overs.{any-from, any-here}
use Rattle.rank_matrices.specs.Laws.{dealt_lines, DealtLinesAreParts, DealtLinesNameRows, DealtLinesNameRankRows}
use Rattle.rank_matrices.specs.Matrices.{named_rows}
use Rattle.rank_matrices.proofs.NamedRows.{line-there, named, there-named}

-- ---- numbers that ascend and pass a test

above-filter : (p : ℕ → Bool) (c n k : ℕ) → c < n → IsAbove c (filter p (count_from n k))
above-filter p c n zero low = tt
above-filter p c n (suc k) low = by (p n) (above-filter p n (n + 1) k (omega arith)) (above-filter p c (n + 1) k (omega arith))
  where
    by : (b : Bool) → IsAbove n (filter p (count_from (n + 1) k)) → IsAbove c (filter p (count_from (n + 1) k)) → IsAbove c (cond b (n ∷ filter p (count_from (n + 1) k)) (filter p (count_from (n + 1) k)))
    by true first rest = (low, first)
    by false first rest = rest

ascending-filter : (p : ℕ → Bool) (n k : ℕ) → IsAscending (filter p (count_from n k))
ascending-filter p n zero = tt
ascending-filter p n (suc k) = by (p n) (above-filter p n (n + 1) k (omega arith)) (ascending-filter p (n + 1) k)
  where
    by : (b : Bool) → IsAbove n (filter p (count_from (n + 1) k)) → IsAscending (filter p (count_from (n + 1) k)) → IsAscending (cond b (n ∷ filter p (count_from (n + 1) k)) (filter p (count_from (n + 1) k)))
    by true first rest = first
    by false first rest = rest

-- ---- rows of a table

module _ {S : Type 0} (R : Semiring S) (F : Conversions S) where
  -- The rows that lines name are those of their table, which has no place beyond these sizes.
  pub named-rows : (lines : List Line) (rows cols : ℕ) → ((i j : ℕ) → is_some (lines_table R F lines i j) ≡ true → (i < rows) × (j < cols))
      → named_rows lines ≡ rows_of rows cols (lines_table R F lines)
  named-rows lines rows cols within =
      ascending_unique (named_rows lines) (rows_of rows cols (lines_table R F lines)) (ascending-ascends (map (λ l. l.row) lines)) (ascending-filter test 0 rows)
      (λ g. stands-ascending (map (λ l. l.row) lines) g ∙ same_test (stands g (map (λ l. l.row) lines)) (stands g (rows_of rows cols (lines_table R F lines))) (to g) (back g))
    where
      test : ℕ → Bool
      test i = list_any (λ j. is_some (lines_table R F lines i j)) (count_from 0 cols)

      no_line : Line
      no_line = record { row = 0; col = 0; value = pos 0 }

      to : (g : ℕ) → stands g (map (λ l. l.row) lines) ≡ true → stands g (rows_of rows cols (lines_table R F lines)) ≡ true
      to g h =
          let n = named lines g h in
          let col = (get_or lines n.at no_line).col in
          let there : is_some (lines_table R F lines g col) ≡ true = ap (λ i. is_some (lines_table R F lines i col)) (sym (n.row no_line)) ∙ line-there R F lines n.at no_line n.low in
          let low = within g col there in
          let one = low.0 in
          let two = low.1 in
          stands-filter g test (count_from 0 rows)
          ∙ both_true (stands g (count_from 0 rows)) (test g) (stands-within 0 rows g (omega arith) (omega arith))
          (any-here (λ j. is_some (lines_table R F lines g j)) 0 cols col (omega arith) (omega arith) there)

      back : (g : ℕ) → stands g (rows_of rows cols (lines_table R F lines)) ≡ true → stands g (map (λ l. l.row) lines) ≡ true
      back g h =
          let both = and_true (stands g (count_from 0 rows)) (test g) (sym (stands-filter g test (count_from 0 rows)) ∙ h) in
          let one = any-from (λ j. is_some (lines_table R F lines g j)) 0 cols both.1 in
          there-named R F lines g one.k one.is

-- ---- what is dealt

module _ {S : Type 0} (R : Semiring S) (F : Conversions S) where
  numbers-of-places : (cs : List (Cell ℤ)) → flat_map (entry_numbers R F Plain) (map place_line cs) ≡ map (number_cell R F) cs
  numbers-of-places [] = refl
  numbers-of-places (c ∷ cs) = ap (λ xs. number_cell R F c ∷ xs) (numbers-of-places cs)

  numbers-of-entries : (mirror : Mirror) (lines : List Line) → flat_map (entry_numbers R F Plain) (flat_map (entry_lines mirror) lines) ≡ flat_map (entry_numbers R F mirror) lines
  numbers-of-entries mirror [] = refl
  numbers-of-entries mirror (l ∷ ls) =
      let first = numbers-of-places (entry_cells mirror l) in
      let rest = numbers-of-entries mirror ls in
      flat_map-append (entry_numbers R F Plain) (entry_lines mirror l) (flat_map (entry_lines mirror) ls) ∙ (λ t. first t ++ rest t)

  pub dealt-table : (job : Job) (files : List File) (k p : ℕ) → lines_table R F (dealt_lines job files k p) ≡ dealt_part R F job files k p
  dealt-table job files k p =
      let file = value_file job files k 0 in
      ap (table_of R) (numbers-of-entries file.mirror (dealt job.ranks p file.lines))

pub law-of-tables : {S : Type 0} → DealtLinesAreParts S
law-of-tables R F job files k p = dealt-table R F job files k p

pub law-of-rows : DealtLinesNameRows
law-of-rows job files valid fit k p spec known maker =
    named-rows one_semiring one_conversions lines (size_of job (shape job k).rows) (size_of job (shape job k).domain) within
    ∙ ap (rows_of (size_of job (shape job k).rows) (size_of job (shape job k).domain)) (dealt-table one_semiring one_conversions job files k p)
  where
    lines : List Line
    lines = dealt_lines job files k p

    made : shape job k ≡ shape_by k (shape job) (GivenMatrix spec)
    made = shape-of-made job valid k known ∙ ap (shape_by k (shape job)) maker

    within : (i j : ℕ) → is_some (lines_table one_semiring one_conversions lines i j) ≡ true → (i < size_of job (shape job k).rows) × (j < size_of job (shape job k).domain)
    within i j h =
        subst (λ s. (i < size_of job s.rows) × (j < size_of job s.domain)) (sym made)
        (file-within one_semiring one_conversions job files valid (fitting job files fit) k spec known maker true p i j (sym (ap (λ t. is_some (t i j)) (dealt-table one_semiring one_conversions job files k p)) ∙ h))

pub law-of-rank_rows : DealtLinesNameRankRows
law-of-rank_rows job files valid fit k p spec known maker =
    law-of-rows job files valid fit k p spec known maker
    ∙ ap (rows_of (size_of job (shape job k).rows) (size_of job (shape job k).domain))
    (sym (ap (λ s. dealt_places job files (is_split_sort s.sort) k p) made ∙ places spec.split refl))
  where
    made : shape job k ≡ shape_by k (shape job) (GivenMatrix spec)
    made = shape-of-made job valid k known ∙ ap (shape_by k (shape job)) maker

    value : structure job files k ≡ given_matrix one_semiring one_conversions job files k spec.split
    value =
        in_turn-is (λ p. _) (λ v before. make_value one_semiring one_conversions job files (λ v i j. 0) v before (maker_of job v)) (value_count job) k known
        ∙ ap (make_value one_semiring one_conversions job files (λ v i j. 0) k (structure_before job files k)) maker

    places : (b : Bool) → spec.split ≡ b → dealt_places job files (is_split_sort (cond b Split Matrix)) k p ≡ dealt_part one_semiring one_conversions job files k p
    places true e = (λ t. value t p) ∙ ap (λ b. given_matrix one_semiring one_conversions job files k b p) e
    places false e = refl
