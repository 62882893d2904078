-- The letters of rows of a job.
use Rattle.std.proofs.Common.{◌≡◌, ℕ, zero, suc, ◌+◌, ◌≤◌, Bool, true, false, cond, ltb, List, [], ◌∷◌, ◌++◌, map, filter, length, refl, sym, ap, ◌∙◌, arith, lt-ltb, ltb-true}
use Rattle.std.specs.Prelude.{is_some}
use Rattle.std.specs.List.{flat_map, list_all}
use Rattle.scalar_laws.specs.Semiring.{Semiring}
use Rattle.scalar_laws.specs.Conversions.{Conversions}
use Rattle.tables.specs.declared.Cell.{Cell}
use Rattle.tables.specs.Indices.{count_from}
use Rattle.tables.specs.Tables.{Table, all_cells, found}
use Rattle.distributor.proofs.Arrived.{rows-unique}
use Rattle.letter_codec.specs.declared.kind.Kind.TheVariants.{Reg, Rows}
use Rattle.letter_codec.specs.Letters.{AreWords, IsLetter, RowEntry, letter_bytes}
use Rattle.letter_codec.proofs.ReadLetters.{same_parts}
use Rattle.matrix_moves.specs.Arrivals.{IsPlacesLetter, cells_of_letter}
use Rattle.matrix_moves.proofs.Read.{are-rows, count-places, row-places, row_at}
use Rattle.mm_text.specs.Reading.{File}
use Rattle.outside.specs.declared.name.Name.{Name}
use Rattle.model_defs.specs.declared.job.Job.{Job}
use Rattle.model_defs.specs.declared.phase.About.TheVariants.{SendNumbers}
use Rattle.model_defs.specs.Letters.{entry_places, row_columns, row_words as words_of_row, sent_places, width, words_of_rows}
use Rattle.model_defs.specs.Limits.{most_indices, most_size}
use Rattle.model_defs.specs.Machine.{cells_at, place_bytes}
use Rattle.model_defs.specs.Phases.{phase_for}
use Rattle.model_defs.specs.Plans.{One, sent_rows}
use Rattle.model_defs.specs.Stages.{transfer_at}
use Rattle.model_defs.proofs.Bounds.{entries-are-small}
use Rattle.model_defs.proofs.Filters.{and, both}
use Rattle.model_defs.proofs.OwnCells.{own_cells_are_sent}
use Rattle.rank_stages.specs.LetterLaws.{IsRead}
use Rattle.matrix_arrivals.specs.RowLetters.{IsOfRows, LettersAreRows, LettersAreTables, RowsAreContent}
use Rattle.matrix_arrivals.proofs.Few.{narrow, row-few, sent-few, words-few}

abbrev fits : ℕ → Bool
fits w = ltb w 18446744073709551616

all-append : (xs ys : List ℕ) → list_all fits xs ≡ true → list_all fits ys ≡ true → list_all fits (xs ++ ys) ≡ true
all-append [] ys a b = b
all-append (x ∷ xs) ys a b =
    let parts = both (fits x) (list_all fits xs) a in
    and (fits x) (list_all fits (xs ++ ys)) parts.0 (all-append xs ys parts.1 b)

columns-fit : (p : ℕ → Bool) (b n : ℕ) → b + n ≤ 16777216 → list_all fits (filter p (count_from b n)) ≡ true
columns-fit p b zero l = refl
columns-fit p b (suc n) l = by (p b) (columns-fit p (b + 1) n (omega (arith, l)))
  where
    by : (x : Bool) → list_all fits (filter p (count_from (b + 1) n)) ≡ true
        → list_all fits (cond x (b ∷ filter p (count_from (b + 1) n)) (filter p (count_from (b + 1) n))) ≡ true
    by true rest = and (fits b) (list_all fits (filter p (count_from (b + 1) n))) (lt-ltb b 18446744073709551616 (omega (arith, l))) rest
    by false rest = rest

-- the words of rows below 2^40, of at most 2^24 columns, have 64 bits
pub words-fit : (t : Table One) (w : ℕ) → w ≤ most_indices → (rows : List ℕ) → list_all (λ i. ltb i most_size) rows ≡ true → AreWords (flat_map (words_of_row t w) rows)
words-fit t w narrow [] h = refl
words-fit t w narrow (i ∷ is) h =
    let parts = both (ltb i most_size) (list_all (λ k. ltb k most_size) is) h in
    let low = ltb-true i most_size parts.0 in
    let few = row-few t w i in
    all-append (words_of_row t w i) (flat_map (words_of_row t w) is)
    (and (fits i) _ (lt-ltb i 18446744073709551616 (omega (arith, low)))
    (and (fits (length (row_columns t w i))) _ (lt-ltb (length (row_columns t w i)) 18446744073709551616 (omega (arith, few, narrow)))
    (columns-fit (λ j. is_some (t i j)) 0 w (omega (arith, narrow)))))
    (words-fit t w narrow is parts.1)

-- the places of rows follow from their columns
abbrev entry_cells : RowEntry → List (Cell One)
entry_cells e = map (λ j. record { row = e.row; col = j; value = tt }) e.columns

places-are : (t : Table One) (w : ℕ) (rows : List ℕ) → all_cells t rows (count_from 0 w) ≡ flat_map entry_cells (map (row_at t w) rows)
places-are t w [] = refl
places-are t w (i ∷ is) = λ s. row-places t w i (count_from 0 w) s ++ places-are t w is s

module _ {S : Type 0} (R : Semiring S) (F : Conversions S) where
  pub rows-are-content : RowsAreContent R F
  rows-are-content job files k stage p q t kind same =
      let sent = own_cells_are_sent R F job files p q k stage t same in
      let rows = sent_rows job files (transfer_at job k stage) p q in
      (λ s. letter_bytes Rows (sent.0 s) (sym sent.1 s))
      ∙ ap (λ d. letter_bytes d (words_of_rows job files d (entry_places job files p k stage) (width job files k) rows) (place_bytes R F t (sent_places job files k stage p q))) (sym kind)

  module _ (job : Job) (files : List File) (k stage : ℕ) (name : Name) (bytes : List ℕ) (is : IsOfRows job k) (read : IsRead R F job files name bytes k stage) where
    abbrev places : Table One
    places = entry_places job files name.from k stage

    abbrev rows : List ℕ
    rows = sent_rows job files (transfer_at job k stage) name.from name.to

    abbrev words : List ℕ
    words = flat_map (words_of_row places (width job files k)) rows

    narrowed : width job files k ≤ most_indices
    narrowed = narrow job is.valid files k is.below is.rows

    is-letter : IsLetter Rows words read.numbers
    is-letter =
        record {
          few = (let few = words-few places (width job files k) narrowed rows in
              let many = sent-few job is.valid files (transfer_at job k stage) name.from name.to in
              omega (arith, few, many));
          fit = words-fit places (width job files k) narrowed rows
              (entries-are-small job files (phase_for k Reg (SendNumbers stage)) (record { phase = 0; from = name.from; to = name.to }) is.valid);
          count = length (sent_places job files k stage name.from name.to);
          pieces = read.many;
          form = (map (row_at places (width job files k)) rows, are-rows places (width job files k) rows, count-places places (width job files k) rows);
        }

    whole-is : bytes ≡ letter_bytes Rows words read.numbers
    whole-is = read.whole ∙ ap (λ d. letter_bytes d (words_of_rows job files d places (width job files k) rows) read.numbers) is.rows

    pub letter-of : IsPlacesLetter bytes rows
    letter-of =
        record {
          places = places;
          width = width job files k;
          numbers = read.numbers;
          letter = is-letter;
          whole = whole-is;
        }

    pub table-of : (letter : IsPlacesLetter bytes rows) → cells_of_letter F bytes rows letter ≡ cells_at F (sent_places job files k stage name.from name.to) read.numbers
    table-of letter =
        let same = same_parts Rows Rows (flat_map (words_of_row letter.places letter.width) rows) words letter.numbers read.numbers
        letter.letter.few is-letter.few letter.letter.fit is-letter.fit (sym letter.whole ∙ whole-is) in
        let entries = rows-unique (map (row_at letter.places letter.width) rows) (map (row_at places (width job files k)) rows)
        (sym (are-rows letter.places letter.width rows).0 ∙ same.1 ∙ (are-rows places (width job files k) rows).0) in
        let cells = places-are letter.places letter.width rows ∙ ap (flat_map entry_cells) entries ∙ sym (places-are places (width job files k) rows) in
        (λ s. cells_at F (cells s) (same.2 s))

  pub letters-are-rows : LettersAreRows R F
  letters-are-rows job files k stage name bytes is read = letter-of job files k stage name bytes is read

  pub letters-are-tables : LettersAreTables R F
  letters-are-tables job files k stage name bytes is read letter =
      ap found (table-of job files k stage name bytes is read letter ∙ sym read.cells)
