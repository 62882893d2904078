-- Coordinate text is read as the file of its places.
use Rattle.std.proofs.Common.{◌≡◌, ℕ, ◌+◌, ◌-◌, ◌^◌, ◌<◌, ◌≤◌, suc, Bool, true, false, cond, ◌&&◌, ◌||◌, not, List, [], ◌∷◌, ◌++◌, Option, Some, None, Ok, Err, length, map, decimal, codes, refl, ap, ◌∙◌, arith, append_assoc, length-append}
use Rattle.std.specs.Prelude.{unsigned_abs, option_map}
use Rattle.std.specs.Fmt.{signed_decimal}
use Rattle.std.specs.List.{list_all, join_with_byte, enumerate_from}
use Rattle.std.proofs.lemmas.Bool.{and_from, le-ltb, ne_eqb}
use Rattle.mm_text.specs.Limits.{most_bytes, most_cols, most_rows, profile_of, widest}
use Rattle.mm_text.specs.declared.reading.banner.Banner.{Banner}
use Rattle.mm_text.specs.declared.reading.banner.Kind.TheVariants.{Valued}
use Rattle.mm_text.specs.declared.reading.entries.Cell.{Cell}
use Rattle.mm_text.specs.declared.fault.MmFault.TheVariants.{BadSize, BadLine, OutOfRange}
use Rattle.mm_text.specs.declared.file_data.Line.{Line}
use Rattle.mm_text.specs.declared.file_data.Mirror.TheVariants.{Plain}
use Rattle.mm_text.specs.declared.shown.Shown.{Shown}
use Rattle.mm_text.specs.declared.reading.sizes.Sizes.{Sizes}
use Rattle.mm_text.specs.Entries.{entry_of, entries_of, entry_placed, narrow, all_three, is_out}
use Rattle.mm_text.specs.Lines.{Text, is_comment, is_skipped, kept_from}
use Rattle.mm_text.specs.Numerals.{count_of, value_of, in_width}
use Rattle.mm_text.specs.Outcomes.{Outcome, ◌>>=◌, or_fault}
use Rattle.mm_text.specs.Sizes.{sizes_of, sizes_limited, coordinate_sizes}
use Rattle.mm_text.specs.Written.{ArePlacesWithin, cell_words, value_words, part_lines, banner_words, lines_text, coordinate_text}
use Rattle.mm_text.specs.WrittenFiles.{entry_of_cell, AreNarrow, file_of_cells, CoordinateTextIsFile}
use Rattle.mm_text.proofs.Decimals.{is_visible, decimal-visible, count_of-decimal}
use Rattle.mm_text.proofs.Splitting.{are_visible, words_of-words}
use Rattle.std.proofs.lemmas.List.{length-map}
use Rattle.std.proofs.lemmas.List.Folds.{list_all-append}
use Rattle.std.proofs.lemmas.List.FromFn.{length-enumerate_from}
use Rattle.mm_text.specs.declared.file_data.Form.TheVariants.{Coordinate}
use Rattle.mm_text.specs.Reading.{reading, lines_read, file_sized, body_of}
use Rattle.mm_text.proofs.Rereading.{joined, value_words-visible, are_entries, kept_from-entries, decimal-entry, in_width-written, sizes_limited-within, body_of-entries, reading-lines, length-lines_text}
use Rattle.mm_text.specs.declared.reading.numerals.Number.{Number}
use Rattle.mm_text.specs.declared.reading.numerals.Number.TheVariants.{Value}

-- the number of the line after the comment of a part
abbrev pub after_part : Option ℕ → ℕ
after_part None = 2
after_part (Some rank) = 3

pub kept_from-part : (part : Option ℕ) (lines : List (List Text)) → are_visible lines ≡ true → are_entries lines ≡ true →
    kept_from 2 (joined (part_lines part ++ lines)) ≡ enumerate_from (after_part part) (joined lines)
kept_from-part None lines visible entries = kept_from-entries 2 lines visible entries
kept_from-part (Some rank) lines visible entries =
    let words : List Text = codes "%" ∷ codes "part" ∷ decimal rank ∷ [] in
    let line : Text = join_with_byte 32 words in
    let skipped : is_skipped line ≡ true = ap is_comment (words_of-words words (and_from (is_visible (decimal rank)) true
    (decimal-visible rank) refl)) in
    let rest : List (ℕ × Text) = kept_from 3 (joined lines) in
    ap (λ (b : Bool). cond (not b) ((2, line) ∷ rest) rest) skipped ∙ kept_from-entries 3 lines visible entries

all_three-is : (a b : Option ℕ) (c : Option Number) (i j : ℕ) (v : Number) → a ≡ Some i → b ≡ Some j →
    c ≡ Some v → all_three a b c ≡ Some (record { row = i; col = j; number = v })
all_three-is a b c i j v p q r =
    ap (λ (x : Option ℕ). all_three x b c) p ∙ ap (λ (x : Option ℕ). all_three (Some i) x c) q
    ∙ ap (all_three (Some i) (Some j)) r

is_out-inside : (size i : ℕ) → i < size → is_out size (i + 1) ≡ false
is_out-inside size i inside = rw (ne_eqb (i + 1) 0 (λ e. omega (arith, e)), le-ltb size (i + 1) (omega arith)) refl

entry_placed-inside : (s : Sizes) (number : ℕ) (cell : Shown) → cell.row < s.rows → cell.col < s.cols →
    entry_placed Plain s number (record { row = cell.row + 1; col = cell.col + 1; number = Value cell.value })
    ≡ Ok (entry_of_cell cell)
entry_placed-inside s number cell row col =
    let line : ℕ → ℕ → Line = λ i j. record { row = i; col = j; value = cell.value } in
    let found : Outcome Line = Ok (line (cell.row + 1 - 1) (cell.col + 1 - 1)) in
    let out : Outcome Line = Err (OutOfRange number) in
    let same_row : cell.row + 1 - 1 ≡ cell.row = omega arith in
    let same_col : cell.col + 1 - 1 ≡ cell.col = omega arith in
    ap (λ (b : Bool). cond (b || is_out s.cols (cell.col + 1)) out found) (is_out-inside s.rows cell.row row)
    ∙ ap (λ (b : Bool). cond b out found) (is_out-inside s.cols cell.col col)
    ∙ ap (λ (i : ℕ). Ok (line i (cell.col + 1 - 1))) same_row ∙ ap (λ (j : ℕ). Ok (line cell.row j)) same_col

-- the entry of a place
abbrev pub coordinate_banner : Banner
coordinate_banner = record { kind = Valued; mirror = Plain }

entry_of-cell : (s : Sizes) (number at : ℕ) (cell : Shown) → s.rows ≤ most_rows → s.cols ≤ most_cols →
    cell.row < s.rows → cell.col < s.cols → unsigned_abs cell.value ≤ widest →
    entry_of coordinate_banner s number at (cell_words cell) ≡ Ok (entry_of_cell cell)
entry_of-cell s number at cell rows_fit cols_fit row col value =
    ap (λ (o : Option Cell). or_fault (BadLine number) o >>= entry_placed Plain s number)
    (all_three-is (count_of (decimal (cell.row + 1))) (count_of (decimal (cell.col + 1)))
    (option_map in_width (value_of (signed_decimal cell.value))) (cell.row + 1) (cell.col + 1) (Value cell.value)
    (count_of-decimal (cell.row + 1) (omega arith)) (count_of-decimal (cell.col + 1) (omega arith))
    (in_width-written cell.value value))
    ∙ entry_placed-inside s number cell row col

pub cell_words-visible : (cell : Shown) → list_all is_visible (cell_words cell) ≡ true
cell_words-visible cell =
    and_from (is_visible (decimal (cell.row + 1))) (list_all is_visible (decimal (cell.col + 1) ∷ value_words cell.value))
    (decimal-visible (cell.row + 1))
    (and_from (is_visible (decimal (cell.col + 1))) (list_all is_visible (value_words cell.value))
    (decimal-visible (cell.col + 1)) (value_words-visible cell.value))

pub entries_of-cells : (s : Sizes) (number at : ℕ) (cells : List Shown) → s.rows ≤ most_rows → s.cols ≤ most_cols →
    ArePlacesWithin s.rows s.cols cells → AreNarrow (map (λ (cell : Shown). cell.value) cells) →
    entries_of coordinate_banner s at (enumerate_from number (joined (map cell_words cells)))
    ≡ Ok (map entry_of_cell cells)
entries_of-cells s number at [] rows_fit cols_fit within narrow = refl
entries_of-cells s number at (cell ∷ cells) rows_fit cols_fit within narrow =
    let here = within 0 cell (omega arith) in
    let rest : List (ℕ × Text) = enumerate_from (number + 1) (joined (map cell_words cells)) in
    ap (λ (words : List Text). entry_of coordinate_banner s number at words
    >>= (λ entry. entries_of coordinate_banner s (at + 1) rest >>= (λ entries. Ok (entry ∷ entries))))
    (words_of-words (cell_words cell) (cell_words-visible cell))
    ∙ ap (λ (o : Outcome Line). o
    >>= (λ entry. entries_of coordinate_banner s (at + 1) rest >>= (λ entries. Ok (entry ∷ entries))))
    (entry_of-cell s number at cell rows_fit cols_fit here.0 here.1 (narrow 0 cell.value (omega arith)))
    ∙ ap (λ (o : Outcome (List Line)). o >>= (λ entries. Ok (entry_of_cell cell ∷ entries)))
    (entries_of-cells s (number + 1) (at + 1) cells rows_fit cols_fit
    (λ k d inside. within (suc k) d (omega (arith, inside))) (λ k d inside. narrow (suc k) d (omega (arith, inside))))

-- the size line of places
abbrev pub size_words : ℕ → ℕ → ℕ → List Text
size_words rows cols count = decimal rows ∷ decimal cols ∷ decimal count ∷ []

size_words-visible : (rows cols count : ℕ) → list_all is_visible (size_words rows cols count) ≡ true
size_words-visible rows cols count =
    and_from (is_visible (decimal rows)) (is_visible (decimal cols) && (is_visible (decimal count) && true))
    (decimal-visible rows)
    (and_from (is_visible (decimal cols)) (is_visible (decimal count) && true) (decimal-visible cols)
    (and_from (is_visible (decimal count)) true (decimal-visible count) refl))

coordinate_sizes-is : (a b c : Option ℕ) (m n l : ℕ) → a ≡ Some m → b ≡ Some n → c ≡ Some l →
    coordinate_sizes a b c ≡ Some (record { rows = m; cols = n; count = l })
coordinate_sizes-is a b c m n l p q r =
    ap (λ (x : Option ℕ). coordinate_sizes x b c) p ∙ ap (λ (x : Option ℕ). coordinate_sizes (Some m) x c) q
    ∙ ap (coordinate_sizes (Some m) (Some n)) r

sizes_of-coordinate : (room most rows cols count : ℕ) → rows ≤ most → most ≤ most_rows → cols ≤ most_cols →
    count ≤ room → count < 10 ^ 64 →
    sizes_of coordinate_banner (profile_of Coordinate room most) (size_words rows cols count)
    ≡ Ok (record { rows = rows; cols = cols; count = count })
sizes_of-coordinate room most rows cols count rows_fit most_fits cols_fit count_fits count_short =
    ap (λ (o : Option Sizes). or_fault BadSize o >>= sizes_limited Plain (profile_of Coordinate room most))
    (coordinate_sizes-is (count_of (decimal rows)) (count_of (decimal cols)) (count_of (decimal count)) rows cols count
    (count_of-decimal rows (omega arith)) (count_of-decimal cols (omega arith)) (count_of-decimal count count_short))
    ∙ sizes_limited-within (profile_of Coordinate room most) (record { rows = rows; cols = cols; count = count }) rows_fit cols_fit count_fits

cells-visible : (cells : List Shown) → are_visible (map cell_words cells) ≡ true
cells-visible [] = refl
cells-visible (cell ∷ cells) =
    and_from (list_all is_visible (cell_words cell)) (are_visible (map cell_words cells)) (cell_words-visible cell)
    (cells-visible cells)

cells-entries : (rows cols : ℕ) (cells : List Shown) → rows ≤ most_rows → ArePlacesWithin rows cols cells →
    are_entries (map cell_words cells) ≡ true
cells-entries rows cols [] rows_fit within = refl
cells-entries rows cols (cell ∷ cells) rows_fit within =
    let here = (within 0 cell (omega arith)).0 in
    and_from (not (is_comment (cell_words cell))) (are_entries (map cell_words cells))
    (decimal-entry (cell.row + 1) (decimal (cell.col + 1) ∷ value_words cell.value) (omega (arith, here)))
    (cells-entries rows cols cells rows_fit (λ k d inside. within (suc k) d (omega (arith, inside))))

-- the lines of coordinate text
pub coordinate_lines : ℕ → ℕ → Option ℕ → List Shown → List (List Text)
coordinate_lines rows cols part cells =
    banner_words (codes "coordinate")
    ∷ (part_lines part ++ size_words rows cols (length cells) ∷ map cell_words cells)

coordinate_text-lines : (rows cols : ℕ) (part : Option ℕ) (cells : List Shown) →
    coordinate_text rows cols part cells ≡ lines_text (coordinate_lines rows cols part cells)
unfolding coordinate_text coordinate_lines
coordinate_text-lines rows cols part cells =
    ap lines_text (append_assoc (banner_words (codes "coordinate") ∷ part_lines part)
    (size_words rows cols (length cells) ∷ []) (map cell_words cells))

part_lines-visible : (part : Option ℕ) → are_visible (part_lines part) ≡ true
part_lines-visible None = refl
part_lines-visible (Some rank) =
    and_from (is_visible (decimal rank) && true) true (and_from (is_visible (decimal rank)) true (decimal-visible rank) refl)
    refl

coordinate_lines-visible : (rows cols : ℕ) (part : Option ℕ) (cells : List Shown) →
    are_visible (coordinate_lines rows cols part cells) ≡ true
unfolding coordinate_lines
coordinate_lines-visible rows cols part cells =
    list_all-append (list_all is_visible) (part_lines part) (size_words rows cols (length cells) ∷ map cell_words cells)
    ∙ and_from (are_visible (part_lines part)) (are_visible (size_words rows cols (length cells) ∷ map cell_words cells))
    (part_lines-visible part)
    (and_from (list_all is_visible (size_words rows cols (length cells))) (are_visible (map cell_words cells))
    (size_words-visible rows cols (length cells)) (cells-visible cells))

lines_read-coordinate : (rows cols room most : ℕ) (part : Option ℕ) (cells : List Shown) →
    rows ≤ most → most ≤ most_rows → cols ≤ most_cols → length cells ≤ room → length cells < 10 ^ 64 →
    ArePlacesWithin rows cols cells → AreNarrow (map (λ (cell : Shown). cell.value) cells) →
    lines_read true (profile_of Coordinate room most) (joined (coordinate_lines rows cols part cells))
    ≡ Ok (file_of_cells rows cols cells)
unfolding coordinate_lines
lines_read-coordinate rows cols room most part cells rows_fit most_fits cols_fit count_fits count_short within narrow =
    let sizes : Sizes = record { rows = rows; cols = cols; count = length cells } in
    let size : List Text = size_words rows cols (length cells) in
    let places : List (List Text) = map cell_words cells in
    let rest : List (ℕ × Text) = enumerate_from (after_part part + 1) (joined places) in
    let rows_low : rows ≤ most_rows = omega arith in
    ap (file_sized true (profile_of Coordinate room most) coordinate_banner)
    (kept_from-part part (size ∷ places)
    (and_from (list_all is_visible size) (are_visible places) (size_words-visible rows cols (length cells))
    (cells-visible cells))
    (and_from (not (is_comment size)) (are_entries places)
    (decimal-entry rows (decimal cols ∷ decimal (length cells) ∷ []) (omega arith))
    (cells-entries rows cols cells rows_low within)))
    ∙ ap (λ (words : List Text). sizes_of coordinate_banner (profile_of Coordinate room most) words
    >>= (λ s. body_of true coordinate_banner s rest))
    (words_of-words size (size_words-visible rows cols (length cells)))
    ∙ ap (λ (o : Outcome Sizes). o >>= (λ s. body_of true coordinate_banner s rest))
    (sizes_of-coordinate room most rows cols (length cells) rows_fit most_fits cols_fit count_fits count_short)
    ∙ body_of-entries coordinate_banner sizes rest (map entry_of_cell cells)
    (length-enumerate_from (after_part part + 1) (joined places) ∙ length-map places (join_with_byte 32)
    ∙ length-map cells cell_words)
    (length-map cells entry_of_cell)
    (entries_of-cells sizes (after_part part + 1) 0 cells rows_low cols_fit within narrow)

length-coordinate_lines : (rows cols : ℕ) (part : Option ℕ) (cells : List Shown) →
    length cells ≤ length (coordinate_lines rows cols part cells)
unfolding coordinate_lines
length-coordinate_lines rows cols part cells =
    let all = length-append (part_lines part) (size_words rows cols (length cells) ∷ map cell_words cells) in
    let same = length-map cells cell_words in
    omega (arith, all, same)

reading-coordinate : (rows cols room most : ℕ) (part : Option ℕ) (cells : List Shown) (text : Text) →
    text ≡ lines_text (coordinate_lines rows cols part cells) → length text ≤ most_bytes →
    rows ≤ most → most ≤ most_rows → cols ≤ most_cols → length cells ≤ room →
    ArePlacesWithin rows cols cells → AreNarrow (map (λ (cell : Shown). cell.value) cells) →
    reading (profile_of Coordinate room most) text ≡ Ok (file_of_cells rows cols cells)
reading-coordinate rows cols room most part cells text made short rows_fit most_fits cols_fit count_fits within narrow =
    let lines : List (List Text) = coordinate_lines rows cols part cells in
    let few = length-coordinate_lines rows cols part cells in
    let fewer = length-lines_text lines in
    let long : length text ≡ length (lines_text lines) = ap length made in
    reading-lines (profile_of Coordinate room most) lines text made (coordinate_lines-visible rows cols part cells) short
    ∙ lines_read-coordinate rows cols room most part cells rows_fit most_fits cols_fit count_fits
    (omega (arith, few, fewer, long, short)) within narrow

pub coordinate_text-is_file : CoordinateTextIsFile
coordinate_text-is_file rows cols room most part cells rows_fit most_fits cols_fit count_fits within narrow short =
    reading-coordinate rows cols room most part cells (coordinate_text rows cols part cells)
    (coordinate_text-lines rows cols part cells) short rows_fit most_fits cols_fit count_fits within narrow
