-- Array text is read as the file of its values.
use Rattle.std.proofs.Common.{◌≡◌, ℕ, ◌+◌, ◌*◌, ◌/◌, ◌%◌, ◌≤◌, suc, ℤ, true, ◌&&◌, not, List, [], ◌∷◌, Option, Some, Ok, length, map, decimal, codes, refl, ap, ◌∙◌, arith, pos, negsuc}
use Rattle.std.specs.Prelude.{unsigned_abs}
use Rattle.std.specs.List.{list_all, join_with_byte, enumerate_from}
use Rattle.std.proofs.lemmas.Bool.{and_from}
use Rattle.mm_text.specs.Limits.{most_bytes, most_cols, profile_of, widest}
use Rattle.mm_text.specs.declared.reading.banner.Banner.{Banner}
use Rattle.mm_text.specs.declared.reading.banner.Kind.TheVariants.{Dense}
use Rattle.mm_text.specs.declared.fault.MmFault.TheVariants.{BadSize, BadLine}
use Rattle.mm_text.specs.declared.file_data.Line.{Line}
use Rattle.mm_text.specs.declared.file_data.Mirror.TheVariants.{Plain}
use Rattle.mm_text.specs.declared.reading.sizes.Sizes.{Sizes}
use Rattle.mm_text.specs.Entries.{entry_of, entries_of, narrow}
use Rattle.mm_text.specs.Lines.{Text, is_comment}
use Rattle.mm_text.specs.Numerals.{count_of}
use Rattle.mm_text.specs.Outcomes.{Outcome, ◌>>=◌, or_fault}
use Rattle.mm_text.specs.Sizes.{sizes_of, sizes_limited, array_sizes}
use Rattle.mm_text.specs.Written.{value_words, banner_words, lines_text, array_text}
use Rattle.mm_text.specs.WrittenFiles.{entry_of_value, AreNarrow, ArrayTextIsFile, file_of_values}
use Rattle.mm_text.proofs.Decimals.{is_visible, decimal-visible, count_of-decimal}
use Rattle.mm_text.proofs.Splitting.{are_visible, words_of-words}
use Rattle.std.proofs.lemmas.List.{length-map}
use Rattle.std.proofs.lemmas.List.FromFn.{length-enumerate_from}
use Rattle.mm_text.specs.declared.file_data.Form.TheVariants.{Array}
use Rattle.mm_text.specs.Reading.{reading, lines_read, file_sized, body_of}
use Rattle.mm_text.proofs.Rereading.{joined, value_words-visible, are_entries, kept_from-entries, decimal-entry, in_width-written, sizes_limited-within, body_of-entries, reading-lines}
use Rattle.mm_text.specs.declared.reading.numerals.Number.{Number}

abbrev array_banner : Banner
array_banner = record { kind = Dense; mirror = Plain }

entry_of-value : (s : Sizes) (number at : ℕ) (value : ℤ) → unsigned_abs value ≤ widest →
    entry_of array_banner s number at (value_words value) ≡ Ok (entry_of_value s.rows (at, value))
entry_of-value s number at value narrow_value =
    ap (λ (o : Option Number). or_fault (BadLine number) o >>= narrow number (at % s.rows) (at / s.rows))
    (in_width-written value narrow_value)

entries_of-values : (s : Sizes) (number at : ℕ) (values : List ℤ) → AreNarrow values →
    entries_of array_banner s at (enumerate_from number (joined (map value_words values)))
    ≡ Ok (map (entry_of_value s.rows) (enumerate_from at values))
entries_of-values s number at [] narrow_all = refl
entries_of-values s number at (value ∷ values) narrow_all =
    let rest : List (ℕ × Text) = enumerate_from (number + 1) (joined (map value_words values)) in
    ap (λ (words : List Text). entry_of array_banner s number at words
    >>= (λ entry. entries_of array_banner s (at + 1) rest >>= (λ entries. Ok (entry ∷ entries))))
    (words_of-words (value_words value) (value_words-visible value))
    ∙ ap (λ (o : Outcome Line). o
    >>= (λ entry. entries_of array_banner s (at + 1) rest >>= (λ entries. Ok (entry ∷ entries))))
    (entry_of-value s number at value (narrow_all 0 value (omega arith)))
    ∙ ap (λ (o : Outcome (List Line)). o >>= (λ entries. Ok (entry_of_value s.rows (at, value) ∷ entries)))
    (entries_of-values s (number + 1) (at + 1) values (λ k d inside. narrow_all (suc k) d (omega (arith, inside))))

values-visible : (values : List ℤ) → are_visible (map value_words values) ≡ true
values-visible [] = refl
values-visible (value ∷ values) =
    and_from (list_all is_visible (value_words value)) (are_visible (map value_words values)) (value_words-visible value)
    (values-visible values)

value-entry : (z : ℤ) → unsigned_abs z ≤ widest → not (is_comment (value_words z)) ≡ true
value-entry (pos n) narrow_value = decimal-entry n [] (omega arith)
value-entry (negsuc n) narrow_value = refl

values-entries : (values : List ℤ) → AreNarrow values → are_entries (map value_words values) ≡ true
values-entries [] narrow_all = refl
values-entries (value ∷ values) narrow_all =
    and_from (not (is_comment (value_words value))) (are_entries (map value_words values))
    (value-entry value (narrow_all 0 value (omega arith)))
    (values-entries values (λ k d inside. narrow_all (suc k) d (omega (arith, inside))))

-- the size line of an array
abbrev shape_words : ℕ → ℕ → List Text
shape_words rows cols = decimal rows ∷ decimal cols ∷ []

shape_words-visible : (rows cols : ℕ) → list_all is_visible (shape_words rows cols) ≡ true
shape_words-visible rows cols =
    and_from (is_visible (decimal rows)) (is_visible (decimal cols) && true) (decimal-visible rows)
    (and_from (is_visible (decimal cols)) true (decimal-visible cols) refl)

array_sizes-is : (a b : Option ℕ) (m n : ℕ) → a ≡ Some m → b ≡ Some n →
    array_sizes a b ≡ Some (record { rows = m; cols = n; count = m * n })
array_sizes-is a b m n p q = ap (λ (x : Option ℕ). array_sizes x b) p ∙ ap (array_sizes (Some m)) q

sizes_of-array : (room most rows cols : ℕ) → rows ≤ most → rows ≤ most_cols → cols ≤ most_cols → rows * cols ≤ room →
    sizes_of array_banner (profile_of Array room most) (shape_words rows cols)
    ≡ Ok (record { rows = rows; cols = cols; count = rows * cols })
sizes_of-array room most rows cols rows_most rows_fit cols_fit count_fits =
    ap (λ (o : Option Sizes). or_fault BadSize o >>= sizes_limited Plain (profile_of Array room most))
    (array_sizes-is (count_of (decimal rows)) (count_of (decimal cols)) rows cols
    (count_of-decimal rows (omega arith)) (count_of-decimal cols (omega arith)))
    ∙ sizes_limited-within (profile_of Array room most) (record { rows = rows; cols = cols; count = rows * cols }) rows_most cols_fit count_fits

-- the lines of array text
pub array_lines : ℕ → ℕ → List ℤ → List (List Text)
array_lines rows cols values = banner_words (codes "array") ∷ shape_words rows cols ∷ map value_words values

array_text-lines : (rows cols : ℕ) (values : List ℤ) → array_text rows cols values ≡ lines_text (array_lines rows cols values)
unfolding array_text array_lines
array_text-lines rows cols values = refl

array_lines-visible : (rows cols : ℕ) (values : List ℤ) → are_visible (array_lines rows cols values) ≡ true
unfolding array_lines
array_lines-visible rows cols values =
    and_from (list_all is_visible (shape_words rows cols)) (are_visible (map value_words values))
    (shape_words-visible rows cols) (values-visible values)

lines_read-array : (rows cols room most : ℕ) (values : List ℤ) → rows ≤ most → rows ≤ most_cols → cols ≤ most_cols →
    length values ≡ rows * cols → length values ≤ room → AreNarrow values →
    lines_read true (profile_of Array room most) (joined (array_lines rows cols values)) ≡ Ok (file_of_values rows cols values)
unfolding array_lines
lines_read-array rows cols room most values rows_most rows_fit cols_fit all count_fits narrow_all =
    let sizes : Sizes = record { rows = rows; cols = cols; count = rows * cols } in
    let shape : List Text = shape_words rows cols in
    let entries : List (List Text) = map value_words values in
    let rest : List (ℕ × Text) = enumerate_from 3 (joined entries) in
    ap (file_sized true (profile_of Array room most) array_banner)
    (kept_from-entries 2 (shape ∷ entries)
    (and_from (list_all is_visible shape) (are_visible entries) (shape_words-visible rows cols) (values-visible values))
    (and_from (not (is_comment shape)) (are_entries entries) (decimal-entry rows (decimal cols ∷ []) (omega arith))
    (values-entries values narrow_all)))
    ∙ ap (λ (words : List Text). sizes_of array_banner (profile_of Array room most) words
    >>= (λ s. body_of true array_banner s rest))
    (words_of-words shape (shape_words-visible rows cols))
    ∙ ap (λ (o : Outcome Sizes). o >>= (λ s. body_of true array_banner s rest))
    (sizes_of-array room most rows cols rows_most rows_fit cols_fit (omega (arith, all, count_fits)))
    ∙ body_of-entries array_banner sizes rest (map (entry_of_value rows) (enumerate_from 0 values))
    (length-enumerate_from 3 (joined entries) ∙ length-map entries (join_with_byte 32)
    ∙ length-map values value_words ∙ all)
    (length-map (enumerate_from 0 values) (entry_of_value rows) ∙ length-enumerate_from 0 values ∙ all)
    (entries_of-values sizes 3 0 values narrow_all)

reading-array : (rows cols room most : ℕ) (values : List ℤ) (text : Text) →
    text ≡ lines_text (array_lines rows cols values) → length text ≤ most_bytes →
    rows ≤ most → rows ≤ most_cols → cols ≤ most_cols → length values ≡ rows * cols → length values ≤ room →
    AreNarrow values → reading (profile_of Array room most) text ≡ Ok (file_of_values rows cols values)
reading-array rows cols room most values text made short rows_most rows_fit cols_fit all count_fits narrow_all =
    reading-lines (profile_of Array room most) (array_lines rows cols values) text made (array_lines-visible rows cols values) short
    ∙ lines_read-array rows cols room most values rows_most rows_fit cols_fit all count_fits narrow_all

pub array_text-is_file : ArrayTextIsFile
array_text-is_file rows cols room most values rows_most rows_fit cols_fit all count_fits narrow_all short =
    reading-array rows cols room most values (array_text rows cols values) (array_text-lines rows cols values) short
    rows_most rows_fit cols_fit all count_fits narrow_all
