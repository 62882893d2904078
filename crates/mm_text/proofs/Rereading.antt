-- Written lines are read again: what the texts of places and of values have in common.
use Rattle.std.proofs.Common.{◌≡◌, ℕ, ◌+◌, ◌^◌, ◌<◌, ◌≤◌, ℤ, Bool, true, cond, ◌||◌, not, List, [], ◌∷◌, Some, Ok, Err, length, map, take, drop, get_or, nat_lt, decimal, refl, ap, sym, ◌∙◌, arith, length-append}
use Rattle.std.specs.Prelude.{unsigned_abs, option_map}
use Rattle.std.specs.Fmt.{signed_decimal}
use Rattle.std.specs.List.{list_all, join_with_byte, enumerate_from}
use Rattle.std.proofs.lemmas.Bool.{and_parts, and_from, le-ltb, le-leb, ne_eqb}
use Rattle.mm_text.specs.declared.profile.Profile.{Profile}
use Rattle.mm_text.specs.Limits.{widest}
use Rattle.mm_text.specs.declared.reading.banner.Banner.{Banner}
use Rattle.mm_text.specs.declared.fault.MmFault.TheVariants.{BadSize, TooManyEntries, TooFew}
use Rattle.mm_text.specs.declared.file_data.Line.{Line}
use Rattle.mm_text.specs.declared.file_data.Mirror.TheVariants.{Plain}
use Rattle.mm_text.specs.declared.reading.sizes.Sizes.{Sizes}
use Rattle.mm_text.specs.Entries.{entries_of, narrow}
use Rattle.mm_text.specs.Lines.{Text, is_comment, is_skipped, kept_from, lines_of}
use Rattle.mm_text.specs.Numerals.{value_of, in_width}
use Rattle.mm_text.specs.Outcomes.{Outcome, ◌>>=◌}
use Rattle.mm_text.specs.Sizes.{sizes_limited}
use Rattle.mm_text.specs.Written.{value_words, lines_text, line_text}
use Rattle.mm_text.proofs.Decimals.{is_visible, signed_decimal-visible, first-decimal, value_of-signed_decimal, in_width-narrow}
use Rattle.mm_text.proofs.Splitting.{are_visible, words_of-words, lines_of-lines}
use Rattle.std.proofs.Math.Seq.{drop-length}
use Rattle.std.proofs.lemmas.List.{take_all}
use Rattle.mm_text.specs.Reading.{File, reading, lines_read, body_of, complete, no_more}
use Rattle.mm_text.specs.declared.reading.numerals.Number.TheVariants.{Value}

-- the lines of these words
abbrev pub joined : List (List Text) → List Text
joined lines = map (join_with_byte 32) lines

pub value_words-visible : (z : ℤ) → list_all is_visible (value_words z) ≡ true
value_words-visible z = and_from (is_visible (signed_decimal z)) true (signed_decimal-visible z) refl

-- no line of these words is a comment
abbrev pub are_entries : List (List Text) → Bool
are_entries lines = list_all (λ words. not (is_comment words)) lines

pub kept_from-entries : (first : ℕ) (lines : List (List Text)) → are_visible lines ≡ true → are_entries lines ≡ true →
    kept_from first (joined lines) ≡ enumerate_from first (joined lines)
kept_from-entries first [] visible entries = refl
kept_from-entries first (words ∷ lines) visible entries =
    let v = and_parts (list_all is_visible words) (are_visible lines) visible in
    let e = and_parts (not (is_comment words)) (are_entries lines) entries in
    let line : Text = join_with_byte 32 words in
    let here : not (is_skipped line) ≡ true = ap (λ ws. not (is_comment ws)) (words_of-words words v.0) ∙ e.0 in
    ap (λ (b : Bool). cond b ((first, line) ∷ kept_from (first + 1) (joined lines)) (kept_from (first + 1) (joined lines))) here
    ∙ ap (λ (ls : List (ℕ × Text)). (first, line) ∷ ls) (kept_from-entries (first + 1) lines v.1 e.1)

-- a first byte that is no percent sign makes no comment
pub decimal-entry : (n : ℕ) (words : List Text) → n < 10 ^ 64 → not (is_comment (decimal n ∷ words)) ≡ true
decimal-entry n words fits =
    let digit = first-decimal n fits in
    ap not (ne_eqb (get_or (decimal n) 0 0) 37 (λ e. omega (arith, e, digit)))

-- what is written of a value is read as this value
pub in_width-written : (z : ℤ) → unsigned_abs z ≤ widest → option_map in_width (value_of (signed_decimal z)) ≡ Some (Value z)
in_width-written z narrow =
    ap (option_map in_width) (value_of-signed_decimal z (omega arith)) ∙ ap Some (in_width-narrow z narrow)

pub sizes_limited-within : (profile : Profile) (s : Sizes) → s.rows ≤ profile.rows → s.cols ≤ profile.cols → s.count ≤ profile.entries →
    sizes_limited Plain profile s ≡ Ok s
sizes_limited-within profile s rows cols count =
    let few : Outcome Sizes = cond (nat_lt profile.entries s.count) (Err TooManyEntries) (Ok s) in
    ap (λ (b : Bool). cond (b || nat_lt profile.cols s.cols) (Err BadSize) few) (le-ltb profile.rows s.rows rows)
    ∙ ap (λ (b : Bool). cond b (Err BadSize) few) (le-ltb profile.cols s.cols cols)
    ∙ ap (λ (b : Bool). cond b (Err TooManyEntries) (Ok s)) (le-ltb profile.entries s.count count)

-- as many entries as were announced
complete-all : (count : ℕ) (entries : List Line) → length entries ≡ count → complete true count entries [] ≡ Ok entries
complete-all count entries all =
    ap (λ (b : Bool). cond b (Err (TooFew (length entries))) (no_more true entries []))
    (le-ltb (length entries) count (omega (arith, all)))

-- the file of entry lines that are read as these entries
pub body_of-entries : (banner : Banner) (s : Sizes) (lines : List (ℕ × Text)) (entries : List Line) →
    length lines ≡ s.count → length entries ≡ s.count → entries_of banner s 0 lines ≡ Ok entries →
    body_of true banner s lines ≡ Ok (record { rows = s.rows; cols = s.cols; mirror = banner.mirror; lines = entries })
body_of-entries banner s lines entries announced all read =
    let file : List Line → Outcome File =
    λ ls. Ok (record { rows = s.rows; cols = s.cols; mirror = banner.mirror; lines = ls }) in
    ap (λ (ls : List (ℕ × Text)). entries_of banner s 0 ls
    >>= (λ es. complete true s.count es (drop s.count lines)) >>= file) (take_all s.count lines (omega (arith, announced)))
    ∙ ap (λ (o : Outcome (List Line)). o >>= (λ es. complete true s.count es (drop s.count lines)) >>= file) read
    ∙ ap (λ (ls : List (ℕ × Text)). complete true s.count entries ls >>= file)
    (ap (λ (n : ℕ). drop n lines) (sym announced) ∙ drop-length lines)
    ∙ ap (λ (o : Outcome (List Line)). o >>= file) (complete-all s.count entries all)

-- the lines of a text that is not too long
pub reading-lines : (profile : Profile) (lines : List (List Text)) (text : Text) → text ≡ lines_text lines →
    are_visible lines ≡ true → length text ≤ profile.bytes →
    reading profile text ≡ lines_read true profile (joined lines)
unfolding reading
reading-lines profile lines text made visible short =
    ap (λ (whole : Bool). lines_read whole profile (lines_of whole (take profile.bytes text)))
    (le-leb (length text) profile.bytes short)
    ∙ ap (λ (t : Text). lines_read true profile (lines_of true t)) (take_all profile.bytes text short ∙ made)
    ∙ ap (lines_read true profile) (lines_of-lines lines visible)

-- a text has no more lines than bytes
pub length-lines_text : (lines : List (List Text)) → length lines ≤ length (lines_text lines)
length-lines_text [] = omega arith
length-lines_text (line ∷ lines) =
    let here = length-append (join_with_byte 32 line) (10 ∷ []) in
    let all = length-append (line_text line) (lines_text lines) in
    let rest = length-lines_text lines in
    omega (arith, here, all, rest)
