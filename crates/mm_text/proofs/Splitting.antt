-- The lines and words of a text that was made of them.
use Rattle.std.proofs.Common.{◌≡◌, ℕ, ◌-◌, ◌<◌, Bool, true, false, cond, List, [], ◌∷◌, ◌++◌, length, map, take, get_or, nat_lt, nat_le, ◌==◌, refl, ap, ◌∙◌, arith, append_assoc, zero, suc, lit<}
use Rattle.std.specs.Prelude.{filter, All}
use Rattle.std.specs.List.{list_all, join_with_byte}
use Rattle.std.proofs.lemmas.Bool.{and_parts, ltb-true, leb-true, le-leb, ne_eqb}
use Rattle.std.proofs.lemmas.List.Splits.{slice_split_none, slice_split_at}
use Rattle.std.proofs.lemmas.List.Sums.{AllPass-from_list_all}
use Rattle.std.proofs.lemmas.List.Folds.{list_all-append}
use Rattle.mm_text.specs.Lines.{Text, is_blank, is_word, onto_line, lines_of, without_return, words_in, words_of}
use Rattle.mm_text.specs.Written.{lines_text}
use Rattle.mm_text.proofs.Decimals.{is_visible}

-- no byte of a word is blank
is_blank-visible : (b : ℕ) → nat_lt 32 b ≡ true → is_blank b ≡ false
is_blank-visible b above =
    let large : 32 < b = ltb-true 32 b above in
    rw (ne_eqb b 32 (λ e. omega (arith, e)), ne_eqb b 9 (λ e. omega (arith, e))) refl

no_blank : (word : Text) → is_visible word ≡ true → All (λ b. is_blank b ≡ false) word
no_blank word visible k d inside =
    is_blank-visible (get_or word k d) (AllPass-from_list_all (nat_lt 32) word
    (and_parts (is_word word) (list_all (nat_lt 32) word) visible).1 k d inside)

word-visible : (word : Text) → is_visible word ≡ true → is_word word ≡ true
word-visible word visible = (and_parts (is_word word) (list_all (nat_lt 32) word) visible).0

pub words_in-words : (words : List Text) → list_all is_visible words ≡ true → words_in (join_with_byte 32 words) ≡ words
words_in-words [] visible = refl
words_in-words (word ∷ []) visible =
    let here = (and_parts (is_visible word) true visible).0 in
    ap (filter is_word) (slice_split_none is_blank word (no_blank word here))
    ∙ ap (λ (b : Bool). cond b (word ∷ []) []) (word-visible word here)
words_in-words (word ∷ next ∷ words) visible =
    let parts = and_parts (is_visible word) (list_all is_visible (next ∷ words)) visible in
    let rest : Text = join_with_byte 32 (next ∷ words) in
    ap (filter is_word) (slice_split_at is_blank word 32 rest (no_blank word parts.0) refl)
    ∙ ap (λ (b : Bool). cond b (word ∷ words_in rest) (words_in rest)) (word-visible word parts.0)
    ∙ ap (λ (ws : List Text). word ∷ ws) (words_in-words (next ∷ words) parts.1)

-- no byte of a line of words is before the space
word_bytes : (word : Text) → list_all (nat_lt 32) word ≡ true → list_all (nat_le 32) word ≡ true
word_bytes [] above = refl
word_bytes (b ∷ bs) above =
    let parts = and_parts (nat_lt 32 b) (list_all (nat_lt 32) bs) above in
    let large : 32 < b = ltb-true 32 b parts.0 in
    rw (le-leb 32 b (omega (arith, large)), word_bytes bs parts.1) refl

visible_bytes : (word : Text) → is_visible word ≡ true → list_all (nat_le 32) word ≡ true
visible_bytes word visible =
    word_bytes word (and_parts (is_word word) (list_all (nat_lt 32) word) visible).1

line_bytes : (words : List Text) → list_all is_visible words ≡ true →
    list_all (nat_le 32) (join_with_byte 32 words) ≡ true
line_bytes [] visible = refl
line_bytes (word ∷ []) visible = visible_bytes word (and_parts (is_visible word) true visible).0
line_bytes (word ∷ next ∷ words) visible =
    let parts = and_parts (is_visible word) (list_all is_visible (next ∷ words)) visible in
    list_all-append (nat_le 32) word (32 ∷ join_with_byte 32 (next ∷ words))
    ∙ rw (visible_bytes word parts.0, line_bytes (next ∷ words) parts.1) refl

not_control : (line : Text) (byte k : ℕ) → byte < 32 → 0 < byte → list_all (nat_le 32) line ≡ true →
    (get_or line k 0 == byte) ≡ false
not_control [] byte k low some printed = ne_eqb 0 byte (λ e. omega (arith, e))
not_control (b ∷ bs) byte zero low some printed =
    let here = leb-true 32 b (and_parts (nat_le 32 b) (list_all (nat_le 32) bs) printed).0 in
    ne_eqb b byte (λ e. omega (arith, e, here))
not_control (b ∷ bs) byte (suc k) low some printed =
    not_control bs byte k low some (and_parts (nat_le 32 b) (list_all (nat_le 32) bs) printed).1

pub without_return-printed : (line : Text) → list_all (nat_le 32) line ≡ true → without_return line ≡ line
without_return-printed line printed =
    ap (λ (b : Bool). cond b (take (length line - 1) line) line)
    (not_control line 13 (length line - 1) (lit< tt) (lit< tt) printed)

pub words_of-words : (words : List Text) → list_all is_visible words ≡ true → words_of (join_with_byte 32 words) ≡ words
words_of-words words visible =
    ap words_in (without_return-printed (join_with_byte 32 words) (line_bytes words visible))
    ∙ words_in-words words visible

lines_of-line : (line rest : Text) → list_all (nat_le 32) line ≡ true →
    lines_of true (line ++ 10 ∷ rest) ≡ line ∷ lines_of true rest
lines_of-line [] rest printed = refl
lines_of-line (b ∷ bs) rest printed =
    let parts = and_parts (nat_le 32 b) (list_all (nat_le 32) bs) printed in
    let here = leb-true 32 b parts.0 in
    let tail : List Text = lines_of true (bs ++ 10 ∷ rest) in
    ap (λ (t : Bool). cond t ([] ∷ tail) (onto_line true b tail)) (ne_eqb b 10 (λ e. omega (arith, e, here)))
    ∙ ap (onto_line true b) (lines_of-line bs rest parts.1)

-- each of these lines has words, and no word has a blank
abbrev pub are_visible : List (List Text) → Bool
are_visible lines = list_all (list_all is_visible) lines

pub lines_of-lines : (lines : List (List Text)) → are_visible lines ≡ true →
    lines_of true (lines_text lines) ≡ map (join_with_byte 32) lines
lines_of-lines [] visible = refl
lines_of-lines (line ∷ lines) visible =
    let parts = and_parts (list_all is_visible line) (are_visible lines) visible in
    ap (lines_of true) (append_assoc (join_with_byte 32 line) (10 ∷ []) (lines_text lines))
    ∙ lines_of-line (join_with_byte 32 line) (lines_text lines) (line_bytes line parts.0)
    ∙ ap (λ (ls : List Text). join_with_byte 32 line ∷ ls) (lines_of-lines lines parts.1)
