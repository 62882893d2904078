-- The first word of bytes.
use Rattle.std.proofs.Common.{◌≡◌, ℕ, zero, suc, ◌+◌, ◌<◌, Bool, true, false, cond, not, eqb, List, [], ◌∷◌, length, take, drop, get_or, filter, refl, ap, sym, ◌∙◌, arith, option_map}
use Rattle.std.proofs.lemmas.List.{get_or-take, nil_from_length}
use Rattle.std.specs.List.{onto_first, position_or_len, prefix_len, slice_split}
use Rattle.text_lines.specs.Lines.{Text, four_words, is_blank, is_comment, is_word, three_words, words_in}

words_in_skip_step : (x : ℕ) (xs : Text) (b : Bool) (n : ℕ) → words_in (drop n xs) ≡ words_in xs
    → is_blank x ≡ b
    → words_in (drop (cond b (1 + n) 0) (x ∷ xs)) ≡ filter is_word (cond b ([] ∷ slice_split is_blank xs) (onto_first x (slice_split is_blank xs)))
words_in_skip_step x xs true n before e =
    let one : 1 + n ≡ suc n = omega arith in
    ap (λ k. words_in (drop k (x ∷ xs))) one ∙ before
words_in_skip_step x xs false n before e = ap (λ b. filter is_word (cond b ([] ∷ slice_split is_blank xs) (onto_first x (slice_split is_blank xs)))) e

-- blanks in front change no word
pub words_in_skip : (xs : Text) → words_in (drop (prefix_len is_blank xs) xs) ≡ words_in xs
words_in_skip [] = refl
words_in_skip (x ∷ xs) = words_in_skip_step x xs (is_blank x) (prefix_len is_blank xs) (words_in_skip xs) refl

-- the first run of a text, and the runs behind it
record Run (xs : Text) (runs : List Text) (n : ℕ) : Type 0 where
  parts : List Text
  first : runs ≡ take n xs ∷ parts
  later : filter is_word parts ≡ words_in (drop n xs)

run_step : (x : ℕ) (xs : Text) (b : Bool) (n : ℕ) → is_blank x ≡ b → Run xs (slice_split is_blank xs) n
    → Run (x ∷ xs) (cond b ([] ∷ slice_split is_blank xs) (onto_first x (slice_split is_blank xs))) (cond (not b) (1 + n) 0)
run_step x xs true n e before = record {
  parts = slice_split is_blank xs;
  first = refl;
  later = sym (ap (λ b. filter is_word (cond b ([] ∷ slice_split is_blank xs) (onto_first x (slice_split is_blank xs)))) e);
}
run_step x xs false n e before =
    let one : suc n ≡ 1 + n = omega arith in
    record {
      parts = before.parts;
      first = ap (onto_first x) before.first ∙ ap (λ k. take k (x ∷ xs) ∷ before.parts) one;
      later = before.later ∙ ap (λ k. words_in (drop k (x ∷ xs))) one;
    }

run_of : (xs : Text) → Run xs (slice_split is_blank xs) (position_or_len is_blank xs)
run_of [] = record { parts = []; first = refl; later = refl }
run_of (x ∷ xs) = run_step x xs (is_blank x) (position_or_len is_blank xs) refl (run_of xs)

kept_word : (word : Text) (words : List Text) → 0 < length word → filter is_word (word ∷ words) ≡ word ∷ filter is_word words
kept_word [] words h = absurd (omega arith)
kept_word (x ∷ xs) words h = refl

length_front : (n : ℕ) (xs : Text) → 0 < n → 0 < length xs → 0 < length (take n xs)
length_front zero xs p h = absurd (omega arith)
length_front (suc n) [] p h = absurd (omega arith)
length_front (suc n) (x ∷ xs) p h = omega arith

-- a word at the head
pub words_in_next : (xs : Text) → 0 < position_or_len is_blank xs → 0 < length xs
    → words_in xs ≡ take (position_or_len is_blank xs) xs ∷ words_in (drop (position_or_len is_blank xs) xs)
words_in_next xs p h =
    let n : ℕ = position_or_len is_blank xs in
    let run = run_of xs in
    ap (filter is_word) run.first ∙ kept_word (take n xs) run.parts (length_front n xs p h) ∙ ap (λ ws. take n xs ∷ ws) run.later

-- what stands behind the blanks in front begins with no blank
behind_step : (x : ℕ) (xs : Text) (b : Bool) (n : ℕ) → is_blank x ≡ b
    → (0 < length (drop n xs) → 0 < position_or_len is_blank (drop n xs))
    → 0 < length (drop (cond b (1 + n) 0) (x ∷ xs)) → 0 < position_or_len is_blank (drop (cond b (1 + n) 0) (x ∷ xs))
behind_step x xs true n e before =
    let one : 1 + n ≡ suc n = omega arith in
    rw one before
behind_step x xs false n e before = λ h. rw e (omega arith)

pub behind_blanks : (xs : Text) → 0 < length (drop (prefix_len is_blank xs) xs) → 0 < position_or_len is_blank (drop (prefix_len is_blank xs) xs)
behind_blanks [] h = absurd (omega arith)
behind_blanks (x ∷ xs) h = behind_step x xs (is_blank x) (prefix_len is_blank xs) refl (behind_blanks xs) h

-- no bytes stand behind the blanks in front
pub no_words : (xs start : Text) → start ≡ drop (prefix_len is_blank xs) xs → length start ≡ 0 → words_in xs ≡ []
no_words xs start e h = sym (words_in_skip xs) ∙ ap words_in (sym e ∙ nil_from_length start h)

-- a word stands behind the blanks in front
pub word_behind : (xs start : Text) → start ≡ drop (prefix_len is_blank xs) xs → 0 < length start
    → words_in xs ≡ take (position_or_len is_blank start) start ∷ words_in (drop (position_or_len is_blank start) start)
word_behind xs start e h =
    let begins : 0 < position_or_len is_blank start = rw e (behind_blanks xs (rw (← e) h)) in
    sym (words_in_skip xs) ∙ ap words_in (sym e) ∙ words_in_next start begins h

-- a line without bytes behind the blanks in front is skipped
pub skipped_empty : (mark : ℕ) (body start : Text) → start ≡ drop (prefix_len is_blank body) body → length start ≡ 0 → true ≡ is_comment mark (words_in body)
skipped_empty mark body start e h = sym (ap (is_comment mark) (no_words body start e h))

first_byte : (n : ℕ) (start : Text) → 0 < n → get_or (take n start) 0 0 ≡ get_or start 0 0
first_byte n start h = get_or-take n start 0 0 h

-- and so is one that goes on with the mark
pub skipped_at : (mark : ℕ) (body start : Text) → start ≡ drop (prefix_len is_blank body) body → 0 < length start
    → eqb (get_or start 0 0) mark ≡ is_comment mark (words_in body)
skipped_at mark body start e h =
    let begins : 0 < position_or_len is_blank start = rw e (behind_blanks body (rw (← e) h)) in
    sym (ap (is_comment mark) (word_behind body start e h) ∙ ap (λ byte. eqb byte mark) (first_byte (position_or_len is_blank start) start begins))

-- a word and what stands behind it
pub word_found : (xs start word rest : Text) (n : ℕ) → start ≡ drop (prefix_len is_blank xs) xs → 0 < length start
    → n ≡ position_or_len is_blank start → word ≡ take n start → rest ≡ drop n start → words_in xs ≡ word ∷ words_in rest
word_found xs start word rest n e h place front back =
    let found : words_in xs ≡ take (position_or_len is_blank start) start ∷ words_in (drop (position_or_len is_blank start) start) = word_behind xs start e h in
    cc

-- a word before three is the first of four
pub four_from_three : (word : Text) (words : List Text) → four_words (word ∷ words) ≡ option_map (λ w. (word, w.0, w.1, w.2)) (three_words words)
four_from_three word [] = refl
four_from_three word (a ∷ []) = refl
four_from_three word (a ∷ b ∷ []) = refl
four_from_three word (a ∷ b ∷ c ∷ []) = refl
four_from_three word (a ∷ b ∷ c ∷ d ∷ words) = refl
