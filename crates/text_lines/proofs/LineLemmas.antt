-- The first line of bytes.
use Rattle.std.proofs.Common.{◌≡◌, ℕ, suc, ◌+◌, ◌-◌, ◌<◌, ◌≤◌, Bool, true, false, cond, not, List, [], ◌∷◌, length, take, drop, refl, ap, sym, ◌∙◌, arith, length-drop, ◌⊎◌, inl, inr}
use Rattle.std.proofs.lemmas.List.{drop-drop, nil_from_length, take_all, take_rest}
use Rattle.std.specs.List.{position_or_len}
use Rattle.text_lines.specs.Lines.{is_newline, lines_of, onto_line}

-- the bytes of a last line without a newline
abbrev pub last_line : Bool → List ℕ → List (List ℕ)
last_line whole [] = []
last_line true (x ∷ xs) = (x ∷ xs) ∷ []
last_line false (x ∷ xs) = []

abbrev LinesAt : Bool → List ℕ → Type 0
LinesAt whole xs = lines_of whole xs ≡ take (position_or_len is_newline xs) xs ∷ lines_of whole (drop (position_or_len is_newline xs + 1) xs)

lines_of_at_step : (whole : Bool) (x : ℕ) (xs : List ℕ) (b : Bool) (n : ℕ)
    → (n < length xs → lines_of whole xs ≡ take n xs ∷ lines_of whole (drop (n + 1) xs))
    → cond (not b) (1 + n) 0 < length (x ∷ xs)
    → cond b ([] ∷ lines_of whole xs) (onto_line whole x (lines_of whole xs))
    ≡ take (cond (not b) (1 + n) 0) (x ∷ xs) ∷ lines_of whole (drop (cond (not b) (1 + n) 0 + 1) (x ∷ xs))
lines_of_at_step whole x xs true n before h = refl
lines_of_at_step whole x xs false n before h =
    let one : 1 + n ≡ suc n = omega arith in
    let two : 1 + n + 1 ≡ suc (n + 1) = omega arith in
    ap (onto_line whole x) (before (omega arith))
    ∙ ap (λ k. take k (x ∷ xs) ∷ lines_of whole (drop (n + 1) xs)) (sym one)
    ∙ ap (λ k. take (1 + n) (x ∷ xs) ∷ lines_of whole (drop k (x ∷ xs))) (sym two)

-- a line that ends at a newline
pub lines_of_at : (whole : Bool) (xs : List ℕ) → position_or_len is_newline xs < length xs → LinesAt whole xs
lines_of_at whole [] h = absurd (omega arith)
lines_of_at whole (x ∷ xs) h = lines_of_at_step whole x xs (is_newline x) (position_or_len is_newline xs) (lines_of_at whole xs) h

onto_last_line : (whole : Bool) (x : ℕ) (xs : List ℕ) → onto_line whole x (last_line whole xs) ≡ last_line whole (x ∷ xs)
onto_last_line true x [] = refl
onto_last_line false x [] = refl
onto_last_line true x (y ∷ ys) = refl
onto_last_line false x (y ∷ ys) = refl

lines_of_last_step : (whole : Bool) (x : ℕ) (xs : List ℕ) (b : Bool) (n : ℕ) → (length xs ≤ n → lines_of whole xs ≡ last_line whole xs)
    → length (x ∷ xs) ≤ cond (not b) (1 + n) 0
    → cond b ([] ∷ lines_of whole xs) (onto_line whole x (lines_of whole xs)) ≡ last_line whole (x ∷ xs)
lines_of_last_step whole x xs true n before h = absurd (omega arith)
lines_of_last_step whole x xs false n before h = ap (onto_line whole x) (before (omega arith)) ∙ onto_last_line whole x xs

-- bytes without a newline
pub lines_of_last : (whole : Bool) (xs : List ℕ) → length xs ≤ position_or_len is_newline xs → lines_of whole xs ≡ last_line whole xs
lines_of_last whole [] h = refl
lines_of_last whole (x ∷ xs) h = lines_of_last_step whole x xs (is_newline x) (position_or_len is_newline xs) (lines_of_last whole xs) h

-- the first line ends at a newline
pub line_at : (whole : Bool) (bytes line rest : List ℕ) → line ≡ take (position_or_len is_newline bytes) bytes
    → rest ≡ drop (position_or_len is_newline bytes) bytes → 0 < length rest
    → lines_of whole bytes ≡ line ∷ lines_of whole (take (length rest - 1) (drop 1 rest))
line_at whole bytes line rest front back h =
    let n : ℕ = position_or_len is_newline bytes in
    let here : n < length bytes = omega (arith, length-drop n bytes, ap length back) in
    lines_of_at whole bytes here
    ∙ ap (λ l. l ∷ lines_of whole (drop (n + 1) bytes)) (sym front)
    ∙ ap (λ r. line ∷ lines_of whole r) (sym (drop-drop 1 n bytes) ∙ ap (drop 1) (sym back) ∙ sym (take_rest rest 1))

last_line_some : (line : List ℕ) → 0 < length line → last_line true line ≡ line ∷ []
last_line_some [] h = absurd (omega arith)
last_line_some (x ∷ xs) h = refl

-- the last line of a whole text has no newline
pub line_last : (whole : Bool) (bytes line rest : List ℕ) → whole ≡ true → line ≡ take (position_or_len is_newline bytes) bytes
    → rest ≡ drop (position_or_len is_newline bytes) bytes → length rest ≡ 0 → 0 < length line
    → lines_of whole bytes ≡ line ∷ lines_of whole rest
line_last whole bytes line rest is front back h some =
    let n : ℕ = position_or_len is_newline bytes in
    let past : length bytes ≤ n = omega (arith, length-drop n bytes, ap length back) in
    let all : line ≡ bytes = front ∙ take_all n bytes past in
    lines_of_last whole bytes past ∙ ap (last_line whole) (sym all) ∙ ap (λ w. last_line w line) is ∙ last_line_some line some
    ∙ ap (λ r. line ∷ lines_of whole r) (sym (nil_from_length rest h))

last_line_none : (whole : Bool) (line : List ℕ) → (length line ≡ 0) ⊎ (whole ≡ false) → last_line whole line ≡ []
last_line_none whole [] h = refl
last_line_none true (x ∷ xs) (inl h) = absurd (omega arith)
last_line_none true (x ∷ xs) (inr h) = absurd (cc)
last_line_none false (x ∷ xs) h = refl

-- no line is left
pub line_none : (whole : Bool) (bytes line rest : List ℕ) → line ≡ take (position_or_len is_newline bytes) bytes
    → rest ≡ drop (position_or_len is_newline bytes) bytes → length rest ≡ 0 → (length line ≡ 0) ⊎ (whole ≡ false)
    → lines_of whole bytes ≡ []
line_none whole bytes line rest front back h none =
    let n : ℕ = position_or_len is_newline bytes in
    let past : length bytes ≤ n = omega (arith, length-drop n bytes, ap length back) in
    let all : line ≡ bytes = front ∙ take_all n bytes past in
    lines_of_last whole bytes past ∙ ap (last_line whole) (sym all) ∙ last_line_none whole line none
