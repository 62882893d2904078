-- Words of 8 bytes, as they are written and read.
use Rattle.std.proofs.Common.{◌≡◌, ℕ, zero, suc, ◌+◌, ◌-◌, ◌*◌, ◌/◌, ◌<◌, ◌^◌, ◌&&◌, Bool, true, ltb, List, [], ◌∷◌, ◌++◌, length, get_or, take, drop, refl, sym, ap, ap₂, ◌∙◌, arith, ltb-true, length-append, take-append-drop}
use Rattle.std.specs.Int.{w64, from_le_bytes}
use Rattle.std.proofs.lemmas.Bool.{and_parts, lt-ltb}
use Rattle.std.proofs.lemmas.Nat.{from_le_bytes-to_le_bytes_8, le_bytes_8}
use Rattle.std.proofs.lemmas.List.{append-nil, append_assoc, drop-drop, drop_at, get_or-drop, length-drop, length-take-le, take_at}
use Rattle.std.proofs.Math.Seq.{drop-cons}
use Rattle.letter_codec.specs.Letters.{AreWords, bytes_of_word, word_bytes, word_of_bytes}
use Rattle.letter_codec.specs.Parts.{read_words, words_of}

pub length-word : (w : ℕ) → length (bytes_of_word w) ≡ 8
unfolding bytes_of_word
length-word w = refl

pub word-back : (w : ℕ) → w < 2 ^ 64 → word_of_bytes (bytes_of_word w) ≡ w
unfolding bytes_of_word word_of_bytes
word-back w fits = from_le_bytes-to_le_bytes_8 w fits

pub bytes-back : (bytes : List ℕ) → length bytes ≡ 8 → ((i : ℕ) → get_or bytes i 0 < 256) → bytes_of_word (word_of_bytes bytes) ≡ bytes
unfolding bytes_of_word word_of_bytes
bytes-back bytes long small = le_bytes_8 bytes (from_le_bytes w64 bytes) long small refl

sum_of_8 : (a b c d e f g h : ℕ) → a < 256 → b < 256 → c < 256 → d < 256 → e < 256 → f < 256 → g < 256 → h < 256
    → from_le_bytes w64 (a ∷ b ∷ c ∷ d ∷ e ∷ f ∷ g ∷ h ∷ []) < 18446744073709551616
sum_of_8 a b c d e f g h la lb lc ld le lf lg lh = omega arith

-- a word that was read has 64 bits
pub word-below : (bytes : List ℕ) → ((i : ℕ) → get_or bytes i 0 < 256) → word_of_bytes bytes < 18446744073709551616
unfolding word_of_bytes
word-below bytes small = sum_of_8 (get_or bytes 0 0) (get_or bytes 1 0) (get_or bytes 2 0) (get_or bytes 3 0) (get_or bytes 4 0) (get_or bytes 5 0) (get_or bytes 6 0) (get_or bytes 7 0) (small 0) (small 1) (small 2) (small 3) (small 4) (small 5) (small 6) (small 7)

-- the first word of some bytes, and what stands behind it
pub take-word : (w : ℕ) (rest : List ℕ) → take 8 (bytes_of_word w ++ rest) ≡ bytes_of_word w
take-word w rest = take_at (bytes_of_word w) rest 8 (length-word w)

pub drop-word : (w : ℕ) (rest : List ℕ) → drop 8 (bytes_of_word w ++ rest) ≡ rest
drop-word w rest = drop_at (bytes_of_word w) rest 8 (length-word w)

-- Many words

pub length-read_words : (k : ℕ) (bytes : List ℕ) → length (read_words k bytes) ≡ k
length-read_words zero bytes = refl
length-read_words (suc k) bytes = ap suc (length-read_words k (drop 8 bytes))

pub length-word_bytes : (words : List ℕ) → length (word_bytes words) ≡ 8 * length words
length-word_bytes [] = refl
length-word_bytes (w ∷ ws) = length-append (bytes_of_word w) (word_bytes ws) ∙ step (length (bytes_of_word w)) (length (word_bytes ws)) (length ws) (length-word w) (length-word_bytes ws)
  where
    step : (b a n : ℕ) → b ≡ 8 → a ≡ 8 * n → b + a ≡ 8 * suc n
    step b a n d e = omega (arith, d, e)

-- what was written is read, whatever stands behind it
pub read-written : (words rest : List ℕ) → AreWords words → read_words (length words) (word_bytes words ++ rest) ≡ words
read-written [] rest h = refl
read-written (w ∷ ws) rest h =
    let t = and_parts (ltb w 18446744073709551616) _ h in
    ap₂ (λ x xs. x ∷ xs)
    (ap word_of_bytes (ap (take 8) joined ∙ take-word w (word_bytes ws ++ rest)) ∙ word-back w (ltb-true w 18446744073709551616 t.0))
    (ap (read_words (length ws)) (ap (drop 8) joined ∙ drop-word w (word_bytes ws ++ rest)) ∙ read-written ws rest t.1)
  where
    joined : word_bytes (w ∷ ws) ++ rest ≡ bytes_of_word w ++ (word_bytes ws ++ rest)
    joined = append_assoc (bytes_of_word w) (word_bytes ws) rest

-- the word in one place
pub get_or-read_words : (k : ℕ) (bytes : List ℕ) (at : ℕ) → at < k → get_or (read_words k bytes) at 0 ≡ word_of_bytes (take 8 (drop (8 * at) bytes))
get_or-read_words zero bytes at l = absurd (omega arith)
get_or-read_words (suc k) bytes zero l = refl
get_or-read_words (suc k) bytes (suc at) l =
    get_or-read_words k (drop 8 bytes) at (omega arith) ∙ ap (λ bs. word_of_bytes (take 8 bs)) (drop-drop (8 * at) 8 bytes ∙ ap (λ n. drop n bytes) (eight at))
  where
    eight : (at : ℕ) → 8 + 8 * at ≡ 8 * suc at
    eight at = omega arith

-- Bytes

pub below_drop : (bytes : List ℕ) (n : ℕ) → ((i : ℕ) → get_or bytes i 0 < 256) → (i : ℕ) → get_or (drop n bytes) i 0 < 256
below_drop bytes n small i = let e = get_or-drop n bytes i 0 in let s = small (n + i) in omega arith

pub below_take : (n : ℕ) (bytes : List ℕ) → ((i : ℕ) → get_or bytes i 0 < 256) → (i : ℕ) → get_or (take n bytes) i 0 < 256
below_take zero bytes small i = omega arith
below_take (suc n) [] small i = omega arith
below_take (suc n) (b ∷ bs) small zero = small zero
below_take (suc n) (b ∷ bs) small (suc i) = below_take n bs (λ j. small (suc j)) i

pub words-below : (k : ℕ) (bytes : List ℕ) → ((i : ℕ) → get_or bytes i 0 < 256) → AreWords (read_words k bytes)
words-below zero bytes small = refl
words-below (suc k) bytes small =
    both (ltb (word_of_bytes (take 8 bytes)) 18446744073709551616) _ (lt-ltb _ _ (word-below (take 8 bytes) (below_take 8 bytes small))) (words-below k (drop 8 bytes) (below_drop bytes 8 small))
  where
    both : (a b : Bool) → a ≡ true → b ≡ true → (a && b) ≡ true
    both a b p q = (λ i. p i && q i)

-- the bytes of the words that were read
pub written-read : (k : ℕ) (bytes : List ℕ) → length bytes ≡ 8 * k → ((i : ℕ) → get_or bytes i 0 < 256) → word_bytes (read_words k bytes) ≡ bytes
written-read zero [] e small = refl
written-read zero (b ∷ bs) e small = absurd (omega arith)
written-read (suc k) bytes e small =
    let long : length (take 8 bytes) ≡ 8 = length-take-le 8 bytes (omega arith) in
    let rest : length (drop 8 bytes) ≡ 8 * k = length-drop 8 bytes ∙ less (length bytes) k e in
    ap₂ (λ xs ys. xs ++ ys) (bytes-back (take 8 bytes) long (below_take 8 bytes small)) (written-read k (drop 8 bytes) rest (below_drop bytes 8 small))
    ∙ take-append-drop 8 bytes
  where
    less : (n k : ℕ) → n ≡ 8 * suc k → n - 8 ≡ 8 * k
    less n k e = omega (arith, e)

-- All words of some bytes

pub length-words_of : (bytes : List ℕ) → length (words_of bytes) ≡ length bytes / 8
length-words_of bytes = length-read_words (length bytes / 8) bytes

pub get_or-words_of : (bytes : List ℕ) (at : ℕ) → at < length bytes / 8 → get_or (words_of bytes) at 0 ≡ word_of_bytes (take 8 (drop (8 * at) bytes))
get_or-words_of bytes at l = get_or-read_words (length bytes / 8) bytes at l

-- the words from one place on
pub drop-words_of : (bytes : List ℕ) (at : ℕ) → at < length bytes / 8 → drop at (words_of bytes) ≡ word_of_bytes (take 8 (drop (8 * at) bytes)) ∷ drop (at + 1) (words_of bytes)
drop-words_of bytes at l =
    let long = length-words_of bytes in
    drop-cons (words_of bytes) at 0 (omega arith) ∙ (λ i. get_or-words_of bytes at l i ∷ drop (one at i) (words_of bytes))
  where
    one : (at : ℕ) → suc at ≡ at + 1
    one at = omega arith

pub words_of-written : (words : List ℕ) → AreWords words → words_of (word_bytes words) ≡ words
words_of-written words h =
    let count : length (word_bytes words) / 8 ≡ length words = eighth (length (word_bytes words)) (length words) (length-word_bytes words) in
    ap₂ (λ k bs. read_words k bs) count (sym (append-nil (word_bytes words))) ∙ read-written words [] h
  where
    eighth : (a n : ℕ) → a ≡ 8 * n → a / 8 ≡ n
    eighth a n e = omega (arith, e)
