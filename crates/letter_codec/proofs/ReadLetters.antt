-- The bytes of letters are read as their parts.
use Rattle.std.proofs.Common.{◌≡◌, ℕ, suc, ◌+◌, ◌-◌, ◌*◌, ◌/◌, ◌%◌, ◌<◌, ◌≤◌, ◌^◌, ◌==◌, if◌then◌else◌, List, [], ◌∷◌, ◌++◌, None, Some, length, get_or, take, drop, refl, sym, ap, ap₂, subst, ◌∙◌, arith, length-append, take-append-drop}
use Rattle.std.specs.Prelude.{Option}
use Rattle.std.proofs.lemmas.Option.{same_Some}
use Rattle.std.proofs.lemmas.List.{append_assoc, drop_at, length-drop, length-take-le, take_all}
use Rattle.letter_codec.specs.declared.kind.Kind.{Kind}
use Rattle.letter_codec.specs.declared.kind.Kind.TheVariants.{Reg, Ask, Tell, Want, Offer, Nums, Rows}
use Rattle.letter_codec.specs.Kinds.{kind_byte}
use Rattle.letter_codec.specs.Letters.{AreWords, HasForm, IsLetter, bytes_of_word, head_bytes, index_part, letter_bytes, word_bytes, word_of_bytes}
use Rattle.letter_codec.specs.Parts.{read_words, words_of}
use Rattle.letter_codec.proofs.ReadWords.{below_drop, below_take, bytes-back, length-word, length-word_bytes, length-words_of, read-written, take-word, word-back, words-below, written-read}

kind_of : ℕ → Option Kind
kind_of b =
    if b == 17 then Some Reg
    else if b == 18 then Some Ask
    else if b == 19 then Some Tell
    else if b == 20 then Some Want
    else if b == 21 then Some Offer
    else if b == 22 then Some Nums
    else if b == 23 then Some Rows
    else None

kind-back : (kind : Kind) → kind_of (kind_byte kind) ≡ Some kind
unfolding kind_of
kind-back Reg = refl
kind-back Ask = refl
kind-back Tell = refl
kind-back Want = refl
kind-back Offer = refl
kind-back Nums = refl
kind-back Rows = refl

pub same_kind : (a b : Kind) → kind_byte a ≡ kind_byte b → a ≡ b
same_kind a b e = same_Some a b (sym (kind-back a) ∙ ap kind_of e ∙ kind-back b)

-- The head

pub length-head : (kind : Kind) (count : ℕ) → length (head_bytes kind count) ≡ 9
unfolding head_bytes
length-head kind count = ap suc (length-word count)

head-kind : (kind : Kind) (count : ℕ) (rest : List ℕ) → get_or (head_bytes kind count ++ rest) 0 0 ≡ kind_byte kind
unfolding head_bytes
head-kind kind count rest = refl

head-count : (kind : Kind) (count : ℕ) (rest : List ℕ) → count < 2 ^ 64 → word_of_bytes (take 8 (drop 1 (head_bytes kind count ++ rest))) ≡ count
unfolding head_bytes
head-count kind count rest few = ap word_of_bytes (take-word count rest) ∙ word-back count few

-- the head of some bytes is read
pub head-read : (bytes : List ℕ) (kind : Kind) (count : ℕ) → 9 ≤ length bytes → ((i : ℕ) → get_or bytes i 0 < 256) → get_or bytes 0 0 ≡ kind_byte kind
    → count ≡ word_of_bytes (take 8 (drop 1 bytes)) → take 9 bytes ≡ head_bytes kind count
unfolding head_bytes
head-read [] kind count l small k e = absurd (omega arith)
head-read (b ∷ bs) kind count l small k e =
    let long : length (take 8 bs) ≡ 8 = length-take-le 8 bs (omega arith) in
    ap₂ (λ x xs. x ∷ xs) k (sym (ap bytes_of_word e ∙ bytes-back (take 8 bs) long (below_take 8 bs (λ i. small (suc i)))))

-- A letter

pub length-index_part : (kind : Kind) (words : List ℕ) → length (index_part kind words) ≡ 9 + 8 * length words
length-index_part kind words =
    length-append (head_bytes kind (length words)) (word_bytes words) ∙ (λ i. length-head kind (length words) i + length-word_bytes words i)

pub length-letter : (kind : Kind) (words numbers : List ℕ) → length (letter_bytes kind words numbers) ≡ 9 + 8 * length words + length numbers
length-letter kind words numbers = length-append (index_part kind words) numbers ∙ ap (λ n. n + length numbers) (length-index_part kind words)

behind_head : (kind : Kind) (words numbers : List ℕ) → letter_bytes kind words numbers ≡ head_bytes kind (length words) ++ (word_bytes words ++ numbers)
behind_head kind words numbers = append_assoc (head_bytes kind (length words)) (word_bytes words) numbers

pub letter-kind : (kind : Kind) (words numbers : List ℕ) → get_or (letter_bytes kind words numbers) 0 0 ≡ kind_byte kind
letter-kind kind words numbers = ap (λ bs. get_or bs 0 0) (behind_head kind words numbers) ∙ head-kind kind (length words) (word_bytes words ++ numbers)

-- the number of words stands behind the kind
pub letter-count : (kind : Kind) (words numbers : List ℕ) → length words < 2 ^ 64 → word_of_bytes (take 8 (drop 1 (letter_bytes kind words numbers))) ≡ length words
letter-count kind words numbers few =
    ap (λ bs. word_of_bytes (take 8 (drop 1 bs))) (behind_head kind words numbers) ∙ head-count kind (length words) (word_bytes words ++ numbers) few

pub letter-words : (kind : Kind) (words numbers : List ℕ) → drop 9 (letter_bytes kind words numbers) ≡ word_bytes words ++ numbers
letter-words kind words numbers =
    ap (drop 9) (behind_head kind words numbers) ∙ drop_at (head_bytes kind (length words)) (word_bytes words ++ numbers) 9 (length-head kind (length words))

-- The parts of a letter are its own.
pub same_parts : (a b : Kind) (v w m n : List ℕ) → length v < 2 ^ 64 → length w < 2 ^ 64 → AreWords v → AreWords w → letter_bytes a v m ≡ letter_bytes b w n
    → (a ≡ b) × (v ≡ w) × (m ≡ n)
same_parts a b v w m n few_v few_w fit_v fit_w e =
    let kind : kind_byte a ≡ kind_byte b = sym (letter-kind a v m) ∙ ap (λ bs. get_or bs 0 0) e ∙ letter-kind b w n in
    let count : length v ≡ length w = sym (letter-count a v m few_v) ∙ ap (λ bs. word_of_bytes (take 8 (drop 1 bs))) e ∙ letter-count b w n few_w in
    let behind : word_bytes v ++ m ≡ word_bytes w ++ n = sym (letter-words a v m) ∙ ap (drop 9) e ∙ letter-words b w n in
    let words : v ≡ w = sym (read-written v m fit_v) ∙ (λ i. read_words (count i) (behind i)) ∙ read-written w n fit_w in (
      same_kind a b kind,
      words,
      sym (drop_at (word_bytes v) m (length (word_bytes v)) refl) ∙ (λ i. drop (length (word_bytes (words i))) (behind i)) ∙ drop_at (word_bytes w) n (length (word_bytes w)) refl,
    )

pub record Parts (bytes : List ℕ) (kind : Kind) (words numbers : List ℕ) : Type 0 where
  pub few : length (words_of words) < 2 ^ 64
  pub fit : AreWords (words_of words)
  pub whole : words ≡ word_bytes (words_of words)
  pub are : bytes ≡ letter_bytes kind (words_of words) numbers

-- The words and the numbers behind a head are parts.
pub parts-read : (bytes : List ℕ) (kind : Kind) (count : ℕ) (words numbers : List ℕ) → ((i : ℕ) → get_or bytes i 0 < 256) → length bytes < 2 ^ 64 → 9 + 8 * count ≤ length bytes
    → take 9 bytes ≡ head_bytes kind count → words ≡ take (8 * count) (drop 9 bytes) → numbers ≡ drop (8 * count) (drop 9 bytes)
    → Parts bytes kind words numbers
parts-read bytes kind count words numbers small room l head w n =
    let rest = length-drop 9 bytes in
    let long : length words ≡ 8 * count = ap length w ∙ length-take-le (8 * count) (drop 9 bytes) (omega arith) in
    let number : length words / 8 ≡ count = omega arith in
    let counted : length (words_of words) ≡ count = length-words_of words ∙ number in
    let bounded : (i : ℕ) → get_or words i 0 < 256 = subst (λ (xs : List ℕ). (i : ℕ) → get_or xs i 0 < 256) (sym w) (below_take (8 * count) (drop 9 bytes) (below_drop bytes 9 small)) in
    let back : word_bytes (words_of words) ≡ words = written-read (length words / 8) words (long ∙ ap (λ k. 8 * k) (sym number)) bounded in
    record {
      few = omega arith;
      fit = words-below (length words / 8) words bounded;
      whole = sym back;
      are =
          sym (take-append-drop 9 bytes)
          ∙ (λ i. head i ++ sym (take-append-drop (8 * count) (drop 9 bytes)) i)
          ∙ (λ i. head_bytes kind count ++ (sym w i ++ sym n i))
          ∙ (λ i. head_bytes kind (sym counted i) ++ (sym back i ++ numbers))
          ∙ sym (behind_head kind (words_of words) numbers);
    }

pub all_behind : (bytes : List ℕ) → take (length bytes - 9) (drop 9 bytes) ≡ drop 9 bytes
all_behind bytes = let rest = length-drop 9 bytes in take_all (length bytes - 9) (drop 9 bytes) (omega arith)

-- The numbers of a letter have 32 bytes each, and its form is its own.
pub no-pieces : (bytes : List ℕ) (a b : Kind) (part rest words numbers : List ℕ) → Parts bytes a part rest → IsLetter b words numbers → bytes ≡ letter_bytes b words numbers
    → length rest % 32 ≡ 0
no-pieces bytes a b part rest words numbers p is e =
    let same = same_parts a b (words_of part) words rest numbers p.few is.few p.fit is.fit (sym p.are ∙ e) in
    let long : length rest ≡ length numbers = ap length same.2 in
    let pieces = is.pieces in
    omega arith

pub no-form : (bytes : List ℕ) (a b : Kind) (part rest words numbers : List ℕ) → Parts bytes a part rest → IsLetter b words numbers → bytes ≡ letter_bytes b words numbers
    → HasForm a (words_of part) (length rest / 32)
no-form bytes a b part rest words numbers p is e =
    let same = same_parts a b (words_of part) words rest numbers p.few is.few p.fit is.fit (sym p.are ∙ e) in
    let long : length rest ≡ length numbers = ap length same.2 in
    let pieces = is.pieces in
    let count : is.count ≡ length rest / 32 = omega arith in
    subst (λ (k : Kind). HasForm k (words_of part) (length rest / 32)) (sym same.0)
    (subst (λ (ws : List ℕ). HasForm b ws (length rest / 32)) (sym same.1) (subst (λ (n : ℕ). HasForm b words n) count is.form))
