-- Letters whose numbers are changed, word by word.
use Rattle.std.proofs.Common.{◌≡◌, ℕ, zero, suc, ◌+◌, ◌-◌, ◌*◌, ◌/◌, ◌<◌, ◌≤◌, Bool, true, false, cond, List, [], ◌++◌, length, take, drop, min, refl, ap, sym, ◌∙◌, append_assoc, length-drop, length-append, arith, inl, inr, subst}
use Rattle.std.specs.Prelude.{Result, Ok, Err, OnOk, is_ok}
use Rattle.std.specs.Int.{from_le_bytes, w64}
use Rattle.std.proofs.lemmas.Bool.{cases_lt}
use Rattle.std.proofs.lemmas.List.{take-take, drop-take, take_min, drop_all, append-nil, length-take, length-take-le, take-append-le, drop_min}
use Rattle.outside.specs.Letters.{IsAlike, index_end}
use Rattle.outside.specs.TwistWire.{all_moved, is_data, moved_number, moved_numbers, moved_word, twisted}

pub index_end-is : (letter : List ℕ) → index_end letter ≡ 9 + 8 * from_le_bytes w64 (take 8 (drop 1 letter))
unfolding index_end
index_end-is letter = refl

pub moved_number-is : (by : ℕ) (number : List ℕ) →
    moved_number by number ≡ moved_word by (take 16 number) ++ moved_word by (drop 16 number)
unfolding moved_number
moved_number-is by number = refl

-- the two words of the first number
pub moved_number-front : (by : ℕ) (bytes : List ℕ) →
    moved_number by (take 32 bytes) ≡ moved_word by (take 16 bytes) ++ moved_word by (take 16 (drop 16 bytes))
moved_number-front by bytes =
    moved_number-is by (take 32 bytes)
    ∙ ap (λ w. moved_word by w ++ moved_word by (drop 16 (take 32 bytes))) (take-take 16 32 bytes (omega arith))
    ∙ ap (λ w. moved_word by (take 16 bytes) ++ moved_word by w) (drop-take 16 16 bytes)

-- one number more
pub all_moved-more : (by : ℕ) (bytes : List ℕ) → 32 ≤ length bytes →
    all_moved by bytes ≡ moved_number by (take 32 bytes) ++ all_moved by (drop 32 bytes)
all_moved-more by bytes long =
    let count : length bytes / 32 ≡ suc (length (drop 32 bytes) / 32) = omega (arith, length-drop 32 bytes) in
    ap (λ n. moved_numbers by n bytes) count

-- no number is left
pub all_moved-none : (by : ℕ) (bytes : List ℕ) → length bytes < 32 → all_moved by bytes ≡ bytes
all_moved-none by bytes short =
    let count : length bytes / 32 ≡ 0 = omega arith in
    ap (λ n. moved_numbers by n bytes) count

-- what is pushed of a number, and what is left
pub pushed_number : (by : ℕ) (old front bytes rest one two : List ℕ) → 32 ≤ length rest →
    front ++ all_moved by rest ≡ old ++ all_moved by bytes →
    one ≡ front ++ moved_word by (take 16 rest) → two ≡ one ++ moved_word by (take 16 (drop 16 rest)) →
    two ++ all_moved by (drop 32 rest) ≡ old ++ all_moved by bytes
pushed_number by old front bytes rest one two long before first second =
    let after : List ℕ = all_moved by (drop 32 rest) in
    let a : List ℕ = moved_word by (take 16 rest) in
    let b : List ℕ = moved_word by (take 16 (drop 16 rest)) in
    ap (λ t. t ++ after) (second ∙ ap (λ t. t ++ b) first)
    ∙ ap (λ t. t ++ after) (append_assoc front a b)
    ∙ append_assoc front (a ++ b) after
    ∙ ap (λ t. front ++ (t ++ after)) (sym (moved_number-front by rest))
    ∙ ap (λ t. front ++ t) (sym (all_moved-more by rest long))
    ∙ before

pub twisted-data : (by : ℕ) (letter : List ℕ) → is_data letter ≡ true →
    twisted by letter ≡ take (index_end letter) letter ++ all_moved by (drop (index_end letter) letter)
unfolding twisted
twisted-data by letter kind =
    ap (λ (b : Bool). cond b (take (index_end letter) letter ++ all_moved by (drop (index_end letter) letter)) letter) kind

pub twisted-other : (by : ℕ) (letter : List ℕ) → is_data letter ≡ false → twisted by letter ≡ letter
unfolding twisted
twisted-other by letter kind =
    ap (λ (b : Bool). cond b (take (index_end letter) letter ++ all_moved by (drop (index_end letter) letter)) letter) kind

-- where the numbers begin, by the number of words
module _ (letter : List ℕ) (words : ℕ) (read : words ≡ from_le_bytes w64 (take 8 (drop 1 letter))) where
  index_end-of : index_end letter ≡ 9 + 8 * words
  index_end-of = index_end-is letter ∙ ap (λ w. 9 + 8 * w) (sym read)

  pub index_len-whole : (length letter - 9) / 8 < words → length letter ≡ min (index_end letter) (length letter)
  index_len-whole over = omega (arith, index_end-of)

  pub index_len-part : 9 ≤ length letter → words ≤ (length letter - 9) / 8 →
      9 + 8 * words ≡ min (index_end letter) (length letter)
  index_len-part long within = omega (arith, index_end-of)

-- a letter of the kind DATA, cut where its numbers begin
pub twisted-made : (by : ℕ) (letter front back : List ℕ) (n : ℕ) → is_data letter ≡ true →
    n ≡ min (index_end letter) (length letter) → front ≡ take n letter → back ≡ drop n letter →
    front ++ all_moved by back ≡ twisted by letter
twisted-made by letter front back n kind at f b =
    let front' : front ≡ take (index_end letter) letter = f ∙ ap (λ m. take m letter) at ∙ take_min (index_end letter) letter in
    let back' : back ≡ drop (index_end letter) letter = b ∙ ap (λ m. drop m letter) at ∙ drop_min (index_end letter) letter in
    ap (λ t. t ++ all_moved by back) front' ∙ ap (λ t. take (index_end letter) letter ++ all_moved by t) back'
    ∙ sym (twisted-data by letter kind)

length-moved_word : (by : ℕ) (word : List ℕ) → length (moved_word by word) ≡ 16
unfolding moved_word
length-moved_word by word = refl

length-moved_number : (by : ℕ) (number : List ℕ) → length (moved_number by number) ≡ 32
length-moved_number by number =
    ap length (moved_number-is by number)
    ∙ length-append (moved_word by (take 16 number)) (moved_word by (drop 16 number))
    ∙ ap (λ n. n + length (moved_word by (drop 16 number))) (length-moved_word by (take 16 number))
    ∙ ap (λ n. 16 + n) (length-moved_word by (drop 16 number))

length-moved_numbers : (by n : ℕ) (bytes : List ℕ) → 32 * n ≤ length bytes → length (moved_numbers by n bytes) ≡ length bytes
length-moved_numbers by zero bytes fits = refl
length-moved_numbers by (suc n) bytes fits =
    let rest = length-moved_numbers by n (drop 32 bytes) (omega (arith, length-drop 32 bytes)) in
    let one = length-moved_number by (take 32 bytes) in
    let both = length-append (moved_number by (take 32 bytes)) (moved_numbers by n (drop 32 bytes)) in
    omega (arith, rest, one, both, length-drop 32 bytes)

length-all_moved : (by : ℕ) (bytes : List ℕ) → length (all_moved by bytes) ≡ length bytes
length-all_moved by bytes = length-moved_numbers by (length bytes / 32) bytes (omega arith)

take-front : (n : ℕ) (xs ys : List ℕ) → (length xs < n → ys ≡ []) → take n (take n xs ++ ys) ≡ take n xs
take-front n xs ys short = elim (cases_lt (length xs) n) [
  | inl over ↦ ap (λ t. take n (take n xs ++ t)) (short over) ∙ ap (take n) (append-nil (take n xs)) ∙ take-take n n xs (omega arith)
  | inr within ↦
      let size : length (take n xs) ≡ n = length-take-le n xs (omega arith) in
      take-append-le n (take n xs) ys (omega arith) ∙ take-take n n xs (omega arith)
]

-- a letter and what is given for it are alike
alike-data : (by : ℕ) (letter given : List ℕ) →
    given ≡ take (index_end letter) letter ++ all_moved by (drop (index_end letter) letter) → IsAlike letter given
alike-data by letter given e =
    let n : ℕ = index_end letter in
    let moved = length-all_moved by (drop n letter) in
    let both = length-append (take n letter) (all_moved by (drop n letter)) in
    record {
      same_length = ap length e ∙ omega (arith, both, moved, length-drop n letter, length-take n letter);
      same_index = ap (take n) e ∙ take-front n letter (all_moved by (drop n letter))
          (λ over. ap (all_moved by) (drop_all n letter (omega arith)));
    }

alike-by : (by : ℕ) (letter : List ℕ) (kind : Bool) → is_data letter ≡ kind → IsAlike letter (twisted by letter)
alike-by by letter true e = alike-data by letter (twisted by letter) (twisted-data by letter e)
alike-by by letter false e =
    let same = twisted-other by letter e in
    record { same_length = ap length same; same_index = ap (take (index_end letter)) same }

pub alike : (by : ℕ) (letter given : List ℕ) → given ≡ twisted by letter → IsAlike letter given
alike by letter given e = subst (IsAlike letter) (sym e) (alike-by by letter (is_data letter) refl)

-- what is there after an Ok
pub there_if : {E : Type 0} (r : Result (Unit {0}) E) (new all old other : List ℕ) → new ≡ cond (is_ok r) all old → all ≡ other →
    OnOk r (new ≡ other)
there_if (Ok x) new all old other e same = e ∙ same
there_if (Err x) new all old other e same = tt
