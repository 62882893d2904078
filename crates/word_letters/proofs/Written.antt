-- The bytes of words, written one behind the other.
use Rattle.std.proofs.Common.{◌≡◌, ℕ, zero, suc, ◌+◌, ◌*◌, ◌≤◌, ◌<◌, List, [], ◌∷◌, ◌++◌, refl, sym, ap, subst, ◌∙◌, arith, length, take, get_or, append_assoc, append-nil, length-append}
use Rattle.std.proofs.lemmas.Grind.{flat_map-append}
use native.Mathlib.Numerals.{unary_clauses}
use Rattle.std.proofs.lemmas.List.{take_all}
use Rattle.letter_codec.specs.declared.kind.Kind.{Kind}
use Rattle.letter_codec.specs.Letters.{bytes_of_word, head_bytes, letter_bytes, word_bytes}
use Rattle.letter_codec.specs.Writing.{StartsWith}
use Rattle.letter_codec.proofs.ReadWords.{length-word_bytes}
use Rattle.letter_codec.proofs.ReadLetters.{length-head}

pub starts-as : (xs ys out : List ℕ) → xs ≡ ys → StartsWith xs out → StartsWith ys out
starts-as xs ys out e h = let P : List ℕ → Type 0 = λ z. StartsWith z out in subst P e h

pub take-next : (xs : List ℕ) (k : ℕ) → k < length xs → take (k + 1) xs ≡ take k xs ++ get_or xs k 0 ∷ []
take-next [] k l = absurd (omega arith)
take-next (x ∷ xs) zero l = refl
take-next (x ∷ xs) (suc k) l = simp unary_clauses (ap (λ z. x ∷ z) (simp unary_clauses at (take-next xs k (omega arith))))

pub length-taken : (k : ℕ) (xs : List ℕ) → k ≤ length xs → length (take k xs) ≡ k
length-taken zero xs l = refl
length-taken (suc k) [] l = absurd (omega arith)
length-taken (suc k) (x ∷ xs) l = ap suc (length-taken k xs (omega arith))

-- one more word
pub word-next : (before words new : List ℕ) (k : ℕ) → k < length words → StartsWith ((before ++ word_bytes (take k words)) ++ bytes_of_word (get_or words k 0)) new
    → StartsWith (before ++ word_bytes (take (k + 1) words)) new
word-next before words new k l s =
    let w = get_or words k 0 in
    let done = take k words in
    starts-as _ _ new
    (append_assoc before (word_bytes done) (bytes_of_word w)
    ∙ ap (λ z. before ++ (word_bytes done ++ z)) (sym (append-nil (bytes_of_word w)))
    ∙ ap (λ z. before ++ z) (sym (flat_map-append bytes_of_word done (w ∷ [])))
    ∙ ap (λ z. before ++ word_bytes z) (sym (take-next words k l)))
    s

pub length-before : (before words : List ℕ) (k : ℕ) → length before ≡ 9 → k ≤ length words → length (before ++ word_bytes (take k words)) ≡ 9 + 8 * k
length-before before words k e l = omega (arith, length-append before (word_bytes (take k words)), length-word_bytes (take k words), length-taken k words l, e)

-- the whole letter
pub letter-whole : (kind : Kind) (words out : List ℕ) (count : ℕ) → count ≡ length words → length out ≡ 9 + 8 * length words
    → StartsWith (head_bytes kind count ++ word_bytes words) out → out ≡ letter_bytes kind words []
letter-whole kind words out count many long s =
    let size : length (head_bytes kind count ++ word_bytes words) ≡ 9 + 8 * length words =
    length-append (head_bytes kind count) (word_bytes words) ∙ (let h = length-head kind count in let w = length-word_bytes words in omega arith) in
    sym (take_all (length (head_bytes kind count ++ word_bytes words)) out (omega arith))
    ∙ s
    ∙ ap (λ n. head_bytes kind n ++ word_bytes words) many
    ∙ sym (append-nil (head_bytes kind (length words) ++ word_bytes words))
