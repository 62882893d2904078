-- Letters that are alike.
use Rattle.std.proofs.Common.{◌≡◌, ℕ, ◌+◌, ◌*◌, ◌≤◌, List, ◌++◌, length, take, drop, refl, sym, ap, ◌∙◌, arith, length-append, take-append-drop}
use Rattle.std.proofs.lemmas.List.{drop-take, take-take, take_at}
use Rattle.outside.specs.Letters.{IsAlike, index_end}
use Rattle.letter_codec.specs.declared.kind.Kind.{Kind}
use Rattle.letter_codec.specs.Letters.{IsLetter, index_part, letter_bytes, word_of_bytes}
use Rattle.letter_codec.proofs.ReadLetters.{length-index_part, letter-count}

index-end-is : (bytes : List ℕ) → index_end bytes ≡ 9 + 8 * word_of_bytes (take 8 (drop 1 bytes))
unfolding index_end word_of_bytes
index-end-is bytes = refl

-- the first bytes decide where the index part ends
same_end : (a b : List ℕ) → take 9 a ≡ take 9 b → index_end a ≡ index_end b
same_end a b e =
    index-end-is a ∙ ap (λ bs. 9 + 8 * word_of_bytes bs) (sym (drop-take 1 8 a) ∙ ap (drop 1) e ∙ drop-take 1 8 b) ∙ sym (index-end-is b)

pub turned : (posted given : List ℕ) → IsAlike posted given → IsAlike given posted
turned posted given alike =
    let nine : 9 ≤ index_end posted = (let at = index-end-is posted in omega arith) in
    let first : take 9 given ≡ take 9 posted =
    sym (take-take 9 (index_end posted) given nine) ∙ ap (take 9) alike.same_index ∙ take-take 9 (index_end posted) posted nine in
    let end = same_end given posted first in
    record { same_length = sym alike.same_length; same_index = ap (λ n. take n posted) end ∙ sym alike.same_index ∙ ap (λ n. take n given) (sym end) }

-- a letter that is alike to one with these words
pub alike-letter : (kind : Kind) (words numbers given : List ℕ) → IsLetter kind words numbers → IsAlike (letter_bytes kind words numbers) given
    → (others : List ℕ) × (given ≡ letter_bytes kind words others) × (length others ≡ length numbers) × IsLetter kind words others
alike-letter kind words numbers given is alike =
    let end : index_end (letter_bytes kind words numbers) ≡ length (index_part kind words) =
    index-end-is (letter_bytes kind words numbers) ∙ ap (λ n. 9 + 8 * n) (letter-count kind words numbers is.few) ∙ sym (length-index_part kind words) in
    let first : take (length (index_part kind words)) given ≡ index_part kind words =
    ap (λ n. take n given) (sym end) ∙ alike.same_index ∙ ap (λ n. take n (letter_bytes kind words numbers)) end ∙ take_at (index_part kind words) numbers (length (index_part kind words)) refl in
    let others : List ℕ = drop (length (index_part kind words)) given in
    let whole : given ≡ index_part kind words ++ others = sym (take-append-drop (length (index_part kind words)) given) ∙ ap (λ h. h ++ others) first in
    let split = ap length whole ∙ length-append (index_part kind words) others in
    let total : length given ≡ length (index_part kind words) + length numbers = alike.same_length ∙ length-append (index_part kind words) numbers in
    let long : length others ≡ length numbers = omega arith in
    (others, whole, long, record { few = is.few; fit = is.fit; count = is.count; pieces = long ∙ is.pieces; form = is.form })
