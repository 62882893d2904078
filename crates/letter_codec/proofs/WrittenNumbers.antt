-- Numbers that were written one behind the other.
use Rattle.std.proofs.Common.{◌≡◌, ℕ, zero, suc, ◌+◌, ◌*◌, ◌<◌, List, [], ◌∷◌, ◌++◌, length, get_or, take, drop, refl, sym, ap, ◌∙◌, arith, length-append}
use Rattle.std.proofs.lemmas.List.{drop-drop, drop_at, take_at}
use Rattle.scalar_laws.specs.Conversions.{Conversions, AreConversions}
use Rattle.letter_codec.specs.Letters.{number_bytes}
use Rattle.letter_codec.specs.Parts.{number_at}

pub length-number_bytes : {S : Type 0} (F : Conversions S) → AreConversions F → (numbers : List S) → length (number_bytes F numbers) ≡ 32 * length numbers
length-number_bytes F laws [] = refl
length-number_bytes F laws (n ∷ ns) =
    length-append (F.to_wire n) (number_bytes F ns) ∙ step (length (F.to_wire n)) (length (number_bytes F ns)) (length ns) (laws.wire_length n) (length-number_bytes F laws ns)
  where
    step : (b a n : ℕ) → b ≡ 32 → a ≡ 32 * n → b + a ≡ 32 * suc n
    step b a n d e = omega (arith, d, e)

pub read-back : {S : Type 0} (F : Conversions S) → AreConversions F → (numbers : List S) (k : ℕ) (d : S) → k < length numbers → number_at F (number_bytes F numbers) k ≡ get_or numbers k d
read-back F laws [] k d l = absurd (omega arith)
read-back F laws (n ∷ ns) zero d l = ap F.of_wire (take_at (F.to_wire n) (number_bytes F ns) 32 (laws.wire_length n)) ∙ laws.wire_back n
read-back F laws (n ∷ ns) (suc k) d l =
    ap (λ bs. F.of_wire (take 32 bs))
    (ap (λ m. drop m (F.to_wire n ++ number_bytes F ns)) (next k) ∙ sym (drop-drop (32 * k) 32 (F.to_wire n ++ number_bytes F ns)) ∙ ap (drop (32 * k)) (drop_at (F.to_wire n) (number_bytes F ns) 32 (laws.wire_length n)))
    ∙ read-back F laws ns k d (omega arith)
  where
    next : (k : ℕ) → 32 * suc k ≡ 32 + 32 * k
    next k = omega arith
