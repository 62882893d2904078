-- The number of a seed.
use Rattle.std.proofs.Common.{◌≡◌, ◌<◌, ◌^◌, ◌&&◌, ℕ, Bool, true, false, cond, List, length, nat_lt, nat_le, Some, None, Err, refl, arith}
use Rattle.std.specs.Str.{all_ascii_digits}
use Rattle.std.specs.Str.Parse.{ParsesUnsigned, digits_value}
use Rattle.std.proofs.lemmas.Bool.Decides.{nat_tests}
use Rattle.std.proofs.lemmas.Str.Parse.{IsNumeralModel, numerals_by_value, parse_digits, tells_all_ascii_digits}
use Rattle.run_words.specs.Given.{seed_number}

own : IsNumeralModel (λ ds. all_ascii_digits ds ≡ true) (digits_value 10)
own = numerals_by_value (λ ds. all_ascii_digits ds ≡ true) tells_all_ascii_digits

-- digits that the parser refuses are no seed
pub no_seed : {E : Type 0} (text : List ℕ) (e : E) → ParsesUnsigned 64 10 text (Err e) → all_ascii_digits text ≡ true → None ≡ seed_number text
no_seed text e h digits =
    let refused : (0 < length text) × (digits_value 10 text < 2 ^ 64) → ⊥ = parse_digits own 64 text (Err e) h digits in
    by (all_ascii_digits text) (nat_lt 0 (length text)) (nat_le (length text) 20) (nat_lt (digits_value 10 text) (2 ^ 64)) (λ some low. refused (grind (arith, nat_tests), grind (arith, nat_tests)))
  where
    by : (a b c d : Bool) → (b ≡ true → d ≡ true → ⊥) → None ≡ cond (a && (b && (c && d))) (Some (digits_value 10 text)) None
    by false b c d no_both = refl
    by true false c d no_both = refl
    by true true false d no_both = refl
    by true true true false no_both = refl
    by true true true true no_both = absurd (no_both refl refl)
