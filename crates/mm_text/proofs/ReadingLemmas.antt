-- Texts that are whole, and texts that are too long.
use Rattle.std.proofs.Common.{◌≡◌, ℕ, ◌<◌, ◌≤◌, true, false, length, take, leb, ap, ◌∙◌, arith}
use Rattle.std.proofs.lemmas.Bool.Decides.{nat_tests}
use Rattle.std.proofs.lemmas.List.{take_all}
use Rattle.mm_text.specs.declared.profile.Profile.{Profile}
use Rattle.mm_text.specs.Lines.{Text, lines_of}
use Rattle.mm_text.specs.Reading.{lines_read, reading}

within_limit : (k n : ℕ) → n ≤ k → leb n k ≡ true
within_limit k n h = grind (arith, nat_tests)

above_limit : (k n : ℕ) → k < n → leb n k ≡ false
above_limit k n h = grind (arith, nat_tests)

pub reading_whole : (profile : Profile) (text : Text) → length text ≤ profile.bytes
    → reading profile text ≡ lines_read true profile (lines_of true text)
unfolding reading
reading_whole profile text h =
    ap (λ w. lines_read w profile (lines_of w (take profile.bytes text))) (within_limit profile.bytes (length text) h)
    ∙ ap (λ t. lines_read true profile (lines_of true t)) (take_all profile.bytes text h)

pub reading_long : (profile : Profile) (text : Text) → profile.bytes < length text
    → reading profile text ≡ lines_read false profile (lines_of false (take profile.bytes text))
unfolding reading
reading_long profile text h =
    ap (λ w. lines_read w profile (lines_of w (take profile.bytes text))) (above_limit profile.bytes (length text) h)
