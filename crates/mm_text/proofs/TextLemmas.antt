-- The entries of lines, one after the other.
use Rattle.std.proofs.Common.{◌≡◌, ℕ, suc, ◌+◌, ◌-◌, ◌<◌, Bool, false, cond, ltb, List, [], ◌∷◌, ◌++◌, length, take, drop, Ok, Err, refl, ap, sym, ◌∙◌, arith, append_assoc}
use Rattle.std.proofs.lemmas.List.{append-nil}
use Rattle.std.proofs.lemmas.Bool.Decides.{nat_tests}
use Rattle.mm_text.specs.declared.reading.banner.Banner.{Banner}
use Rattle.mm_text.specs.declared.fault.MmFault.{MmFault}
use Rattle.mm_text.specs.declared.fault.MmFault.TheVariants.{TooFew}
use Rattle.mm_text.specs.declared.file_data.Line.{Line}
use Rattle.mm_text.specs.declared.reading.sizes.Sizes.{Sizes}
use Rattle.mm_text.specs.Entries.{entries_of, entry_of}
use Rattle.mm_text.specs.Lines.{Text, words_of}
use Rattle.mm_text.specs.Outcomes.{Outcome, ◌>>=◌, at_end}
use Rattle.mm_text.specs.Reading.{complete, no_more}

-- the entries, where `at` of them are found and these lines are left
abbrev pub entries_left : Bool → Banner → Sizes → ℕ → List Line → List (ℕ × Text) → Outcome (List Line)
entries_left whole banner s at found lines =
    entries_of banner s at (take (s.count - at) lines) >>= λ more. complete whole s.count (found ++ more) (drop (s.count - at) lines)

push_front : (whole : Bool) (count : ℕ) (found : List Line) (entry : Line) (rest : List (ℕ × Text)) (r : Outcome (List Line))
    → ((r >>= λ es. Ok (entry ∷ es)) >>= λ more. complete whole count (found ++ more) rest)
    ≡ (r >>= λ more. complete whole count ((found ++ entry ∷ []) ++ more) rest)
push_front whole count found entry rest (Ok es) = ap (λ es'. complete whole count es' rest) (sym (append_assoc found (entry ∷ []) es))
push_front whole count found entry rest (Err fault) = refl

-- one entry more
pub entries_left_more : (whole : Bool) (banner : Banner) (s : Sizes) (at : ℕ) (found : List Line) (line : ℕ × Text) (rest : List (ℕ × Text)) (entry : Line)
    → at < s.count → entry_of banner s line.0 at (words_of line.1) ≡ Ok entry
    → entries_left whole banner s at found (line ∷ rest) ≡ entries_left whole banner s (at + 1) (found ++ entry ∷ []) rest
entries_left_more whole banner s at found line rest entry h is =
    let m : ℕ = s.count - (at + 1) in
    let n : s.count - at ≡ suc m = omega arith in
    ap (λ k. entries_of banner s at (take k (line ∷ rest)) >>= λ more. complete whole s.count (found ++ more) (drop k (line ∷ rest))) n
    ∙ ap (λ e. (e >>= λ entry'. entries_of banner s (at + 1) (take m rest) >>= λ es. Ok (entry' ∷ es)) >>= λ more. complete whole s.count (found ++ more) (drop m rest)) is
    ∙ push_front whole s.count found entry (drop m rest) (entries_of banner s (at + 1) (take m rest))

-- a line that is no entry
pub entries_left_bad : (whole : Bool) (banner : Banner) (s : Sizes) (at : ℕ) (found : List Line) (line : ℕ × Text) (rest : List (ℕ × Text)) (fault : MmFault)
    → at < s.count → entry_of banner s line.0 at (words_of line.1) ≡ Err fault
    → entries_left whole banner s at found (line ∷ rest) ≡ Err fault
entries_left_bad whole banner s at found line rest fault h is =
    let m : ℕ = s.count - (at + 1) in
    let n : s.count - at ≡ suc m = omega arith in
    ap (λ k. entries_of banner s at (take k (line ∷ rest)) >>= λ more. complete whole s.count (found ++ more) (drop k (line ∷ rest))) n
    ∙ ap (λ e. (e >>= λ entry'. entries_of banner s (at + 1) (take m rest) >>= λ es. Ok (entry' ∷ es)) >>= λ more. complete whole s.count (found ++ more) (drop m rest)) is

-- no entry is left
pub entries_left_end : (whole : Bool) (banner : Banner) (s : Sizes) (at : ℕ) (found : List Line) (lines : List (ℕ × Text)) → at ≡ s.count → length found ≡ at
    → entries_left whole banner s at found lines ≡ no_more whole found lines
entries_left_end whole banner s at found lines e is =
    let n : s.count - at ≡ 0 = omega arith in
    let none : ltb (length found) s.count ≡ false = grind (arith, nat_tests) in
    ap (λ k. entries_of banner s at (take k lines) >>= λ more. complete whole s.count (found ++ more) (drop k lines)) n
    ∙ ap (λ es. complete whole s.count es lines) (append-nil found)
    ∙ ap (λ b. cond b (at_end whole (Err (TooFew (length found)))) (no_more whole found lines)) none
