-- The letters of a phase, from the first on.
use Rattle.std.proofs.Common.{◌≡◌, ℕ, ◌+◌, ◌<◌, true, false, cond, List, [], ◌∷◌, ◌++◌, length, ap, ◌∙◌, arith}
use Rattle.std.specs.List.{list_all}
use Rattle.std.proofs.lemmas.Bool.{and_parts, eqb-true}
use Rattle.std.proofs.lemmas.Bool.Decides.{nat_tests}
use Rattle.model_defs.specs.declared.sheets.LetterLine.{LetterLine}
use Rattle.run_output.specs.Listings.{is_of_phase, leading}

-- letters of a phase before letters of which the first is of another
pub leading-append : (n : ℕ) (ls rest : List LetterLine) → list_all (is_of_phase n) ls ≡ true → leading n rest ≡ 0 → leading n (ls ++ rest) ≡ length ls
leading-append n [] rest all none = none
leading-append n (l ∷ ls) rest all none =
    let both = and_parts (is_of_phase n l) (list_all (is_of_phase n) ls) all in
    ap (λ b. cond b (1 + leading n (ls ++ rest)) 0) both.0 ∙ ap (λ k. 1 + k) (leading-append n ls rest both.1 none) ∙ omega arith

-- letters of another phase
pub leading-other : (n m : ℕ) (ls rest : List LetterLine) → n < m → list_all (is_of_phase m) ls ≡ true → leading n rest ≡ 0 → leading n (ls ++ rest) ≡ 0
leading-other n m [] rest lt all none = none
leading-other n m (l ∷ ls) rest lt all none =
    let both = and_parts (is_of_phase m l) (list_all (is_of_phase m) ls) all in
    let at = eqb-true l.name.phase m both.0 in
    let other : is_of_phase n l ≡ false = grind (arith, nat_tests) in
    ap (λ b. cond b (1 + leading n (ls ++ rest)) 0) other
