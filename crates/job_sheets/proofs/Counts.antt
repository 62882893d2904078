-- How many indices lists have together, and lists by number.
use Rattle.std.proofs.Common.{◌≡◌, ℕ, zero, suc, ◌+◌, ◌<◌, ◌≤◌, Bool, true, false, nat_eq, List, [], ◌∷◌, ◌++◌, length, get_or, map, take, refl, sym, ap, ◌∙◌, length-append, arith}
use Rattle.std.specs.List.{concat}
use Rattle.std.proofs.lemmas.Bool.{eqb-true}
use Rattle.std.proofs.lemmas.List.{append-nil, take_more}
use Rattle.std.proofs.lemmas.List.Folds.{concat-append}
use Rattle.tables.specs.Indices.{count_from}

pub count-more : (ls : List (List ℕ)) (i : ℕ) (l : List ℕ) → i < length ls → l ≡ get_or ls i l → length (concat (take (i + 1) ls)) ≡ length (concat (take i ls)) + length l
count-more ls i l h is =
    ap (λ ks. length (concat ks)) (take_more ls i l h)
    ∙ ap length (concat-append (take i ls) (get_or ls i l ∷ []))
    ∙ length-append (concat (take i ls)) (concat (get_or ls i l ∷ []))
    ∙ ap (λ ks. length (concat (take i ls)) + length ks) (append-nil (get_or ls i l) ∙ sym is)

pub count-within : (ls : List (List ℕ)) (i : ℕ) → length (concat (take i ls)) ≤ length (concat ls)
count-within [] zero = omega arith
count-within [] (suc i) = omega arith
count-within (l ∷ ls) zero = omega arith
count-within (l ∷ ls) (suc i) =
    let rest = count-within ls i in
    let first = length-append l (concat (take i ls)) in
    let whole = length-append l (concat ls) in
    omega arith

pub differ : (a b : ℕ) → b < a → false ≡ nat_eq a b
differ a b l = go (nat_eq a b) refl
  where
    go : (c : Bool) → nat_eq a b ≡ c → false ≡ c
    go true e = let same = eqb-true a b e in absurd (omega arith)
    go false e = refl

each-last : {B : Type 0} (f : ℕ → B) (n k : ℕ) → map f (count_from n (suc k)) ≡ map f (count_from n k) ++ f (n + k) ∷ []
each-last f n zero = let same : n ≡ n + 0 = omega arith in ap (λ m. f m ∷ []) same
each-last f n (suc k) =
    let same : n + 1 + k ≡ n + suc k = omega arith in
    ap (λ xs. f n ∷ xs) (each-last f (n + 1) k ∙ ap (λ m. map f (count_from (n + 1) k) ++ f m ∷ []) same)

pub each-push : {B : Type 0} (f : ℕ → B) (k : ℕ) → map f (count_from 0 (k + 1)) ≡ map f (count_from 0 k) ++ f k ∷ []
each-push f k =
    let next : k + 1 ≡ suc k = omega arith in
    let same : 0 + k ≡ k = omega arith in
    ap (λ m. map f (count_from 0 m)) next ∙ each-last f 0 k ∙ ap (λ m. map f (count_from 0 k) ++ f m ∷ []) same
