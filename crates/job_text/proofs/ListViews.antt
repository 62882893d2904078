-- Lists of lists as contracts see them.
use Rattle.std.proofs.Common.{◌≡◌, ◌+◌, ◌<◌, ◌≤◌, ◌^◌, ℕ, zero, suc, List, [], ◌∷◌, ◌++◌, map, length, drop, get_or, Vec, Global, refl, ap, sym, ◌∙◌, arith, add-one, drop-cons, length-append}
use Rattle.std.proofs.lemmas.List.{map-append}
use Rattle.std.proofs.lemmas.List.Elements.{All-from_recursion}
use Rattle.std.specs.List.{All, AllByRecursion, concat}

abbrev pub Lists : Type 0
Lists = List (Vec ℕ Global)

pub items_push : (xs : Lists) (y : Vec ℕ Global) → map (λ l. l.items) (xs ++ y ∷ []) ≡ map (λ l. l.items) xs ++ y.items ∷ []
items_push xs y = map-append (λ l. l.items) xs (y ∷ [])

pub rest_count : (ls : Lists) (i : ℕ) (x : Vec ℕ Global) → i < length ls → x ≡ get_or ls i x → length (concat (map (λ l. l.items) (drop i ls))) ≡ length x.items + length (concat (map (λ l. l.items) (drop (i + 1) ls)))
rest_count ls i x h e =
    let step : drop i ls ≡ x ∷ drop (i + 1) ls = rw (add-one, drop-cons ls i x) (ap (λ y. y ∷ drop (suc i) ls) (sym e)) in
    ap (λ r. length (concat (map (λ l. l.items) r))) step ∙ length-append x.items (concat (map (λ l. l.items) (drop (i + 1) ls)))

few_by : (ls : Lists) (n : ℕ) → length (concat (map (λ l. l.items) ls)) ≤ n → n < 2 ^ 32 → AllByRecursion (λ l. length l.items < 2 ^ 32) ls
few_by [] n h b = tt
few_by (l ∷ ls) n h b =
    let parts = length-append l.items (concat (map (λ x. x.items) ls)) in
    (omega (arith, parts), few_by ls n (omega (arith, parts)) b)

pub few_lists : (ls : Lists) → length (concat (map (λ l. l.items) ls)) ≤ 16777216 → All (λ l. length l.items < 2 ^ 32) ls
few_lists ls h = All-from_recursion (λ l. length l.items < 2 ^ 32) ls (few_by ls 16777216 h (omega arith))

pub one_each : (ls : Lists) → length (map (λ l. l.items) ls) ≡ length ls
one_each [] = refl
one_each (l ∷ ls) = omega (arith, one_each ls)
