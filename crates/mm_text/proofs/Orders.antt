-- Places that are in order one after the other are in order.
use Rattle.std.proofs.Common.{◌≡◌, ℕ, ◌+◌, ◌-◌, ◌<◌, ◌≤◌, inl, inr, ⊎_elim, List, length, get_or, suc, zero, arith, ◌∙◌, subst}
use Rattle.std.proofs.lemmas.List.{get_or_default}
use Rattle.std.proofs.lemmas.Bool.{cases_lt}
use Rattle.mm_text.specs.declared.shown.Shown.{Shown}
use Rattle.mm_text.specs.Written.{IsBefore, ArePlacesInOrder}

pub IsBefore-trans : (a b c : Shown) → IsBefore a b → IsBefore b c → IsBefore a c
IsBefore-trans a b c (inl p) (inl q) = inl (omega arith)
IsBefore-trans a b c (inl p) (inr q) = inl (omega (arith, q.0))
IsBefore-trans a b c (inr p) (inl q) = inl (omega (arith, p.0))
IsBefore-trans a b c (inr p) (inr q) = inr (p.0 ∙ q.0, omega (arith, p.1, q.1))

-- each place comes before the next
abbrev pub NeighboursInOrder : List Shown → ℕ → Type 0
NeighboursInOrder cells n = (j : ℕ) (d : Shown) → j + 1 < n → IsBefore (get_or cells j d) (get_or cells (j + 1) d)

pub NeighboursInOrder-more : (cells : List Shown) (k : ℕ) (e : Shown) → 1 ≤ k → k < length cells →
    NeighboursInOrder cells k → IsBefore (get_or cells (k - 1) e) (get_or cells k e) → NeighboursInOrder cells (k + 1)
NeighboursInOrder-more cells k e some inside ordered last j d h = ⊎_elim
    (λ before. ordered j d before)
    (λ here.
    let at : j ≡ k - 1 = omega (arith, here) in
    let next : j + 1 ≡ k = omega (arith, here) in
    let j_inside : j < length cells = omega (arith, here) in
    let k_inside : j + 1 < length cells = omega (arith, here) in
    rw (get_or_default cells j d e j_inside, get_or_default cells (j + 1) d e k_inside, at)
    (let at' : k - 1 + 1 ≡ k = omega (arith, here) in rw at' last))
    (cases_lt (j + 1) k)

IsBefore-apart : (cells : List Shown) → NeighboursInOrder cells (length cells) → (i n : ℕ) (d : Shown) →
    i + (n + 1) < length cells → IsBefore (get_or cells i d) (get_or cells (i + (n + 1)) d)
IsBefore-apart cells ordered i zero d inside = ordered i d inside
IsBefore-apart cells ordered i (suc n) d inside =
    let near : i + (n + 1) < length cells = omega arith in
    let far : i + (n + 1) + 1 < length cells = omega arith in
    let same : i + (n + 1) + 1 ≡ i + (suc n + 1) = omega arith in
    IsBefore-trans (get_or cells i d) (get_or cells (i + (n + 1)) d) (get_or cells (i + (suc n + 1)) d)
    (IsBefore-apart cells ordered i n d near)
    (subst (λ k. IsBefore (get_or cells (i + (n + 1)) d) (get_or cells k d)) same (ordered (i + (n + 1)) d far))

pub ArePlacesInOrder-from_neighbours : (cells : List Shown) → NeighboursInOrder cells (length cells) → ArePlacesInOrder cells
ArePlacesInOrder-from_neighbours cells ordered i j d before inside =
    let n : ℕ = j - (i + 1) in
    let same : i + (n + 1) ≡ j = omega arith in
    subst (λ k. IsBefore (get_or cells i d) (get_or cells k d)) same
    (IsBefore-apart cells ordered i n d (omega (arith, same)))
