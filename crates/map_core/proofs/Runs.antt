-- Runs of consecutive numbers.
use Rattle.std.proofs.Common.{◌≡◌, ℕ, zero, suc, List, ◌+◌, ◌<◌, ◌≤◌, true, false, ◌||◌, ◌==◌, ◌∷◌, ◌++◌, nat_eq, inl, inr, refl, ap, ◌∙◌, arith, [], cond, sym}
use Rattle.std.specs.List.{list_any, range_with_len}
use Rattle.std.proofs.lemmas.Bool.{cases_eq, eq-eqb, eqb-true, or_cases, or_from, or_left, or_right}
use Rattle.std.proofs.lemmas.Bool.Decides.{nat_tests}
use Rattle.indexmap.specs.IndexSet.{insert_key}
use Rattle.map_core.specs.Layouts.{stands, AreDistinct}
use Rattle.map_core.proofs.Members.{stands-list_any}

pub stands_in_run : (g a n : ℕ) → a ≤ g → g < a + n → stands g (range_with_len a n) ≡ true
stands_in_run g a zero low high = absurd (omega arith)
stands_in_run g a (suc n) low high = elim (cases_eq a g) [
  | inl same ↦ or_left (a == g) (stands g (range_with_len (a + 1) n)) (eq-eqb a g same)
  | inr other ↦ or_right (a == g) (stands g (range_with_len (a + 1) n)) (stands_in_run g (a + 1) n (omega arith) (omega arith))
]

-- what stands in a run is within it
pub within_run : (g a n : ℕ) → stands g (range_with_len a n) ≡ true → (a ≤ g) × (g < a + n)
within_run g a zero at = absurd (cc)
within_run g a (suc n) at = elim (or_cases (a == g) (stands g (range_with_len (a + 1) n)) at) [
  | inl here ↦ let same : a ≡ g = eqb-true a g here in (omega arith, omega arith)
  | inr there ↦ let rest = within_run g (a + 1) n there in (omega arith, omega arith)
]

-- what is before a run does not stand in it
pub before_run : (g a n : ℕ) → g < a → stands g (range_with_len a n) ≡ false
before_run g a zero h = refl
before_run g a (suc n) h =
    let apart : (a == g) ≡ false = grind (arith, nat_tests) in
    ap (λ b. b || stands g (range_with_len (a + 1) n)) apart ∙ before_run g (a + 1) n (omega arith)

pub AreDistinct-run : (a n : ℕ) → AreDistinct (range_with_len a n)
AreDistinct-run a zero = tt
AreDistinct-run a (suc n) = (before_run a (a + 1) n (omega arith), AreDistinct-run (a + 1) n)

pub run-append : (a m n : ℕ) → range_with_len a m ++ range_with_len (a + m) n ≡ range_with_len a (m + n)
run-append a zero n = (λ t. range_with_len (start t) (count t))
  where
    start : a + zero ≡ a
    start = omega arith

    count : n ≡ zero + n
    count = omega arith
run-append a (suc m) n =
    ap (λ x. range_with_len a (suc m) ++ range_with_len x n) start
    ∙ ap (λ xs. a ∷ xs) (run-append (a + 1) m n)
    ∙ ap (λ k. range_with_len a k) count
  where
    start : a + suc m ≡ a + 1 + m
    start = omega arith

    count : suc (m + n) ≡ suc m + n
    count = omega arith

-- what is past a run does not stand in it
pub past_run : (g a n : ℕ) → a + n ≤ g → stands g (range_with_len a n) ≡ false
past_run g a zero h = refl
past_run g a (suc n) h = or_from (a == g) (stands g (range_with_len (a + 1) n)) (grind (arith, nat_tests)) (past_run g (a + 1) n (omega arith))

-- a run and the number that follows it
pub run-push : (a n : ℕ) → range_with_len a (n + 1) ≡ range_with_len a n ++ (a + n) ∷ []
run-push a n = sym (run-append a n 1)

-- a run of keys into which the number that follows it is inserted
pub insert_key-run : (a n : ℕ) (keys : List ℕ) → keys ≡ range_with_len a n → insert_key nat_eq keys (a + n) ≡ range_with_len a (n + 1)
insert_key-run a n keys kept =
    let fresh : list_any (nat_eq (a + n)) keys ≡ false = stands-list_any (a + n) keys ∙ ap (stands (a + n)) kept ∙ past_run (a + n) a n (omega arith) in
    ap (λ b. cond b keys (keys ++ (a + n) ∷ [])) fresh ∙ ap (λ ks. ks ++ (a + n) ∷ []) kept ∙ sym (run-push a n)
