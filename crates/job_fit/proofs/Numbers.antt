-- A test of the numbers from i up to n, one after the other.
use Rattle.std.proofs.Common.{◌≡◌, ℕ, zero, suc, ◌+◌, ◌-◌, ◌<◌, ◌≤◌, ◌⊎◌, inl, inr, Bool, true, false, ◌&&◌, cond, None, Some, refl, ap, ◌∙◌, arith}
use Rattle.std.specs.List.{list_all, find}
use Rattle.std.proofs.lemmas.Bool.{cases_lt}
use Rattle.tables.specs.Indices.{count_from}

module _ (p : ℕ → Bool) where
  more : (n i : ℕ) → i < n → n - i ≡ suc (n - (i + 1))
  more n i l = omega arith

  none : (n i : ℕ) → n ≤ i → n - i ≡ 0
  none n i l = omega arith

  -- whether all pass
  pub all-next : (n i : ℕ) → i < n → p i ≡ true → list_all p (count_from i (n - i)) ≡ list_all p (count_from (i + 1) (n - (i + 1)))
  all-next n i l e = ap (λ k. list_all p (count_from i k)) (more n i l) ∙ ap (λ b. b && list_all p (count_from (i + 1) (n - (i + 1)))) e

  pub all-fails : (n i : ℕ) → i < n → p i ≡ false → list_all p (count_from i (n - i)) ≡ false
  all-fails n i l e = ap (λ k. list_all p (count_from i k)) (more n i l) ∙ ap (λ b. b && list_all p (count_from (i + 1) (n - (i + 1)))) e

  pub all-end : (n i : ℕ) → n ≤ i → list_all p (count_from i (n - i)) ≡ true
  all-end n i l = ap (λ k. list_all p (count_from i k)) (none n i l)

  pub all-one : list_all p (count_from 0 1) ≡ p 0
  all-one = by (p 0)
    where
      by : (b : Bool) → (b && true) ≡ b
      by true = refl
      by false = refl

  -- the first one that passes
  pub find-next : (n i : ℕ) → i < n → p i ≡ false → find p (count_from i (n - i)) ≡ find p (count_from (i + 1) (n - (i + 1)))
  find-next n i l e = ap (λ k. find p (count_from i k)) (more n i l) ∙ ap (λ b. cond b (Some i) (find p (count_from (i + 1) (n - (i + 1))))) e

  pub find-here : (n i : ℕ) → i < n → p i ≡ true → find p (count_from i (n - i)) ≡ Some i
  find-here n i l e = ap (λ k. find p (count_from i k)) (more n i l) ∙ ap (λ b. cond b (Some i) (find p (count_from (i + 1) (n - (i + 1))))) e

  pub find-none : (k i : ℕ) → ((v : ℕ) → i ≤ v → v < i + k → p v ≡ false) → find p (count_from i k) ≡ None
  find-none zero i h = refl
  find-none (suc k) i h =
      ap (λ b. cond b (Some i) (find p (count_from (i + 1) k))) (h i (omega arith) (omega arith))
      ∙ find-none k (i + 1) (λ v a b. h v (omega arith) (omega arith))

-- none was found, so none passes
pub find-absent : (p : ℕ → Bool) (k i : ℕ) → find p (count_from i k) ≡ None → (v : ℕ) → i ≤ v → v < i + k → p v ≡ false
find-absent p zero i e v a b = absurd (omega arith)
find-absent p (suc k) i e v a b = by (p i) refl e (cases_lt i v) (λ found l. find-absent p k (i + 1) found v (omega arith) (omega arith))
  where
    by : (c : Bool) → p i ≡ c → cond c (Some i) (find p (count_from (i + 1) k)) ≡ None → (i < v) ⊎ (v ≤ i)
        → (find p (count_from (i + 1) k) ≡ None → i < v → p v ≡ false) → p v ≡ false
    by true is found place rest = absurd (cc)
    by false is found (inl l) rest = rest found l
    by false is found (inr l) rest = ap p (omega arith) ∙ is

-- all pass, so each one does
pub all-each : (p : ℕ → Bool) (k i : ℕ) → list_all p (count_from i k) ≡ true → (v : ℕ) → i ≤ v → v < i + k → p v ≡ true
all-each p zero i e v a b = absurd (omega arith)
all-each p (suc k) i e v a b = by (p i) refl e (cases_lt i v) (λ all l. all-each p k (i + 1) all v (omega arith) (omega arith))
  where
    by : (c : Bool) → p i ≡ c → (c && list_all p (count_from (i + 1) k)) ≡ true → (i < v) ⊎ (v ≤ i)
        → (list_all p (count_from (i + 1) k) ≡ true → i < v → p v ≡ true) → p v ≡ true
    by true is all (inl l) rest = rest all l
    by true is all (inr l) rest = ap p (omega arith) ∙ is
    by false is all place rest = absurd (cc)
