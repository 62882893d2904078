-- Lists of numbers: which ones they have.
use Rattle.std.proofs.Common.{◌≡◌, ℕ, zero, suc, ◌<◌, ◌≤◌, ◌+◌, ◌⊎◌, inl, inr, Bool, true, false, eqb, ltb, leb, ◌||◌, ◌&&◌, List, [], ◌∷◌, ◌++◌, refl, sym, ap, ◌∙◌, arith}
use Rattle.std.proofs.lemmas.Bool.{eq-eqb, ne_eqb, cases_lt, and_left, and_from, le-leb, lt-leb, lt-ltb, le-ltb, or_from}
use Rattle.tables.specs.Indices.{stands, count_from}

pub stands-append : (g : ℕ) (xs ys : List ℕ) → stands g (xs ++ ys) ≡ (stands g xs || stands g ys)
stands-append g [] ys = refl
stands-append g (x ∷ xs) ys = go (eqb x g) (stands-append g xs ys)
  where
    go : (b : Bool) → stands g (xs ++ ys) ≡ (stands g xs || stands g ys) → (b || stands g (xs ++ ys)) ≡ ((b || stands g xs) || stands g ys)
    go true e = refl
    go false e = e

pub stands-before : (n k g : ℕ) → g < n → stands g (count_from n k) ≡ false
stands-before n zero g l = refl
stands-before n (suc k) g l = or_from (eqb n g) _ (ne_eqb n g (λ e. absurd (omega arith))) (stands-before (n + 1) k g (omega arith))

pub stands-after : (n k g : ℕ) → n + k ≤ g → stands g (count_from n k) ≡ false
stands-after n zero g l = refl
stands-after n (suc k) g l = or_from (eqb n g) _ (ne_eqb n g (λ e. absurd (omega arith))) (stands-after (n + 1) k g (omega arith))

pub stands-within : (n k g : ℕ) → n ≤ g → g < n + k → stands g (count_from n k) ≡ true
stands-within n zero g l h = absurd (omega arith)
stands-within n (suc k) g l h = go (eqb n g) refl (cases_lt n g) (stands-within (n + 1) k g)
  where
    go : (b : Bool) → eqb n g ≡ b → (n < g) ⊎ (g ≤ n) → (n + 1 ≤ g → g < (n + 1) + k → stands g (count_from (n + 1) k) ≡ true) → b || stands g (count_from (n + 1) k) ≡ true
    go true e c more = refl
    go false e (inl c) more = more (omega arith) (omega arith)
    go false e (inr c) more = let same = eq-eqb n g (omega arith) in cc

pub stands-count_from : (n k g : ℕ) → stands g (count_from n k) ≡ (leb n g && ltb g (n + k))
stands-count_from n k g = go (cases_lt g n) (cases_lt g (n + k))
  where
    go : (g < n) ⊎ (n ≤ g) → (g < n + k) ⊎ (n + k ≤ g) → stands g (count_from n k) ≡ (leb n g && ltb g (n + k))
    go (inl l) _ = stands-before n k g l ∙ sym (and_left (leb n g) _ (lt-leb n g l))
    go (inr p) (inl l) = stands-within n k g p l ∙ sym (and_from (leb n g) _ (le-leb n g p) (lt-ltb g (n + k) l))
    go (inr p) (inr q) = stands-after n k g q ∙ sym (ap (λ b. b && ltb g (n + k)) (le-leb n g p) ∙ le-ltb g (n + k) q)

-- One run of numbers after the other.
pub count_from-append : (n j k : ℕ) → count_from n (j + k) ≡ count_from n j ++ count_from (n + j) k
count_from-append n zero k = λ t. count_from (sym (none n) t) (all k t)
  where
    none : (n : ℕ) → n + 0 ≡ n
    none n = omega arith

    all : (k : ℕ) → 0 + k ≡ k
    all k = omega arith
count_from-append n (suc j) k = (λ t. count_from n (more t)) ∙ ap (λ l. n ∷ l) (count_from-append (n + 1) j k ∙ (λ t. count_from (n + 1) j ++ count_from (next t) k))
  where
    more : suc j + k ≡ suc (j + k)
    more = omega arith

    next : (n + 1) + j ≡ n + suc j
    next = omega arith
