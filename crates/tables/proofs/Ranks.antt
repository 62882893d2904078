-- What the ranks have, added up: dealt parts, and the rows of owners.
use Rattle.std.proofs.Common.{◌≡◌, ℕ, zero, suc, ◌<◌, ◌+◌, ◌%◌, ◌⊎◌, inl, inr, Bool, true, false, cond, eqb, List, [], ◌∷◌, Option, None, refl, sym, ◌∙◌, arith}
use Rattle.std.specs.List.{flat_map}
use Rattle.scalar_laws.specs.Semiring.{Semiring, IsSemiring}
use Rattle.tables.specs.declared.Cell.{Cell}
use Rattle.tables.specs.Sums.{Joining, IsJoining, total, total_below, if_there}
use Rattle.tables.specs.Indices.{count_from, each_rank, dealt_from, dealt}
use Rattle.tables.specs.Tables.{Table, part_at, table_of, only_rows, sum_of}
use Rattle.tables.proofs.Sums.{places-IsJoining, total-map, total-flat_map, total_below-front, total_below-one, total_below-unit, total_below-join}

module _ {S : Type 0} {M : Joining S} (L : IsJoining M) where
  pub total-count_from : (n k : ℕ) (f : ℕ → S) → total M f (count_from n k) ≡ total_below M k (λ i. f (n + i))
  total-count_from n zero f = refl
  total-count_from n (suc k) f =
      (λ t. M.join (f (first t)) (total-count_from (n + 1) k f t))
      ∙ (λ t. M.join (f (n + 0)) (total_below M k (λ i. f (next i t))))
      ∙ sym (total_below-front L k (λ i. f (n + i)))
    where
      first : n ≡ n + 0
      first = omega arith

      next : (i : ℕ) → (n + 1) + i ≡ n + suc i
      next i = omega arith

  -- The sum over what the ranks have is the sum over the ranks.
  pub total-each_rank : {A : Type 0} (P : ℕ) (f : ℕ → A) (g : A → S) → total M g (each_rank P f) ≡ total_below M P (λ p. g (f p))
  total-each_rank P f g = total-map L g f (count_from 0 P) ∙ total-count_from 0 P (λ p. g (f p)) ∙ (λ t. total_below M P (λ p. g (f (same p t))))
    where
      same : (p : ℕ) → 0 + p ≡ p
      same p = omega arith

  dealt_one : {A : Type 0} (f : A → S) (b : Bool) (x : A) (rest : List A) → total M f (cond b (x ∷ rest) rest) ≡ M.join (cond b (f x) M.unit) (total M f rest)
  dealt_one f true x rest = refl
  dealt_one f false x rest = sym (L.unit_left _)

  pub total-dealt_from : {A : Type 0} (f : A → S) (n P : ℕ) → 0 < P → (xs : List A) → total_below M P (λ r. total M f (dealt_from n P r xs)) ≡ total M f xs
  total-dealt_from f n P some [] = total_below-unit L P
  total-dealt_from f n P some (x ∷ xs) =
      (λ i. total_below M P (λ r. dealt_one f (eqb (n % P) r) x (dealt_from (n + 1) P r xs) i))
      ∙ total_below-join L P (λ r. cond (eqb (n % P) r) (f x) M.unit) (λ r. total M f (dealt_from (n + 1) P r xs))
      ∙ (λ i. M.join (total_below-one L P (n % P) (f x) (omega arith) i) (total-dealt_from f (n + 1) P some xs i))

  -- The sums over the dealt parts of a list add up to the sum over the list.
  pub total-dealt : {A : Type 0} (f : A → S) (P : ℕ) → 0 < P → (xs : List A) → total_below M P (λ r. total M f (dealt P r xs)) ≡ total M f xs
  total-dealt f P some xs = total-dealt_from f 0 P some xs

  -- Of the ranks below P one alone counts.
  pub total_below-owner : (P q : ℕ) (owns : ℕ → Bool) (a : S) → q < P → ((p : ℕ) → owns p ≡ eqb q p) → total_below M P (λ p. cond (owns p) a M.unit) ≡ a
  total_below-owner P q owns a below h = (λ t. total_below M P (λ p. cond (h p t) a M.unit)) ∙ total_below-one L P q a below

module _ {S : Type 0} {R : Semiring S} (L : IsSemiring R) where
  J : IsJoining (if_there R.plus)
  J = places-IsJoining L

  pub sum_of-each_rank : (P : ℕ) (f : ℕ → Table S) (i j : ℕ) → sum_of R (each_rank P f) i j ≡ total_below (if_there R.plus) P (λ p. f p i j)
  sum_of-each_rank P f i j = total-each_rank J P f (λ t. t i j)

  -- The matrices of the dealt cells add up to the matrix of the cells.
  pub sum_of-dealt : (P : ℕ) → 0 < P → (cells : List (Cell S)) → sum_of R (each_rank P (λ r. table_of R (dealt P r cells))) ≡ table_of R cells
  sum_of-dealt P some cells = λ t i j. (sum_of-each_rank P (λ r. table_of R (dealt P r cells)) i j ∙ total-dealt J (part_at i j) P some cells) t

  -- The same where lines are dealt, and each line stands for some cells.
  pub sum_of-dealt_lines : {A : Type 0} (P : ℕ) → 0 < P → (places : A → List (Cell S)) (lines : List A)
      → sum_of R (each_rank P (λ r. table_of R (flat_map places (dealt P r lines)))) ≡ table_of R (flat_map places lines)
  sum_of-dealt_lines P some places lines = λ t i j. at i j t
    where
      at : (i j : ℕ) → sum_of R (each_rank P (λ r. table_of R (flat_map places (dealt P r lines)))) i j ≡ table_of R (flat_map places lines) i j
      at i j =
          sum_of-each_rank P (λ r. table_of R (flat_map places (dealt P r lines))) i j
          ∙ (λ t. total_below (if_there R.plus) P (λ r. total-flat_map J (part_at i j) places (dealt P r lines) t))
          ∙ total-dealt J (λ x. total (if_there R.plus) (part_at i j) (places x)) P some lines
          ∙ sym (total-flat_map J (part_at i j) places lines)

  -- The rows of the owners add up to the matrix: each row that has a place is owned by one rank alone.
  pub sum_of-only_rows : (P : ℕ) (owns : ℕ → ℕ → Bool) (t : Table S)
      → ((i : ℕ) → ((q : ℕ) × (q < P) × ((p : ℕ) → owns p i ≡ eqb q p)) ⊎ ((j : ℕ) → t i j ≡ None))
      → sum_of R (each_rank P (λ p. only_rows (owns p) t)) ≡ t
  sum_of-only_rows P owns t h = λ s i j. (sum_of-each_rank P (λ p. only_rows (owns p) t) i j ∙ at i j (h i)) s
    where
      none : (b : Bool) → let absent : Option S = None in cond b absent None ≡ absent
      none true = refl
      none false = refl

      at : (i j : ℕ) → ((q : ℕ) × (q < P) × ((p : ℕ) → owns p i ≡ eqb q p)) ⊎ ((j : ℕ) → t i j ≡ None) → total_below (if_there R.plus) P (λ p. cond (owns p i) (t i j) None) ≡ t i j
      at i j (inl o) = total_below-owner J P o.0 (λ p. owns p i) (t i j) o.1 o.2
      at i j (inr empty) =
          (λ s. total_below (if_there R.plus) P (λ p. cond (owns p i) (empty j s) None))
          ∙ (λ s. total_below (if_there R.plus) P (λ p. none (owns p i) s))
          ∙ total_below-unit J P ∙ sym (empty j)

  -- The same by a function that gives each row its owner.
  pub sum_of-owned : (P : ℕ) (owner : ℕ → ℕ) (t : Table S) → ((i : ℕ) → (owner i < P) ⊎ ((j : ℕ) → t i j ≡ None))
      → sum_of R (each_rank P (λ p. only_rows (λ i. eqb (owner i) p) t)) ≡ t
  sum_of-owned P owner t h = sum_of-only_rows P (λ p i. eqb (owner i) p) t (λ i. at i (h i))
    where
      at : (i : ℕ) → (owner i < P) ⊎ ((j : ℕ) → t i j ≡ None) → ((q : ℕ) × (q < P) × ((p : ℕ) → eqb (owner i) p ≡ eqb q p)) ⊎ ((j : ℕ) → t i j ≡ None)
      at i (inl below) = inl (owner i, below, λ p. refl)
      at i (inr empty) = inr empty
