-- Which cells are there: of a product with a table that has all columns in its rows, and in the rows and columns of places.
use Rattle.std.proofs.Common.{◌≡◌, ℕ, zero, suc, ◌<◌, ◌≤◌, ◌+◌, ◌⊎◌, inl, inr, Bool, true, false, ◌&&◌, ◌||◌, eqb, ltb, List, [], ◌∷◌, ◌++◌, map, Option, None, Some, refl, sym, ap, ap₂, ◌∙◌, subst, arith}
use Rattle.std.specs.Prelude.{is_some}
use Rattle.std.specs.List.{list_any}
use Rattle.std.proofs.lemmas.Bool.{cases_lt, eq-eqb}
use Rattle.scalar_laws.specs.Semiring.{Semiring}
use Rattle.tables.specs.Indices.{count_from, stands}
use Rattle.tables.specs.Sums.{total_below, if_there}
use Rattle.tables.specs.Tables.{Table, all_cells, cell_if, columns_of, row_cells}
use Rattle.map_core.proofs.Members.{and_true, stands-filter}
use Rattle.model_defs.specs.Operations.{product, times_there}
use Rattle.model_defs.specs.Plans.{One, rows_of}
use Rattle.model_defs.proofs.Filters.{and, later}
use Rattle.model_defs.proofs.Formed.{either, factors-there}
use Rattle.model_defs.proofs.Structures.{both-some}
use Rattle.rank_stages.specs.DataLaws.{full_places}

-- ---- products

-- a sum is there where one of its terms is
below-any : {S : Type 0} (f : S → S → S) (n : ℕ) (g : ℕ → Option S) (c : ℕ) → c < n → is_some (g c) ≡ true → is_some (total_below (if_there f) n g) ≡ true
below-any f zero g c l e = absurd (omega (arith, l))
below-any f (suc n) g c l e = by (cases_lt c n) (λ m. below-any f n g c m e)
  where
    by : (c < n) ⊎ (n ≤ c) → (c < n → is_some (total_below (if_there f) n g) ≡ true) → is_some (total_below (if_there f) (suc n) g) ≡ true
    by (inl m) rest = both-some f (total_below (if_there f) n g) (g n) ∙ ap (λ b. b || is_some (g n)) (rest m)
    by (inr m) rest =
        let same : c ≡ n = omega (arith, l, m) in
        both-some f (total_below (if_there f) n g) (g n) ∙ later (is_some (total_below (if_there f) n g)) (is_some (g n)) (subst (λ d. is_some (g d) ≡ true) same e)

both-there : {S : Type 0} (R : Semiring S) (a b : Option S) → is_some a ≡ true → is_some b ≡ true → is_some (times_there R a b) ≡ true
both-there R None b e f = absurd (let bad : ⊥ = cc in bad)
both-there R (Some a) None e f = absurd (let bad : ⊥ = cc in bad)
both-there R (Some a) (Some b) e f = refl

-- A row of a product has the columns of the other factor, where that has them in all of its rows, and one of these meets a place.
pub product-full : {S : Type 0} (R : Semiring S) (n columns : ℕ) (a b : Table S) (has : ℕ → Bool) → ((c j : ℕ) → is_some (b c j) ≡ (has c && ltb j columns))
    → (i c : ℕ) → c < n → is_some (a i c) ≡ true → has c ≡ true → (j : ℕ) → is_some (product R n a b i j) ≡ ltb j columns
product-full R n columns a b has full i c low there h j = by (ltb j columns) refl (is_some (product R n a b i j)) refl
  where
    by : (w : Bool) → ltb j columns ≡ w → (s : Bool) → is_some (product R n a b i j) ≡ s → is_some (product R n a b i j) ≡ ltb j columns
    by true e s f =
        below-any R.plus n (λ c. times_there R (a i c) (b c j)) c low
        (both-there R (a i c) (b c j) there (full c j ∙ and (has c) (ltb j columns) h e))
        ∙ sym e
    by false e false f = f ∙ sym e
    by false e true f =
        let t = factors-there R n a b i j f in
        let u = (and_true (has t.0) (ltb j columns) (sym (full t.0 j) ∙ t.2)).1 in
        absurd (let bad : ⊥ = cc in bad)

-- ---- rows and columns of places

any-below : (f : ℕ → Bool) (n k : ℕ) → list_any f (count_from n k) ≡ true → (q : ℕ) × (q < n + k) × (f q ≡ true)
any-below f n zero e = absurd (let bad : ⊥ = cc in bad)
any-below f n (suc k) e = by (either (f n) _ e) (any-below f (n + 1) k)
  where
    by : (f n ≡ true) ⊎ (list_any f (count_from (n + 1) k) ≡ true) → (list_any f (count_from (n + 1) k) ≡ true → (q : ℕ) × (q < (n + 1) + k) × (f q ≡ true)) → (q : ℕ) × (q < n + suc k) × (f q ≡ true)
    by (inl h) rest = (n, omega arith, h)
    by (inr h) rest = let t = rest h in (t.0, omega (arith, t.1), t.2)

-- a column of places has one
pub column-place : {S : Type 0} (cols rows : ℕ) (t : Table S) (j : ℕ) → stands j (columns_of cols (count_from 0 rows) t) ≡ true → (i : ℕ) × (i < rows) × (is_some (t i j) ≡ true)
column-place cols rows t j e =
    let test : ℕ → Bool = λ j. list_any (λ i. is_some (t i j)) (count_from 0 rows) in
    let parts = and_true (stands j (count_from 0 cols)) (test j) (sym (stands-filter j test (count_from 0 cols)) ∙ e) in
    let place = any-below (λ i. is_some (t i j)) 0 rows parts.1 in
    (place.0, omega (arith, place.1), place.2)

-- and so has a row
pub row-place : {S : Type 0} (rows cols : ℕ) (t : Table S) (i : ℕ) → stands i (rows_of rows cols t) ≡ true → (j : ℕ) × (j < cols) × (is_some (t i j) ≡ true)
row-place rows cols t i e =
    let test : ℕ → Bool = λ i. list_any (λ j. is_some (t i j)) (count_from 0 cols) in
    let parts = and_true (stands i (count_from 0 rows)) (test i) (sym (stands-filter i test (count_from 0 rows)) ∙ e) in
    let place = any-below (λ j. is_some (t i j)) 0 cols parts.1 in
    (place.0, omega (arith, place.1), place.2)

-- ---- all cells of full rows

cells-of-row : (t : Table One) (i a n w : ℕ) → a + n ≤ w → ((j : ℕ) → j < w → is_some (t i j) ≡ true) → row_cells t i (count_from a n) ≡ map (λ j. record { row = i; col = j; value = tt }) (count_from a n)
cells-of-row t i a zero w l h = refl
cells-of-row t i a (suc n) w l h = by (t i a) (h a (omega (arith, l))) (cells-of-row t i (a + 1) n w (omega (arith, l)) h)
  where
    by : (o : Option One) → is_some o ≡ true → row_cells t i (count_from (a + 1) n) ≡ map (λ j. record { row = i; col = j; value = tt }) (count_from (a + 1) n)
        → cell_if i a o ++ row_cells t i (count_from (a + 1) n) ≡ record { row = i; col = a; value = tt } ∷ map (λ j. record { row = i; col = j; value = tt }) (count_from (a + 1) n)
    by None e rest = absurd (let bad : ⊥ = cc in bad)
    by (Some v) e rest = ap (λ cs. record { row = i; col = a; value = tt } ∷ cs) rest

pub cells-of-rows : (t : Table One) (rows : List ℕ) (w : ℕ) → ((i j : ℕ) → stands i rows ≡ true → j < w → is_some (t i j) ≡ true) → all_cells t rows (count_from 0 w) ≡ full_places w rows
cells-of-rows t [] w h = refl
cells-of-rows t (i ∷ is) w h =
    ap₂ (λ a b. a ++ b)
    (cells-of-row t i 0 w w (omega arith) (λ j l. h i j (ap (λ b. b || stands i is) (eq-eqb i i refl)) l))
    (cells-of-rows t is w (λ x j e l. h x j (later (eqb i x) _ e) l))
