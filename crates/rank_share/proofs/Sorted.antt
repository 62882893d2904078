-- Lines by row and then column, those of one place in the order that they had.
use Rattle.std.proofs.Common.{◌≡◌, ℕ, zero, suc, ◌+◌, ◌<◌, ◌≤◌, ◌⊎◌, inl, inr, Bool, true, false, not, cond, eqb, ltb, leb, ◌||◌, ◌&&◌, List, [], ◌∷◌, length, get_or, filter, map, refl, sym, ap, ◌∙◌, arith}
use Rattle.std.specs.Prelude.{All, pos}
use Rattle.std.specs.List.{list_all, flat_map}
use Rattle.std.specs.declared.cmp.Ordering.{Ordering}
use Rattle.std.specs.declared.cmp.Ordering.TheVariants.{Less, Equal, Greater}
use Rattle.std.specs.Ordering.{is_lt, nat_cmp, ordering_then}
use Rattle.std.specs.Cmp.{IsTotalOrder, nat_cmp_total, then_total, on_total}
use Rattle.std.specs.List.Sorted.{IsPermutation, IsSortedByKey, IsStableByKey, ties}
use Rattle.std.proofs.lemmas.Bool.{and_parts, and_from, or_parts, and_cases, not-true, eqb-true, eq-eqb, ne_eqb, le-leb, le-ltb, lt-ltb, ltb-false, cases_order}
use Rattle.std.proofs.lemmas.List.Elements.{All-filter, All-weaker, filter_agree, filter_passes}
use Rattle.std.proofs.lemmas.List.Sorted.{All-permutation, sorted_far, ranks_by}
use Rattle.tables.specs.Indices.{stands, count_from, AreDistinct}
use Rattle.tables.proofs.Counting.{stands-within}
use Rattle.mm_text.specs.declared.file_data.Line.{Line}
use Rattle.rank_share.specs.Ascending.{ascending}
use Rattle.rank_share.specs.CellLines.{at_index, names_place, named_lines, index_lines, cell_lines}
use Rattle.rank_share.proofs.Rising.{IsStrict, list_all-weaker, list_all-from_get_or, stands-ascending, strict-ascending}
use Rattle.rank_share.proofs.Groups.{of_key, IsRisingBy, grouped, flat_map-same}

-- The order of pairs: by the first number, then by the second.
abbrev pub pair_order : (ℕ × ℕ) → (ℕ × ℕ) → Ordering
pair_order p q = ordering_then (nat_cmp p.0 q.0) (nat_cmp p.1 q.1)

pair_order-total : IsTotalOrder pair_order
pair_order-total = then_total (on_total (λ (t : ℕ × ℕ). t.0) nat_cmp_total) (on_total (λ (t : ℕ × ℕ). t.1) nat_cmp_total)

abbrev pub place_of : Line → ℕ × ℕ
place_of l = (l.row, l.col)

abbrev comes_before : Line → Line → Bool
comes_before l m = ltb l.row m.row || (eqb l.row m.row && ltb l.col m.col)

pairs-before : (a b x y : ℕ) → is_lt (ordering_then (nat_cmp a x) (nat_cmp b y)) ≡ (ltb a x || (eqb a x && ltb b y))
pairs-before a b x y = go (ltb a x) (eqb a x) (ltb b y) (eqb b y)
  where
    go : (l e m f : Bool) → is_lt (ordering_then (cond l Less (cond e Equal Greater)) (cond m Less (cond f Equal Greater))) ≡ (l || (e && m))
    go true e m f = refl
    go false true true f = refl
    go false true false true = refl
    go false true false false = refl
    go false false m f = refl

-- Two lines of which neither comes before the other name one place.
same-place : (a b x y : ℕ) → (not (ltb a x || (eqb a x && ltb b y)) && not (ltb x a || (eqb x a && ltb y b))) ≡ (eqb x a && eqb y b)
same-place a b x y = go (cases_order a x)
  where
    form : Bool → Bool → Bool → Bool → Bool → Bool → Bool
    form l e m k f n = not (l || (e && m)) && not (k || (f && n))

    columns : (b ≡ y) ⊎ ((b < y) ⊎ (y < b)) → (not (ltb b y) && not (ltb y b)) ≡ eqb y b
    columns (inl e) = (λ t. not (le-ltb b y (omega arith) t) && not (le-ltb y b (omega arith) t)) ∙ sym (eq-eqb y b (sym e))
    columns (inr (inl l)) = (λ t. not (lt-ltb b y l t) && not (ltb y b)) ∙ sym (ne_eqb y b (λ e. absurd (omega arith)))
    columns (inr (inr l)) = (λ t. not (le-ltb b y (omega arith) t) && not (lt-ltb y b l t)) ∙ sym (ne_eqb y b (λ e. absurd (omega arith)))

    go : (a ≡ x) ⊎ ((a < x) ⊎ (x < a)) → (not (ltb a x || (eqb a x && ltb b y)) && not (ltb x a || (eqb x a && ltb y b))) ≡ (eqb x a && eqb y b)
    go (inl e) =
        (λ t. form (le-ltb a x (omega arith) t) (eq-eqb a x e t) (ltb b y) (le-ltb x a (omega arith) t) (eq-eqb x a (sym e) t) (ltb y b))
        ∙ columns (cases_order b y)
        ∙ sym (λ t. eq-eqb x a (sym e) t && eqb y b)
    go (inr (inl l)) =
        (λ t. form (lt-ltb a x l t) (eqb a x) (ltb b y) (ltb x a) (eqb x a) (ltb y b))
        ∙ sym (λ t. ne_eqb x a (λ e. absurd (omega arith)) t && eqb y b)
    go (inr (inr l)) =
        (λ t. form (le-ltb a x (omega arith) t) (ne_eqb a x (λ e. absurd (omega arith)) t) (ltb b y) (lt-ltb x a l t) (eqb x a) (ltb y b))
        ∙ sym (λ t. ne_eqb x a (λ e. absurd (omega arith)) t && eqb y b)

-- No line comes before one before it.
abbrev IsLined : List Line → Type 0
IsLined [] = Unit {0}
IsLined (l ∷ ls) = (list_all (λ m. not (comes_before m l)) ls ≡ true) × IsLined ls

lined-from_pairs : (ls : List Line) → ((i j : ℕ) (d : Line) → i ≤ j → j < length ls → comes_before (get_or ls j d) (get_or ls i d) ≡ false) → IsLined ls
lined-from_pairs [] h = tt
lined-from_pairs (l ∷ ls) h = (
  list_all-from_get_or (λ m. not (comes_before m l)) ls l (λ k n. ap not (h 0 (suc k) l (omega arith) (omega arith))),
  lined-from_pairs ls (λ i j d p q. h (suc i) (suc j) d (omega arith) (omega arith)),
)

lined-from_keys : (ls : List Line) → IsSortedByKey {K = ℕ × ℕ} place_of pair_order ls → IsLined ls
lined-from_keys ls h =
    lined-from_pairs ls (λ i j d p q. sym (pairs-before (get_or ls j d).row (get_or ls j d).col (get_or ls i d).row (get_or ls i d).col)
    ∙ sorted_far _ (ranks_by pair_order-total place_of) ls h i j d p q)

-- what it says of rows, and of columns in one row
rows-apart : (l m : Line) → not (comes_before m l) ≡ true → l.row ≤ m.row
rows-apart l m h = ltb-false m.row l.row (or_parts (ltb m.row l.row) _ (not-true _ h)).0

columns-apart : (l m : Line) → not (comes_before m l) ≡ true → m.row ≡ l.row → l.col ≤ m.col
columns-apart l m h e = go (and_cases (eqb m.row l.row) (ltb m.col l.col) (or_parts (ltb m.row l.row) _ (not-true _ h)).1)
  where
    go : (eqb m.row l.row ≡ false) ⊎ (ltb m.col l.col ≡ false) → l.col ≤ m.col
    go (inl f) = let t = eq-eqb m.row l.row e in absurd (let bad : ⊥ = cc in bad)
    go (inr f) = ltb-false m.col l.col f

abbrev row_of : Line → ℕ
row_of l = l.row

abbrev col_of : Line → ℕ
col_of l = l.col

rows-rise : (ls : List Line) → IsLined ls → IsRisingBy row_of ls
rows-rise [] h = tt
rows-rise (l ∷ ls) h = (list_all-weaker _ _ (λ m f. le-leb l.row m.row (rows-apart l m f)) ls h.0, rows-rise ls h.1)

later-columns : (l : Line) (ls : List Line) → list_all (λ m. not (comes_before m l)) ls ≡ true → list_all (λ m. leb l.col m.col) (of_key row_of l.row ls) ≡ true
later-columns l [] h = refl
later-columns l (m ∷ ms) h = let both = and_parts (not (comes_before m l)) _ h in go both.0 (later-columns l ms both.1) (eqb m.row l.row) refl
  where
    go : not (comes_before m l) ≡ true → list_all (λ m. leb l.col m.col) (of_key row_of l.row ms) ≡ true
        → (b : Bool) → eqb m.row l.row ≡ b → list_all (λ m. leb l.col m.col) (cond b (m ∷ of_key row_of l.row ms) (of_key row_of l.row ms)) ≡ true
    go first rest true e = and_from _ _ (le-leb l.col m.col (columns-apart l m first (eqb-true m.row l.row e))) rest
    go first rest false e = rest

columns-rise : (g : ℕ) (ls : List Line) → IsLined ls → IsRisingBy col_of (of_key row_of g ls)
columns-rise g [] h = tt
columns-rise g (l ∷ ls) h = go (columns-rise g ls h.1) (eqb l.row g) refl
  where
    go : IsRisingBy col_of (of_key row_of g ls) → (b : Bool) → eqb l.row g ≡ b → IsRisingBy col_of (cond b (l ∷ of_key row_of g ls) (of_key row_of g ls))
    go rest true e = (ap (λ k. list_all (λ m. leb l.col m.col) (of_key row_of k ls)) (sym (eqb-true l.row g e)) ∙ later-columns l ls h.0, rest)
    go rest false e = rest

filter-both : {X : Type 0} (p q : X → Bool) (xs : List X) → filter p (filter q xs) ≡ filter (λ x. q x && p x) xs
filter-both p q [] = refl
filter-both p q (x ∷ xs) = go (q x) (p x) refl (filter-both p q xs)
  where
    go : (a b : Bool) → p x ≡ b → filter p (filter q xs) ≡ filter (λ x. q x && p x) xs
        → filter p (cond a (x ∷ filter q xs) (filter q xs)) ≡ cond (a && b) (x ∷ filter (λ x. q x && p x) xs) (filter (λ x. q x && p x) xs)
    go true true f e = (λ t. cond (f t) (x ∷ filter p (filter q xs)) (filter p (filter q xs))) ∙ ap (λ ys. x ∷ ys) e
    go true false f e = (λ t. cond (f t) (x ∷ filter p (filter q xs)) (filter p (filter q xs))) ∙ e
    go false b f e = e

-- the lines of the rows of a list
abbrev pub kept_lines : List ℕ → List Line → List Line
kept_lines list lines = filter (λ l. stands l.row list) lines

kept-named : (list : List ℕ) (g j : ℕ) (lines : List Line) → stands g list ≡ true → filter (names_place g j) (kept_lines list lines) ≡ filter (names_place g j) lines
kept-named list g j lines s = filter-both (names_place g j) (λ l. stands l.row list) lines ∙ filter_agree _ _ (λ l. go l (eqb l.row g) refl) lines
  where
    go : (l : Line) (b : Bool) → eqb l.row g ≡ b → (stands l.row list && names_place g j l) ≡ names_place g j l
    go l true e = ap (λ b. b && names_place g j l) (ap (λ k. stands k list) (eqb-true l.row g e) ∙ s)
    go l false e = (λ t. stands l.row list && (e t && eqb l.col j)) ∙ none (stands l.row list) ∙ sym (λ t. e t && eqb l.col j)
      where
        none : (b : Bool) → (b && false) ≡ false
        none true = refl
        none false = refl

named-own : (g j : ℕ) (lines : List Line) → named_lines lines g g j ≡ filter (names_place g j) lines
named-own g j [] = refl
named-own g j (l ∷ ls) = go (named-own g j ls) (eqb l.row g) refl (eqb l.col j)
  where
    go : named_lines ls g g j ≡ filter (names_place g j) ls → (a : Bool) → eqb l.row g ≡ a → (b : Bool)
        → map (at_index g) (cond (a && b) (l ∷ filter (names_place g j) ls) (filter (names_place g j) ls)) ≡ cond (a && b) (l ∷ filter (names_place g j) ls) (filter (names_place g j) ls)
    go rest true e true = λ t. record l { row = sym (eqb-true l.row g e) t } ∷ rest t
    go rest true e false = rest
    go rest false e b = rest

-- the numbers from n on rise
pub strict-count : (n k : ℕ) → IsStrict (count_from n k)
strict-count n zero = tt
strict-count n (suc k) = (all-above n (n + 1) k (omega arith), strict-count (n + 1) k)
  where
    all-above : (m n k : ℕ) → m < n → list_all (ltb m) (count_from n k) ≡ true
    all-above m n zero l = refl
    all-above m n (suc k) l = and_from _ _ (lt-ltb m n l) (all-above m (n + 1) k (omega arith))

-- What a stable sort by row and column leaves of the lines of the rows of a list, in columns below a number.
pub cell_lines-sorted : (list : List ℕ) (columns : ℕ) (lines ls : List Line) → AreDistinct list → All (λ l. l.col < columns) lines
    → IsPermutation (kept_lines list lines) ls → IsSortedByKey {K = ℕ × ℕ} place_of pair_order ls → IsStableByKey {K = ℕ × ℕ} place_of pair_order (kept_lines list lines) ls
    → ls ≡ cell_lines (λ g. g) list columns lines
cell_lines-sorted list columns lines ls apart within moved up stable =
    grouped row_of ls (ascending list) (strict-ascending list apart) (rows-rise ls lined) rows
    ∙ flat_map-same _ _ (ascending list) (λ g s. in_row g (sym (stands-ascending g list) ∙ s))
  where
    lined : IsLined ls
    lined = lined-from_keys ls up

    rows : All (λ l. stands l.row (ascending list) ≡ true) ls
    rows = All-permutation (λ l. stands l.row (ascending list) ≡ true) (kept_lines list lines) ls moved (All-weaker (λ l. stands l.row list ≡ true) (λ l. stands l.row (ascending list) ≡ true) (λ l h. stands-ascending l.row list ∙ h) (kept_lines list lines) (filter_passes (λ l. stands l.row list) lines))

    cols : All (λ l. l.col < columns) ls
    cols = All-permutation (λ l. l.col < columns) (kept_lines list lines) ls moved (All-filter (λ l. stands l.row list) (λ l. l.col < columns) lines within)

    at_place : (g j : ℕ) → stands g list ≡ true → of_key col_of j (of_key row_of g ls) ≡ named_lines lines g g j
    at_place g j s =
        filter-both (λ l. eqb l.col j) (λ l. eqb l.row g) ls
        ∙ sym (filter_agree _ (names_place g j) (λ l. tied l) ls)
        ∙ stable (record { row = g; col = j; value = pos 0 })
        ∙ filter_agree _ (names_place g j) (λ l. tied l) (kept_lines list lines)
        ∙ kept-named list g j lines s
        ∙ sym (named-own g j lines)
      where
        tied : (l : Line) → ties (λ a b. is_lt (pair_order (place_of a) (place_of b))) (record { row = g; col = j; value = pos 0 }) l ≡ names_place g j l
        tied l = (λ t. not (pairs-before g j l.row l.col t) && not (pairs-before l.row l.col g j t)) ∙ same-place g j l.row l.col

    in_row : (g : ℕ) → stands g list ≡ true → of_key row_of g ls ≡ index_lines lines columns g g
    in_row g s =
        grouped col_of (of_key row_of g ls) (count_from 0 columns) (strict-count 0 columns) (columns-rise g ls lined)
        (All-weaker (λ l. l.col < columns) (λ l. stands l.col (count_from 0 columns) ≡ true) (λ l h. stands-within 0 columns l.col (omega arith) (omega arith)) (of_key row_of g ls) (All-filter (λ l. eqb l.row g) (λ l. l.col < columns) ls cols))
        ∙ flat_map-same _ _ (count_from 0 columns) (λ j h. at_place g j s)
