-- The local indices of columns, and the order of their global ones.
use Rattle.std.proofs.Common.{◌≡◌, ℕ, suc, ◌+◌, ◌<◌, ◌≤◌, Bool, true, false, ◌||◌, ◌==◌, List, [], ◌∷◌, length, get_or, map, nat_eq, inl, inr, refl, sym, ap, ◌∙◌, subst, arith, nat_lt, cond}
use Rattle.std.specs.List.Sorted.{IsPermutation, IsSorted}
use Rattle.std.specs.Ordering.{nat_cmp}
use Rattle.std.proofs.lemmas.Bool.{cases_Bool, cases_eq, eq-eqb, eqb-true, or_cases}
use Rattle.std.proofs.lemmas.Bool.Decides.{nat_tests}
use Rattle.std.proofs.lemmas.List.Sorted.{IsNonDecreasingBy-from_sort, IsPermutation-sym}
use Rattle.map_core.specs.Classes.{index_at, place, places}
use Rattle.map_core.specs.Layouts.{stands, AreDistinct}
use Rattle.map_core.proofs.Places.{first_place}
use Rattle.tables.specs.Indices.{AreBelow}
use Rattle.crs_graph.specs.Ascending.{ascending, with_index, IsAbove, IsAscending}
use Rattle.crs_graph.specs.Graphs.{by_index, local_columns}
use Rattle.crs_graph.proofs.AllColumns.{same_test, ascending_unique, ascending-ascends, stands-ascending}
use Rattle.crs_graph.proofs.ColumnLists.{AreDistinct-IsPermutation, stands-IsPermutation}

-- the place of an index that stands in a list
place_here : (x g : ℕ) (xs : List ℕ) → nat_eq g x ≡ true → place (x ∷ xs) g ≡ 0
place_here x g xs e = rw e

place_later : (x g : ℕ) (xs : List ℕ) → nat_eq g x ≡ false → place (x ∷ xs) g ≡ suc (place xs g)
place_later x g xs e = rw e (omega arith)

pub record IsPlace (xs : List ℕ) (g l : ℕ) : Type 0 where
  pub within : l < length xs
  pub index : index_at xs l ≡ g

pub placed : (xs : List ℕ) (g : ℕ) → stands g xs ≡ true → IsPlace xs g (place xs g)
placed [] g h = absurd (cc)
placed (x ∷ xs) g h = by (nat_eq g x) refl (λ later. placed xs g later)
  where
    by : (b : Bool) → nat_eq g x ≡ b → (stands g xs ≡ true → IsPlace xs g (place xs g)) → IsPlace (x ∷ xs) g (place (x ∷ xs) g)
    by true e more = subst (IsPlace (x ∷ xs) g) (sym (place_here x g xs e)) (record { within = omega arith; index = sym (eqb-true g x e) })
    by false e more =
        let other : (x == g) ≡ false = grind (arith, nat_tests) in
        let later : stands g xs ≡ true = sym (ap (λ b. b || stands g xs) other) ∙ h in
        let rest = more later in
        let low = rest.within in
        subst (IsPlace (x ∷ xs) g) (sym (place_later x g xs e)) (record { within = omega arith; index = rest.index })

-- what stands in a list of images
pub stands-to_map : (f : ℕ → ℕ) (xs : List ℕ) (g : ℕ) → stands g xs ≡ true → stands (f g) (map f xs) ≡ true
stands-to_map f [] g h = absurd (cc)
stands-to_map f (x ∷ xs) g h = elim (or_cases (x == g) (stands g xs) h) [
  | inl here ↦ ap (λ b. b || stands (f g) (map f xs)) (eq-eqb (f x) (f g) (ap f (eqb-true x g here)))
  | inr there ↦ ap (λ b. (f x == f g) || b) (stands-to_map f xs g there) ∙ always (f x == f g)
]
  where
    always : (b : Bool) → (b || true) ≡ true
    always true = refl
    always false = refl

pub record HasSource (f : ℕ → ℕ) (xs : List ℕ) (k : ℕ) : Type 0 where
  pub source : ℕ
  pub there : stands source xs ≡ true
  pub image : f source ≡ k

pub stands-from_map : (f : ℕ → ℕ) (xs : List ℕ) (k : ℕ) → stands k (map f xs) ≡ true → HasSource f xs k
stands-from_map f [] k h = absurd (cc)
stands-from_map f (x ∷ xs) k h = elim (or_cases (f x == k) (stands k (map f xs)) h) [
  | inl here ↦ record { source = x; there = ap (λ b. b || stands x xs) (eq-eqb x x refl); image = eqb-true (f x) k here }
  | inr there ↦
      let rest = stands-from_map f xs k there in
      record { source = rest.source; there = ap (λ b. x == rest.source || b) rest.there ∙ always (x == rest.source); image = rest.image }
]
  where
    always : (b : Bool) → (b || true) ≡ true
    always true = refl
    always false = refl

-- bounds
pub below-stands : (n : ℕ) (xs : List ℕ) (g : ℕ) → AreBelow n xs → stands g xs ≡ true → g < n
below-stands n [] g h on = absurd (cc)
below-stands n (x ∷ xs) g h on = elim (or_cases (x == g) (stands g xs) on) [
  | inl here ↦ let same = eqb-true x g here in let low = h.0 in omega arith
  | inr there ↦ below-stands n xs g h.1 there
]

pub below-from : (n : ℕ) (xs : List ℕ) → ((g : ℕ) → stands g xs ≡ true → g < n) → AreBelow n xs
below-from n [] h = tt
below-from n (x ∷ xs) h = (
  h x (ap (λ b. b || stands x xs) (eq-eqb x x refl)),
  below-from n xs (λ g on. h g (ap (λ b. x == g || b) on ∙ always (x == g))),
)
  where
    always : (b : Bool) → (b || true) ≡ true
    always true = refl
    always false = refl

above_count : (c n : ℕ) (xs : List ℕ) → IsAbove c xs → AreBelow n xs → c < n → c + length xs < n
above_count c n [] h b low = omega arith
above_count c n (x ∷ xs) h b low =
    let up = h.0 in
    let rest = above_count x n xs h.1 b.1 b.0 in
    omega arith

-- an ascending row has no more columns than there are
pub ascending-count : (n : ℕ) (xs : List ℕ) → IsAscending xs → AreBelow n xs → length xs ≤ n
ascending-count n [] h b = omega arith
ascending-count n (x ∷ xs) h b = let rest = above_count x n xs h b.1 b.0 in omega arith

-- a list without repeats has as many indices when it ascends
length-with_index : (xs : List ℕ) (g : ℕ) → stands g xs ≡ false → length (with_index xs g) ≡ suc (length xs)
length-with_index [] g off = refl
length-with_index (x ∷ xs) g off = by (nat_lt g x) (nat_eq g x) refl (λ off. length-with_index xs g off)
  where
    by : (a b : Bool) → nat_eq g x ≡ b → (stands g xs ≡ false → length (with_index xs g) ≡ suc (length xs)) → length (cond a (g ∷ x ∷ xs) (cond b (x ∷ xs) (x ∷ with_index xs g))) ≡ suc (suc (length xs))
    by true b e more = refl
    by false true e more =
        let same : (x == g) ≡ true = grind (arith, nat_tests) in
        let on : stands g (x ∷ xs) ≡ true = ap (λ b. b || stands g xs) same in
        absurd (cc)
    by false false e more =
        let other : (x == g) ≡ false = grind (arith, nat_tests) in
        ap suc (more (sym (ap (λ b. b || stands g xs) other) ∙ off))

pub length-ascending : (gs : List ℕ) → AreDistinct gs → length (ascending gs) ≡ length gs
length-ascending [] d = refl
length-ascending (g ∷ gs) d = length-with_index (ascending gs) g (stands-ascending gs g ∙ d.0) ∙ ap suc (length-ascending gs d.1)

-- a sorted list without repeats ascends
above_sorted : (x : ℕ) (xs : List ℕ) → stands x xs ≡ false → AreDistinct xs → ((j : ℕ) → j < length xs → x ≤ get_or xs j 0)
    → ((i j : ℕ) → i ≤ j → j < length xs → get_or xs i 0 ≤ get_or xs j 0) → IsAbove x xs
above_sorted x [] off d low up = tt
above_sorted x (y ∷ ys) off d low up = (
  apart,
  above_sorted y ys d.0 d.1 (λ j l. up 0 (suc j) (omega arith) (omega arith)) (λ i j le l. up (suc i) (suc j) (omega arith) (omega arith)),
)
  where
    apart : x < y
    apart = elim (cases_eq y x) [
      | inl same ↦ let on : stands x (y ∷ ys) ≡ true = ap (λ b. b || stands x ys) (eq-eqb y x same) in absurd (cc)
      | inr other ↦ let least = low 0 (omega arith) in omega arith
    ]

ascends_sorted : (xs : List ℕ) → AreDistinct xs → ((i j : ℕ) → i ≤ j → j < length xs → get_or xs i 0 ≤ get_or xs j 0) → IsAscending xs
ascends_sorted [] d up = tt
ascends_sorted (x ∷ xs) d up = above_sorted x xs d.0 d.1 (λ j l. up 0 (suc j) (omega arith) (omega arith)) (λ i j le l. up (suc i) (suc j) (omega arith) (omega arith))

pub sorted-ascending : (gs ss : List ℕ) → AreDistinct gs → IsPermutation gs ss → IsSorted nat_cmp ss → ss ≡ ascending gs
sorted-ascending gs ss d moved sorted =
    ascending_unique ss (ascending gs)
    (ascends_sorted ss (AreDistinct-IsPermutation gs ss moved d) (λ i j le l. IsNonDecreasingBy-from_sort (λ x. x) ss sorted i j 0 le l))
    (ascending-ascends gs)
    (λ g. same_test (stands g ss) (stands g gs) (stands-IsPermutation gs ss g moved) (stands-IsPermutation ss gs g (IsPermutation-sym gs ss moved)) ∙ sym (stands-ascending gs g))

-- columns of a column map
module _ (cols : List ℕ) where
  -- the local index gives the column back
  index-place : (g : ℕ) → stands g cols ≡ true → index_at cols (place cols g) ≡ g
  index-place g on = (placed cols g on).index

  pub places-distinct : (gs : List ℕ) → AreDistinct gs → ((g : ℕ) → stands g gs ≡ true → stands g cols ≡ true) → AreDistinct (places cols gs)
  places-distinct [] d known = tt
  places-distinct (g ∷ gs) d known = (
    off,
    places-distinct gs d.1 (λ k on. known k (ap (λ b. g == k || b) on ∙ always (g == k))),
  )
    where
      always : (b : Bool) → (b || true) ≡ true
      always true = refl
      always false = refl

      first : stands g (g ∷ gs) ≡ true
      first = ap (λ b. b || stands g gs) (eq-eqb g g refl)

      off : stands (place cols g) (places cols gs) ≡ false
      off = elim (cases_Bool (stands (place cols g) (places cols gs))) [
        | inl on ↦
            let other = stands-from_map (place cols) gs (place cols g) on in
            let back : other.source ≡ g =
            sym (index-place other.source (known other.source (ap (λ b. g == other.source || b) other.there ∙ always (g == other.source))))
            ∙ ap (index_at cols) other.image
            ∙ index-place g (known g first) in
            let again : stands g gs ≡ true = ap (λ k. stands k gs) (sym back) ∙ other.there in
            let none = d.0 in
            absurd (cc)
        | inr none ↦ none
      ]

  pub places-below : (gs : List ℕ) → ((g : ℕ) → stands g gs ≡ true → stands g cols ≡ true) → AreBelow (length cols) (places cols gs)
  places-below gs known = below-from (length cols) (places cols gs) (λ l on.
      let from = stands-from_map (place cols) gs l on in
      subst (λ k. k < length cols) from.image (placed cols from.source (known from.source from.there)).within)

  pub local-below : (gs : List ℕ) → ((g : ℕ) → stands g gs ≡ true → stands g cols ≡ true) → AreBelow (length cols) (local_columns cols gs)
  local-below gs known = below-from (length cols) (local_columns cols gs) (λ l on. below-stands (length cols) (places cols gs) l (places-below gs known) (sym (stands-ascending (places cols gs) l) ∙ on))

  -- which columns a row has
  pub local-has : AreDistinct cols → (gs : List ℕ) → ((g : ℕ) → stands g gs ≡ true → stands g cols ≡ true) → (c : ℕ) → c < length cols
      → stands c (local_columns cols gs) ≡ stands (index_at cols c) gs
  local-has distinct gs known c low =
      stands-ascending (places cols gs) c
      ∙ same_test (stands c (places cols gs)) (stands (index_at cols c) gs)
      (λ on.
      let from = stands-from_map (place cols) gs c on in
      ap (λ g. stands g gs) (ap (index_at cols) (sym from.image) ∙ index-place from.source (known from.source from.there)) ∙ from.there)
      (λ on. ap (λ l. stands l (places cols gs)) (sym (first_place cols c (index_at cols c) distinct low refl)) ∙ stands-to_map (place cols) gs (index_at cols c) on)

  -- the global columns of a row are those that it was made of
  pub index-local : AreDistinct cols → (gs : List ℕ) → IsAscending gs → ((g : ℕ) → stands g gs ≡ true → stands g cols ≡ true)
      → ascending (map (index_at cols) (local_columns cols gs)) ≡ gs
  index-local distinct gs up known =
      ascending_unique (ascending (map (index_at cols) (local_columns cols gs))) gs (ascending-ascends (map (index_at cols) (local_columns cols gs))) up (λ g.
      stands-ascending (map (index_at cols) (local_columns cols gs)) g
      ∙ same_test (stands g (map (index_at cols) (local_columns cols gs))) (stands g gs)
      (λ on.
      let from = stands-from_map (index_at cols) (local_columns cols gs) g on in
      let low = below-stands (length cols) (local_columns cols gs) from.source (local-below gs known) from.there in
      ap (λ k. stands k gs) (sym from.image) ∙ sym (local-has distinct gs known from.source low) ∙ from.there)
      (λ on.
      let at = placed cols g (known g on) in
      ap (λ k. stands k (map (index_at cols) (local_columns cols gs))) (sym at.index)
      ∙ stands-to_map (index_at cols) (local_columns cols gs) (place cols g)
      (local-has distinct gs known (place cols g) at.within ∙ ap (λ k. stands k gs) at.index ∙ on)))

  map_places : (row gs : List ℕ) → map (λ g. place row (place cols g)) gs ≡ places row (places cols gs)
  map_places row [] = refl
  map_places row (g ∷ gs) = ap (λ xs. place row (place cols g) ∷ xs) (map_places row gs)

  pub by_index-local : AreDistinct cols → (gs : List ℕ) → IsAscending gs → ((g : ℕ) → stands g gs ≡ true → stands g cols ≡ true)
      → by_index cols (local_columns cols gs) ≡ places (local_columns cols gs) (places cols gs)
  by_index-local distinct gs up known =
      ap (map (λ g. place (local_columns cols gs) (place cols g))) (index-local distinct gs up known)
      ∙ map_places (local_columns cols gs) gs
