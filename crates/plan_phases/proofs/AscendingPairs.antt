-- Lists of indices with their owners, in order by owner, then by index: the indices of one owner ascend.
use Rattle.std.proofs.Common.{◌≡◌, ℕ, zero, suc, ◌<◌, ◌≤◌, ◌+◌, inl, inr, Bool, true, false, cond, ◌||◌, eqb, ltb, List, [], ◌∷◌, get_or, All, filter, map, length, refl, sym, ◌∙◌, arith}
use Rattle.std.specs.declared.cmp.Ordering.TheVariants.{Less, Equal, Greater}
use Rattle.std.specs.Cmp.{IsStrictWeakOrder, IsTotalOrder, nat_cmp_total, on_total, then_total}
use Rattle.std.specs.List.Sorted.{IsPermutation, IsSorted}
use Rattle.std.specs.Ordering.{is_lt, ordering_then}
use Rattle.std.proofs.lemmas.Bool.{cases_eq, eq-eqb, eqb-false, ltb-false}
use Rattle.std.proofs.lemmas.Bool.Decides.{nat_tests}
use Rattle.std.proofs.lemmas.List.Sorted.{All-permutation, ranks_by, sorted_far}
use Rattle.tables.specs.Indices.{AreDistinct, count_from, stands}
use Rattle.crs_graph.specs.Ascending.{IsAbove, IsAscending}
use Rattle.crs_graph.specs.ColumnMaps.{by_owner, foreign}
use Rattle.crs_graph.proofs.Ascending.{ascending_tail}

-- ---- ascending numbers that pass a test

above-lower : (c d : ℕ) (xs : List ℕ) → c < d → IsAbove d xs → IsAbove c xs
above-lower c d [] l h = tt
above-lower c d (x ∷ xs) l h = (let first = h.0 in omega (arith, l, first), h.1)

above-count : (c a n : ℕ) (test : ℕ → Bool) → c < a → IsAbove c (filter test (count_from a n))
above-count c a zero test l = tt
above-count c a (suc n) test l = by (test a) (above-count a (a + 1) n test (omega arith)) (above-count c (a + 1) n test (omega (arith, l)))
  where
    by : (b : Bool) → IsAbove a (filter test (count_from (a + 1) n)) → IsAbove c (filter test (count_from (a + 1) n))
        → IsAbove c (cond b (a ∷ filter test (count_from (a + 1) n)) (filter test (count_from (a + 1) n)))
    by true up rest = (l, up)
    by false up rest = rest

pub count-ascends : (a n : ℕ) (test : ℕ → Bool) → IsAscending (filter test (count_from a n))
count-ascends a zero test = tt
count-ascends a (suc n) test = by (test a) (count-ascends (a + 1) n test)
  where
    by : (b : Bool) → IsAscending (filter test (count_from (a + 1) n)) → IsAscending (cond b (a ∷ filter test (count_from (a + 1) n)) (filter test (count_from (a + 1) n)))
    by true rest = above-count a (a + 1) n test (omega arith)
    by false rest = rest

above-kept : (c : ℕ) (xs : List ℕ) (test : ℕ → Bool) → IsAbove c xs → IsAbove c (filter test xs)
above-kept c [] test h = tt
above-kept c (x ∷ xs) test h = by (test x) (above-kept x xs test h.1)
  where
    by : (b : Bool) → IsAbove x (filter test xs) → IsAbove c (cond b (x ∷ filter test xs) (filter test xs))
    by true up = (h.0, up)
    by false up = above-lower c x (filter test xs) h.0 up

pub kept-ascends : (xs : List ℕ) (test : ℕ → Bool) → IsAscending xs → IsAscending (filter test xs)
kept-ascends [] test h = tt
kept-ascends (x ∷ xs) test h = by (test x) (kept-ascends xs test (ascending_tail x xs h))
  where
    by : (b : Bool) → IsAscending (filter test xs) → IsAscending (cond b (x ∷ filter test xs) (filter test xs))
    by true rest = above-kept x xs test h
    by false rest = rest

-- ---- pairs

-- none of the pairs goes before this one
abbrev AreLater : ℕ × ℕ → List (ℕ × ℕ) → Type 0
AreLater x [] = Unit {0}
AreLater x (y ∷ ys) = (is_lt (by_owner y x) ≡ false) × AreLater x ys

abbrev AreInTurn : List (ℕ × ℕ) → Type 0
AreInTurn [] = Unit {0}
AreInTurn (x ∷ xs) = AreLater x xs × AreInTurn xs

later-of : (x : ℕ × ℕ) (xs : List (ℕ × ℕ)) → ((k : ℕ) → k < length xs → is_lt (by_owner (get_or xs k x) x) ≡ false) → AreLater x xs
later-of x [] h = tt
later-of x (y ∷ ys) h = (h 0 (omega arith), later-of x ys (λ k l. h (suc k) (omega (arith, l))))

turn-of : (xs : List (ℕ × ℕ)) → ((i j : ℕ) (d : ℕ × ℕ) → i ≤ j → j < length xs → is_lt (by_owner (get_or xs j d) (get_or xs i d)) ≡ false) → AreInTurn xs
turn-of [] h = tt
turn-of (x ∷ xs) h = (later-of x xs (λ k l. h 0 (suc k) x (omega arith) (omega (arith, l))), turn-of xs (λ i j d l m. h (suc i) (suc j) d (omega (arith, l)) (omega (arith, m))))

by_owner-total : IsTotalOrder by_owner
by_owner-total = then_total (on_total (λ (t : ℕ × ℕ). t.0) nat_cmp_total) (on_total (λ (t : ℕ × ℕ). t.1) nat_cmp_total)

by_owner-weak : IsStrictWeakOrder (λ x y. is_lt (by_owner x y))
by_owner-weak = ranks_by by_owner-total (λ x. x)

-- beside each index its owner stands
abbrev AreOwned : (ℕ → ℕ) → List (ℕ × ℕ) → Type 0
AreOwned owner [] = Unit {0}
AreOwned owner (x ∷ xs) = (x.0 ≡ owner x.1) × AreOwned owner xs

all-owned : (owner : ℕ → ℕ) (xs : List (ℕ × ℕ)) → AreOwned owner xs → All (λ x. x.0 ≡ owner x.1) xs
all-owned owner [] h i d l = absurd (let bad : ⊥ = omega (arith, l) in bad)
all-owned owner (x ∷ xs) h zero d l = h.0
all-owned owner (x ∷ xs) h (suc i) d l = all-owned owner xs h.1 i d (omega (arith, l))

owned-all : (owner : ℕ → ℕ) (xs : List (ℕ × ℕ)) → All (λ x. x.0 ≡ owner x.1) xs → AreOwned owner xs
owned-all owner [] h = tt
owned-all owner (x ∷ xs) h = (h 0 x (omega arith), owned-all owner xs (λ i d l. h (suc i) d (omega (arith, l))))

foreign-owned : (owner : ℕ → ℕ) (domain gs : List ℕ) → AreOwned owner (foreign domain gs (map owner gs))
foreign-owned owner domain [] = tt
foreign-owned owner domain (g ∷ gs) = by (stands g domain) (foreign-owned owner domain gs)
  where
    by : (b : Bool) → AreOwned owner (foreign domain gs (map owner gs)) → AreOwned owner (cond b (foreign domain gs (map owner gs)) ((owner g, g) ∷ foreign domain gs (map owner gs)))
    by true rest = rest
    by false rest = (refl, rest)

-- of two pairs of one owner the index of the later one is no lower
by-index : (l e m f : Bool) → l ≡ false → e ≡ true → is_lt (ordering_then (cond l Less (cond e Equal Greater)) (cond m Less (cond f Equal Greater))) ≡ m
by-index true e m f h k = absurd (let bad : ⊥ = cc in bad)
by-index false false m f h k = absurd (let bad : ⊥ = cc in bad)
by-index false true true f h k = refl
by-index false true false true h k = refl
by-index false true false false h k = refl

not-below : (a b : ℕ) → a ≡ b → ltb a b ≡ false
not-below a b same = grind (arith, nat_tests)

no-lower : (a b x y : ℕ) → a ≡ b → is_lt (by_owner (a, x) (b, y)) ≡ false → y ≤ x
no-lower a b x y same h = ltb-false x y (sym (by-index (ltb a b) (eqb a b) (ltb x y) (eqb x y) (not-below a b same) (eq-eqb a b same)) ∙ h)

neither : (a b : Bool) → (a || b) ≡ false → (a ≡ false) × (b ≡ false)
neither true b h = absurd (let bad : ⊥ = cc in bad)
neither false b h = (refl, h)

-- the indices that pass a test, where these are all of one owner
module _ (owner : ℕ → ℕ) (test : ℕ → Bool) (q : ℕ) (of : (g : ℕ) → test g ≡ true → owner g ≡ q) where
  above-owned : (x : ℕ × ℕ) (ys : List (ℕ × ℕ)) → x.0 ≡ q → AreLater x ys → AreInTurn ys → AreOwned owner ys → stands x.1 (map (λ y. y.1) ys) ≡ false
      → AreDistinct (map (λ y. y.1) ys) → IsAbove x.1 (filter test (map (λ y. y.1) ys))
  above-owned x [] mine late turn owned off distinct = tt
  above-owned x (y ∷ ys) mine late turn owned off distinct =
      by (test y.1) refl (λ yours. above-owned y ys yours turn.0 turn.1 owned.1 distinct.0 distinct.1)
      (above-owned x ys mine late.1 turn.1 owned.1 (neither (eqb y.1 x.1) (stands x.1 (map (λ y. y.1) ys)) off).1 distinct.1)
    where
      other : eqb y.1 x.1 ≡ false
      other = (neither (eqb y.1 x.1) (stands x.1 (map (λ y. y.1) ys)) off).0

      apart : x.1 ≤ y.1 → x.1 < y.1
      apart least = let differ = eqb-false y.1 x.1 other in elim (cases_eq y.1 x.1) [ inl same ↦ absurd (differ same) | inr differs ↦ omega arith ]

      by : (b : Bool) → test y.1 ≡ b → (y.0 ≡ q → IsAbove y.1 (filter test (map (λ y. y.1) ys))) → IsAbove x.1 (filter test (map (λ y. y.1) ys))
          → IsAbove x.1 (cond b (y.1 ∷ filter test (map (λ y. y.1) ys)) (filter test (map (λ y. y.1) ys)))
      by true e up rest =
          let yours : y.0 ≡ q = owned.0 ∙ of y.1 e in
          (apart (no-lower y.0 x.0 y.1 x.1 (yours ∙ sym mine) late.0), up yours)
      by false e up rest = rest

  owned-ascend : (xs : List (ℕ × ℕ)) → AreInTurn xs → AreOwned owner xs → AreDistinct (map (λ x. x.1) xs) → IsAscending (filter test (map (λ x. x.1) xs))
  owned-ascend [] turn owned distinct = tt
  owned-ascend (x ∷ xs) turn owned distinct = by (test x.1) refl (owned-ascend xs turn.1 owned.1 distinct.1)
    where
      by : (b : Bool) → test x.1 ≡ b → IsAscending (filter test (map (λ x. x.1) xs)) → IsAscending (cond b (x.1 ∷ filter test (map (λ x. x.1) xs)) (filter test (map (λ x. x.1) xs)))
      by true e rest = above-owned x xs (owned.0 ∙ of x.1 e) turn.0 turn.1 owned.1 distinct.0 distinct.1
      by false e rest = rest

  -- so they ascend among the pairs that a domain lacks, once these are sorted
  pub foreign-ascend : (domain gs : List ℕ) (others : List (ℕ × ℕ)) → IsSorted by_owner others → IsPermutation (foreign domain gs (map owner gs)) others
      → AreDistinct (map (λ x. x.1) others) → IsAscending (filter test (map (λ x. x.1) others))
  foreign-ascend domain gs others sorted moved distinct =
      owned-ascend others
      (turn-of others (λ i j d l m. sorted_far (λ x y. is_lt (by_owner x y)) by_owner-weak others sorted i j d l m))
      (owned-all owner others (All-permutation (λ x. x.0 ≡ owner x.1) (foreign domain gs (map owner gs)) others moved (all-owned owner (foreign domain gs (map owner gs)) (foreign-owned owner domain gs))))
      distinct
