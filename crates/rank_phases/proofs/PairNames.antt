-- The letters between each two different ranks: their order, and which of them a rank posts and awaits.
use Rattle.std.proofs.Common.{◌≡◌, ◌≢◌, ℕ, zero, suc, ◌<◌, ◌≤◌, ◌+◌, ◌⊎◌, inl, inr, Bool, true, false, cond, not, ◌&&◌, ◌==◌, List, [], ◌∷◌, ◌++◌, map, filter, length, refl, sym, ap, ◌∙◌, subst, arith, Some}
use Rattle.std.specs.Prelude.{nat_le, nat_lt, slice_get}
use Rattle.std.specs.List.{flat_map, list_all, range_with_len}
use Rattle.std.specs.List.{AllByRecursion}
use Rattle.std.specs.List.Sorted.{IsStrictlySortedBy}
use Rattle.std.specs.Cmp.{nat_cmp_is}
use Rattle.std.specs.declared.cmp.Ordering.TheVariants.{Less, Equal}
use Rattle.std.proofs.lemmas.Bool.{and_parts, and_from, both_ways, not-true, eq-eqb, eqb-true, ne_eqb, cases_lt, false_from_ne_true, leb-true, le-leb, ltb-true, lt-ltb, or_cases}
use Rattle.std.proofs.lemmas.Bool.Decides.{nat_tests}
use Rattle.std.proofs.lemmas.List.{append-nil}
use Rattle.std.proofs.lemmas.List.Elements.{filter-append}
use Rattle.std.proofs.lemmas.List.Kept.{IsStrictlySortedBy-filter}
use Rattle.outside.specs.declared.name.Name.{Name}
use Rattle.outside.specs.Letters.{same_name}
use Rattle.outside.proofs.Names.{same_name-is}
use Rattle.peers.specs.Protocols.{name_cmp, stands_in}
use Rattle.rank_phases.specs.Phases.{AreByPhase, names_from, names_to}
use Rattle.rank_phases.specs.Pairs.{all_pairs, from_others, others, sent_names, to_others}
use Rattle.rank_phases.proofs.Filters.{filter-filter, filter-same}

-- Tests that all names of a list pass

all-append : {X : Type 0} (t : X → Bool) (xs ys : List X) → list_all t xs ≡ true → list_all t ys ≡ true → list_all t (xs ++ ys) ≡ true
all-append t [] ys a b = b
all-append t (x ∷ xs) ys a b = let p = and_parts (t x) _ a in and_from (t x) _ p.0 (all-append t xs ys p.1 b)

all-filter : {X : Type 0} (t p : X → Bool) (xs : List X) → list_all t xs ≡ true → list_all t (filter p xs) ≡ true
all-filter t p [] a = refl
all-filter t p (x ∷ xs) a = let q = and_parts (t x) _ a in go (p x) q.0 (all-filter t p xs q.1)
  where
    go : (b : Bool) → t x ≡ true → list_all t (filter p xs) ≡ true → list_all t (cond b (x ∷ filter p xs) (filter p xs)) ≡ true
    go true here more = and_from (t x) _ here more
    go false here more = more

all-weaker : {X : Type 0} (a b : X → Bool) → ((x : X) → a x ≡ true → b x ≡ true) → (xs : List X) → list_all a xs ≡ true → list_all b xs ≡ true
all-weaker a b h [] e = refl
all-weaker a b h (x ∷ xs) e = let t = and_parts (a x) _ e in and_from (b x) _ (h x t.0) (all-weaker a b h xs t.1)

-- a name of the list passes a test that all its names pass
pub passes : (t : Name → Bool) (ns : List Name) → list_all t ns ≡ true → (n : Name) → stands_in ns n ≡ true → t n ≡ true
passes t [] all n h = absurd (cc)
passes t (m ∷ ns) all n h =
    let parts = and_parts (t m) _ all in go parts.0 (passes t ns parts.1 n) (or_cases (same_name n m) (stands_in ns n) h)
  where
    go : t m ≡ true → (stands_in ns n ≡ true → t n ≡ true) → (same_name n m ≡ true) ⊎ (stands_in ns n ≡ true) → t n ≡ true
    go here more (inl is) = subst (λ k. t k ≡ true) (sym (same_name-is n m is)) here
    go here more (inr there) = more there

-- where none passes a test of the others, it keeps none
none-kept : (t c : Name → Bool) → ((n : Name) → t n ≡ true → c n ≡ false) → (ns : List Name) → list_all t ns ≡ true → filter c ns ≡ []
none-kept t c none [] all = refl
none-kept t c none (n ∷ ns) all =
    let parts = and_parts (t n) _ all in
    ap (λ b. cond b (n ∷ filter c ns) (filter c ns)) (none n parts.0) ∙ none-kept t c none ns parts.1

and-swap : (a b : Bool) → (a && b) ≡ (b && a)
and-swap true true = refl
and-swap true false = refl
and-swap false true = refl
and-swap false false = refl

filter-swap : (a b : Name → Bool) (ns : List Name) → filter a (filter b ns) ≡ filter b (filter a ns)
filter-swap a b ns = filter-filter a b ns ∙ filter-same _ _ (λ n. and-swap (b n) (a n)) ns ∙ sym (filter-filter b a ns)

-- The names of pairs

abbrev pub pair : ℕ → ℕ → ℕ → Name
pair phase from to = record { phase = phase; from = from; to = to }

-- the ranks but one of a run of ranks
abbrev but : ℕ → ℕ → ℕ → List ℕ
but rank a k = filter (λ other. not (rank == other)) (range_with_len a k)

-- the test of the names of one phase, between different ranks below `ranks`
abbrev pub is_pair : ℕ → ℕ → Name → Bool
is_pair ranks phase n = (n.phase == phase) && (nat_lt n.from ranks && (nat_lt n.to ranks && not (n.from == n.to)))

module _ (ranks phase : ℕ) where
  pairs-to : (p a k : ℕ) → p < ranks → a + k ≤ ranks → list_all (is_pair ranks phase) (map (pair phase p) (but p a k)) ≡ true
  pairs-to p a zero l h = refl
  pairs-to p a (suc k) l h = go (not (p == a)) refl (pairs-to p (a + 1) k l (omega arith))
    where
      go : (b : Bool) → not (p == a) ≡ b → list_all (is_pair ranks phase) (map (pair phase p) (but p (a + 1) k)) ≡ true
          → list_all (is_pair ranks phase) (map (pair phase p) (cond b (a ∷ but p (a + 1) k) (but p (a + 1) k))) ≡ true
      go true e more =
          and_from (is_pair ranks phase (pair phase p a)) _
          (and_from (phase == phase) _ (eq-eqb phase phase refl)
          (and_from (nat_lt p ranks) _ (lt-ltb p ranks l) (and_from (nat_lt a ranks) _ (lt-ltb a ranks (omega arith)) e))) more
      go false e more = more

  pairs-run : (a k : ℕ) → a + k ≤ ranks → list_all (is_pair ranks phase) (flat_map (to_others ranks phase) (range_with_len a k)) ≡ true
  pairs-run a zero h = refl
  pairs-run a (suc k) h =
      all-append (is_pair ranks phase) (to_others ranks phase a) (flat_map (to_others ranks phase) (range_with_len (a + 1) k))
      (pairs-to a 0 ranks (omega arith) (omega arith)) (pairs-run (a + 1) k (omega arith))

  pub pairs-are : list_all (is_pair ranks phase) (all_pairs ranks phase) ≡ true
  pairs-are = pairs-run 0 ranks (omega arith)

-- the test of the names of phases
abbrev pub is_within : ℕ → ℕ → ℕ → Name → Bool
is_within ranks from to n = nat_le from n.phase && (nat_lt n.phase to && (nat_lt n.from ranks && (nat_lt n.to ranks && not (n.from == n.to))))

within-from : (ranks a b to : ℕ) → a ≤ b → (n : Name) → is_within ranks b to n ≡ true → is_within ranks a to n ≡ true
within-from ranks a b to le n e =
    let p = and_parts (nat_le b n.phase) _ e in
    and_from (nat_le a n.phase) _ (le-leb a n.phase (let at = leb-true b n.phase p.0 in omega arith)) p.1

pair-within : (ranks phase to : ℕ) → phase < to → (n : Name) → is_pair ranks phase n ≡ true → is_within ranks phase to n ≡ true
pair-within ranks phase to lt n e =
    let p = and_parts (n.phase == phase) _ e in
    let at = eqb-true n.phase phase p.0 in
    and_from (nat_le phase n.phase) _ (le-leb phase n.phase (omega arith)) (and_from (nat_lt n.phase to) _ (lt-ltb n.phase to (omega arith)) p.1)

pub names-within : (ranks phase : ℕ) (tests : List (Name → Bool)) (to : ℕ) → phase + length tests ≤ to
    → list_all (is_within ranks phase to) (sent_names ranks phase tests) ≡ true
names-within ranks phase [] to h = refl
names-within ranks phase (t ∷ ts) to h =
    all-append (is_within ranks phase to) (filter t (all_pairs ranks phase)) (sent_names ranks (phase + 1) ts)
    (all-filter _ t (all_pairs ranks phase) (all-weaker _ _ (pair-within ranks phase to (omega arith)) (all_pairs ranks phase) (pairs-are ranks phase)))
    (all-weaker _ _ (within-from ranks phase (phase + 1) to (omega arith)) _ (names-within ranks (phase + 1) ts to (omega arith)))

-- Of all phases the one

module _ (ranks : ℕ) (c : Name → Bool) (n : ℕ) (only : (m : Name) → c m ≡ true → m.phase ≡ n) where
  other-phase : (k : ℕ) → (n ≡ k → ⊥) → (m : Name) → is_pair ranks k m ≡ true → c m ≡ false
  other-phase k apart m e =
      false_from_ne_true _ (λ yes. apart (sym (only m yes) ∙ eqb-true m.phase k (and_parts (m.phase == k) _ e).0))

  later-phase : (k to : ℕ) → n < k → (m : Name) → is_within ranks k to m ≡ true → c m ≡ false
  later-phase k to lt m e =
      false_from_ne_true _ (λ yes.
      let at = only m yes in let above = leb-true k m.phase (and_parts (nat_le k m.phase) _ e).0 in absurd (omega arith))

  pub at-phase : (i k : ℕ) (tests : List (Name → Bool)) (t : Name → Bool) → n ≡ i + k → slice_get tests k ≡ Some t
      → filter c (sent_names ranks i tests) ≡ filter c (filter t (all_pairs ranks n))
  at-phase i k [] t e is = absurd (cc)
  at-phase i zero (u ∷ us) t e is =
      filter-append c (filter u (all_pairs ranks i)) (sent_names ranks (i + 1) us)
      ∙ ap (λ ms. filter c (filter u (all_pairs ranks i)) ++ ms)
      (none-kept (is_within ranks (i + 1) ((i + 1) + length us)) c (later-phase (i + 1) ((i + 1) + length us) (omega arith)) (sent_names ranks (i + 1) us)
      (names-within ranks (i + 1) us ((i + 1) + length us) (omega arith)))
      ∙ append-nil (filter c (filter u (all_pairs ranks i)))
      ∙ (let same : i ≡ n = omega arith in let test : u ≡ t = cc in λ j. filter c (filter (test j) (all_pairs ranks (same j))))
  at-phase i (suc k) (u ∷ us) t e is =
      filter-append c (filter u (all_pairs ranks i)) (sent_names ranks (i + 1) us)
      ∙ ap (λ ms. ms ++ filter c (sent_names ranks (i + 1) us))
      (none-kept (is_pair ranks i) c (other-phase i (λ s. absurd (omega arith))) (filter u (all_pairs ranks i)) (all-filter (is_pair ranks i) u (all_pairs ranks i) (pairs-are ranks i)))
      ∙ at-phase (i + 1) k us t (omega arith) is

-- Of one phase those from a rank, and those to it

module _ (ranks n p : ℕ) where
  abbrev is_from : Name → Bool
  is_from m = (m.phase == n) && (m.from == p)

  abbrev is_to : Name → Bool
  is_to m = (m.phase == n) && (m.to == p)

  from-other : (q : ℕ) (rs : List ℕ) → (q == p) ≡ false → filter is_from (map (pair n q) rs) ≡ []
  from-other q [] e = refl
  from-other q (r ∷ rs) e =
      (λ i. cond (eq-eqb n n refl i && e i) (pair n q r ∷ filter is_from (map (pair n q) rs)) (filter is_from (map (pair n q) rs))) ∙ from-other q rs e

  from-self : (rs : List ℕ) → filter is_from (map (pair n p) rs) ≡ map (pair n p) rs
  from-self [] = refl
  from-self (r ∷ rs) =
      (λ i. cond (eq-eqb n n refl i && eq-eqb p p refl i) (pair n p r ∷ filter is_from (map (pair n p) rs)) (filter is_from (map (pair n p) rs)))
      ∙ ap (λ ms. pair n p r ∷ ms) (from-self rs)

  from-none : (a k : ℕ) → p < a → filter is_from (flat_map (to_others ranks n) (range_with_len a k)) ≡ []
  from-none a zero l = refl
  from-none a (suc k) l =
      filter-append is_from (to_others ranks n a) (flat_map (to_others ranks n) (range_with_len (a + 1) k))
      ∙ (λ i. from-other a (others ranks a) (ne_eqb a p (λ e. absurd (omega arith))) i ++ from-none (a + 1) k (omega arith) i)

  pub from-run : (a k : ℕ) → a ≤ p → p < a + k → filter is_from (flat_map (to_others ranks n) (range_with_len a k)) ≡ to_others ranks n p
  from-run a zero l h = absurd (omega arith)
  from-run a (suc k) l h =
      filter-append is_from (to_others ranks n a) (flat_map (to_others ranks n) (range_with_len (a + 1) k))
      ∙ go (cases_lt a p) (from-run (a + 1) k)
    where
      go : (a < p) ⊎ (p ≤ a) → (a + 1 ≤ p → p < (a + 1) + k → filter is_from (flat_map (to_others ranks n) (range_with_len (a + 1) k)) ≡ to_others ranks n p)
          → filter is_from (to_others ranks n a) ++ filter is_from (flat_map (to_others ranks n) (range_with_len (a + 1) k)) ≡ to_others ranks n p
      go (inl m) more =
          let rest = more (omega arith) (omega arith) in
          λ i. from-other a (others ranks a) (ne_eqb a p (λ e. absurd (omega arith))) i ++ rest i
      go (inr m) more =
          let same : a ≡ p = omega arith in
          let none = from-none (a + 1) k (omega arith) in
          (λ i. filter is_from (to_others ranks n (same i)) ++ none i) ∙ append-nil (filter is_from (to_others ranks n p)) ∙ from-self (others ranks p)

  to-none : (q a k : ℕ) → p < a → filter is_to (map (pair n q) (but q a k)) ≡ []
  to-none q a zero l = refl
  to-none q a (suc k) l = go (not (q == a)) (to-none q (a + 1) k (omega arith))
    where
      go : (b : Bool) → filter is_to (map (pair n q) (but q (a + 1) k)) ≡ []
          → filter is_to (map (pair n q) (cond b (a ∷ but q (a + 1) k) (but q (a + 1) k))) ≡ []
      go false more = more
      go true more =
          let apart = ne_eqb a p (λ e. absurd (omega arith)) in
          (λ i. cond (eq-eqb n n refl i && apart i) (pair n q a ∷ filter is_to (map (pair n q) (but q (a + 1) k))) (filter is_to (map (pair n q) (but q (a + 1) k)))) ∙ more

  -- the one name from a rank to another
  abbrev one_to : ℕ → List Name
  one_to q = cond (not (q == p)) (pair n q p ∷ []) []

  to-run : (q a k : ℕ) → a ≤ p → p < a + k → filter is_to (map (pair n q) (but q a k)) ≡ one_to q
  to-run q a zero l h = absurd (omega arith)
  to-run q a (suc k) l h = go (not (q == a)) refl (cases_lt a p) (to-run q (a + 1) k)
    where
      rest : List Name
      rest = map (pair n q) (but q (a + 1) k)

      go : (b : Bool) → not (q == a) ≡ b → (a < p) ⊎ (p ≤ a) → (a + 1 ≤ p → p < (a + 1) + k → filter is_to rest ≡ one_to q)
          → filter is_to (map (pair n q) (cond b (a ∷ but q (a + 1) k) (but q (a + 1) k))) ≡ one_to q
      go false e (inl m) more = more (omega arith) (omega arith)
      go true e (inl m) more =
          let apart = ne_eqb a p (λ f. absurd (omega arith)) in
          (λ i. cond (eq-eqb n n refl i && apart i) (pair n q a ∷ filter is_to rest) (filter is_to rest)) ∙ more (omega arith) (omega arith)
      go false e (inr m) more =
          let same : a ≡ p = omega arith in
          to-none q (a + 1) k (omega arith)
          ∙ ap (λ b. cond b (pair n q p ∷ []) []) (sym (ap (λ r. not (q == r)) (sym same) ∙ e))
      go true e (inr m) more =
          let same : a ≡ p = omega arith in
          (λ i. cond (eq-eqb n n refl i && eq-eqb a p same i) (pair n q a ∷ filter is_to rest) (filter is_to rest))
          ∙ ap (λ ms. pair n q a ∷ ms) (to-none q (a + 1) k (omega arith))
          ∙ ap (λ r. pair n q r ∷ []) same
          ∙ ap (λ b. cond b (pair n q p ∷ []) []) (sym (ap (λ r. not (q == r)) (sym same) ∙ e))

  abbrev received : ℕ → Name
  received q = pair n q p

  pub to-all : p < ranks → (a k : ℕ) → filter is_to (flat_map (to_others ranks n) (range_with_len a k)) ≡ map received (filter (λ q. not (q == p)) (range_with_len a k))
  to-all l a zero = refl
  to-all l a (suc k) =
      filter-append is_to (to_others ranks n a) (flat_map (to_others ranks n) (range_with_len (a + 1) k))
      ∙ (λ i. to-run a 0 ranks (omega arith) (omega arith) i ++ to-all l (a + 1) k i)
      ∙ go (not (a == p))
    where
      go : (b : Bool) → cond b (received a ∷ []) [] ++ map received (filter (λ q. not (q == p)) (range_with_len (a + 1) k))
          ≡ map received (cond b (a ∷ filter (λ q. not (q == p)) (range_with_len (a + 1) k)) (filter (λ q. not (q == p)) (range_with_len (a + 1) k)))
      go true = refl
      go false = refl

  turned : (q : ℕ) → not (q == p) ≡ not (p == q)
  turned q = grind (arith, nat_tests)

  pub to-others : p < ranks → filter is_to (all_pairs ranks n) ≡ from_others ranks n p
  to-others l = to-all l 0 ranks ∙ ap (map received) (filter-same _ _ turned (range_with_len 0 ranks))

-- What a rank posts and awaits

module _ (ranks : ℕ) (tests : List (Name → Bool)) (n p : ℕ) where
  pub posts-of : (t : Name → Bool) → slice_get tests n ≡ Some t → p < ranks → names_from (sent_names ranks 0 tests) n p ≡ filter t (to_others ranks n p)
  posts-of t is within =
      at-phase ranks (is_from ranks n p) n (λ m e. eqb-true m.phase n (and_parts (m.phase == n) _ e).0) 0 n tests t (omega arith) is
      ∙ filter-swap (is_from ranks n p) t (all_pairs ranks n)
      ∙ ap (filter t) (from-run ranks n p 0 ranks (omega arith) (omega arith))

  pub awaits-of : (t : Name → Bool) → slice_get tests n ≡ Some t → p < ranks → names_to (sent_names ranks 0 tests) n p ≡ filter t (from_others ranks n p)
  awaits-of t is within =
      at-phase ranks (is_to ranks n p) n (λ m e. eqb-true m.phase n (and_parts (m.phase == n) _ e).0) 0 n tests t (omega arith) is
      ∙ filter-swap (is_to ranks n p) t (all_pairs ranks n)
      ∙ ap (filter t) (to-others ranks n p within)

  none-after : (c : Name → Bool) → ((m : Name) → c m ≡ true → m.phase ≡ n) → length tests ≤ n → filter c (sent_names ranks 0 tests) ≡ []
  none-after c only past =
      none-kept (is_within ranks 0 (length tests)) c
      (λ m e. false_from_ne_true _ (λ yes.
      let at = only m yes in
      let below = ltb-true m.phase (length tests) (and_parts (nat_lt m.phase (length tests)) _ (and_parts (nat_le 0 m.phase) _ e).1).0 in
      absurd (omega arith)))
      (sent_names ranks 0 tests) (names-within ranks 0 tests (length tests) (omega arith))

  pub no-posts : length tests ≤ n → names_from (sent_names ranks 0 tests) n p ≡ []
  no-posts = none-after (is_from ranks n p) (λ m e. eqb-true m.phase n (and_parts (m.phase == n) _ e).0)

  pub no-awaits : length tests ≤ n → names_to (sent_names ranks 0 tests) n p ≡ []
  no-awaits = none-after (is_to ranks n p) (λ m e. eqb-true m.phase n (and_parts (m.phase == n) _ e).0)

-- The names are by phase

one-phase : (n : ℕ) (ms : List Name) → list_all (λ m. m.phase == n) ms ≡ true → AreByPhase ms
one-phase n [] e = tt
one-phase n (m ∷ ms) e =
    let t = and_parts (m.phase == n) _ e in
    (all-weaker (λ k. k.phase == n) (λ k. nat_le m.phase k.phase) (λ k f. le-leb m.phase k.phase (let a = eqb-true m.phase n t.0 in let b = eqb-true k.phase n f in omega arith)) ms t.1, one-phase n ms t.1)

by-phase-append : (n : ℕ) (xs ys : List Name) → AreByPhase xs → AreByPhase ys → list_all (λ m. m.phase == n) xs ≡ true → list_all (λ m. nat_le n m.phase) ys ≡ true → AreByPhase (xs ++ ys)
by-phase-append n [] ys a b e f = b
by-phase-append n (x ∷ xs) ys a b e f =
    let t = and_parts (x.phase == n) _ e in
    (all-append (λ m. nat_le x.phase m.phase) xs ys a.0 (ap (λ k. list_all (λ m. nat_le k m.phase) ys) (eqb-true x.phase n t.0) ∙ f), by-phase-append n xs ys a.1 b t.1 f)

pub names-by-phase : (ranks phase : ℕ) (tests : List (Name → Bool)) → AreByPhase (sent_names ranks phase tests)
names-by-phase ranks phase [] = tt
names-by-phase ranks phase (t ∷ ts) =
    let here : list_all (λ (m : Name). m.phase == phase) (filter t (all_pairs ranks phase)) ≡ true =
    all-filter _ t (all_pairs ranks phase) (all-weaker (is_pair ranks phase) _ (λ m e. (and_parts (m.phase == phase) _ e).0) (all_pairs ranks phase) (pairs-are ranks phase)) in
    let to : ℕ = (phase + 1) + length ts in
    by-phase-append phase (filter t (all_pairs ranks phase)) (sent_names ranks (phase + 1) ts) (one-phase phase (filter t (all_pairs ranks phase)) here) (names-by-phase ranks (phase + 1) ts) here
    (all-weaker (is_within ranks (phase + 1) to) _
    (λ m e. le-leb phase m.phase (let above = leb-true (phase + 1) m.phase (and_parts (nat_le (phase + 1) m.phase) _ e).0 in omega arith))
    (sent_names ranks (phase + 1) ts) (names-within ranks (phase + 1) ts to (omega arith)))

-- The names ascend

less-phase : (a b : Name) → a.phase < b.phase → name_cmp a b ≡ Less
less-phase a b lt = rw (← nat_cmp_is a.phase b.phase Less lt) refl

less-from : (phase : ℕ) (a b : Name) → a.phase ≡ phase → b.phase ≡ phase → a.from < b.from → name_cmp a b ≡ Less
less-from phase a b at bt lt = rw (← nat_cmp_is a.phase b.phase Equal (at ∙ sym bt), ← nat_cmp_is a.from b.from Less lt) refl

less-to : (phase from : ℕ) (x y : ℕ) → x < y → name_cmp (pair phase from x) (pair phase from y) ≡ Less
less-to phase from x y lt = rw (← nat_cmp_is phase phase Equal refl, ← nat_cmp_is from from Equal refl, ← nat_cmp_is x y Less lt) refl

-- each is below all that pass the test of those behind
below-all : (x : Name) (t : Name → Bool) (ns : List Name) → ((n : Name) → t n ≡ true → name_cmp x n ≡ Less) → list_all t ns ≡ true → AllByRecursion (λ n. name_cmp x n ≡ Less) ns
below-all x t [] less all = tt
below-all x t (n ∷ ns) less all = let p = and_parts (t n) _ all in (less n p.0, below-all x t ns less p.1)

all-below-append : (x : Name) (ms ns : List Name) → AllByRecursion (λ n. name_cmp x n ≡ Less) ms → AllByRecursion (λ n. name_cmp x n ≡ Less) ns → AllByRecursion (λ n. name_cmp x n ≡ Less) (ms ++ ns)
all-below-append x [] ns a b = b
all-below-append x (m ∷ ms) ns a b = (a.0, all-below-append x ms ns a.1 b)

sorted-append : (s t : Name → Bool) → ((m n : Name) → s m ≡ true → t n ≡ true → name_cmp m n ≡ Less) → (ms ns : List Name)
    → list_all s ms ≡ true → list_all t ns ≡ true → IsStrictlySortedBy name_cmp ms → IsStrictlySortedBy name_cmp ns → IsStrictlySortedBy name_cmp (ms ++ ns)
unfolding IsStrictlySortedBy
sorted-append s t less [] ns a b x y = y
sorted-append s t less (m ∷ ms) ns a b x y =
    let p = and_parts (s m) _ a in
    (all-below-append m ms ns x.0 (below-all m t ns (λ n e. less m n p.0 e) b), sorted-append s t less ms ns p.1 b x.1 y)

module _ (ranks phase : ℕ) where
  -- from one rank
  to-above : (p b a k : ℕ) → b < a → list_all (λ n. (n.phase == phase) && ((n.from == p) && nat_lt b n.to)) (map (pair phase p) (but p a k)) ≡ true
  to-above p b a zero lt = refl
  to-above p b a (suc k) lt = go (not (p == a)) (to-above p b (a + 1) k (omega arith))
    where
      go : (t : Bool) → list_all (λ n. (n.phase == phase) && ((n.from == p) && nat_lt b n.to)) (map (pair phase p) (but p (a + 1) k)) ≡ true
          → list_all (λ n. (n.phase == phase) && ((n.from == p) && nat_lt b n.to)) (map (pair phase p) (cond t (a ∷ but p (a + 1) k) (but p (a + 1) k))) ≡ true
      go true more = and_from _ _ (and_from (phase == phase) _ (eq-eqb phase phase refl) (and_from (p == p) _ (eq-eqb p p refl) (lt-ltb b a lt))) more
      go false more = more

  above-less : (p a : ℕ) (n : Name) → ((n.phase == phase) && ((n.from == p) && nat_lt a n.to)) ≡ true → name_cmp (pair phase p a) n ≡ Less
  above-less p a n e =
      let at = and_parts (n.phase == phase) _ e in
      let from = and_parts (n.from == p) _ at.1 in
      let x = eqb-true n.phase phase at.0 in
      let y = eqb-true n.from p from.0 in
      subst (λ m. name_cmp (pair phase p a) m ≡ Less) (λ i. record { phase = sym x i; from = sym y i; to = n.to }) (less-to phase p a n.to (ltb-true a n.to from.1))

  sorted-to : (p a k : ℕ) → IsStrictlySortedBy name_cmp (map (pair phase p) (but p a k))
  unfolding IsStrictlySortedBy
  sorted-to p a zero = tt
  sorted-to p a (suc k) = go (not (p == a)) (sorted-to p (a + 1) k)
    where
      go : (t : Bool) → IsStrictlySortedBy name_cmp (map (pair phase p) (but p (a + 1) k)) → IsStrictlySortedBy name_cmp (map (pair phase p) (cond t (a ∷ but p (a + 1) k) (but p (a + 1) k)))
      go true more = (below-all (pair phase p a) _ _ (above-less p a) (to-above p a (a + 1) k (omega arith)), more)
      go false more = more

  from-is : (p : ℕ) (rs : List ℕ) → list_all (λ n. (n.phase == phase) && (n.from == p)) (map (pair phase p) rs) ≡ true
  from-is p [] = refl
  from-is p (r ∷ rs) = and_from _ _ (and_from (phase == phase) _ (eq-eqb phase phase refl) (eq-eqb p p refl)) (from-is p rs)

  from-above : (b a k : ℕ) → b < a → list_all (λ n. (n.phase == phase) && nat_lt b n.from) (flat_map (to_others ranks phase) (range_with_len a k)) ≡ true
  from-above b a zero lt = refl
  from-above b a (suc k) lt =
      all-append _ (to_others ranks phase a) (flat_map (to_others ranks phase) (range_with_len (a + 1) k))
      (all-weaker (λ n. (n.phase == phase) && (n.from == a)) _ (λ n e. go n e) (to_others ranks phase a) (from-is a (others ranks a)))
      (from-above b (a + 1) k (omega arith))
    where
      go : (n : Name) → ((n.phase == phase) && (n.from == a)) ≡ true → ((n.phase == phase) && nat_lt b n.from) ≡ true
      go n e = grind (arith, nat_tests)

  sorted-run : (a k : ℕ) → IsStrictlySortedBy name_cmp (flat_map (to_others ranks phase) (range_with_len a k))
  unfolding IsStrictlySortedBy
  sorted-run a zero = tt
  sorted-run a (suc k) =
      sorted-append (λ n. (n.phase == phase) && (n.from == a)) (λ n. (n.phase == phase) && nat_lt a n.from)
      (λ m n e f.
      let x = and_parts (m.phase == phase) _ e in
      let y = and_parts (n.phase == phase) _ f in
      let mf = eqb-true m.from a x.1 in
      let nf = ltb-true a n.from y.1 in
      less-from phase m n (eqb-true m.phase phase x.0) (eqb-true n.phase phase y.0) (omega arith))
      (to_others ranks phase a) (flat_map (to_others ranks phase) (range_with_len (a + 1) k))
      (from-is a (others ranks a)) (from-above a (a + 1) k (omega arith)) (sorted-to a 0 ranks) (sorted-run (a + 1) k)

pub names-ascend : (ranks phase : ℕ) (tests : List (Name → Bool)) → IsStrictlySortedBy name_cmp (sent_names ranks phase tests)
unfolding IsStrictlySortedBy
names-ascend ranks phase [] = tt
names-ascend ranks phase (t ∷ ts) =
    let to : ℕ = (phase + 1) + length ts in
    sorted-append (is_pair ranks phase) (is_within ranks (phase + 1) to)
    (λ m n e f.
    let here = eqb-true m.phase phase (and_parts (m.phase == phase) _ e).0 in
    let there = leb-true (phase + 1) n.phase (and_parts (nat_le (phase + 1) n.phase) _ f).0 in
    less-phase m n (omega arith))
    (filter t (all_pairs ranks phase)) (sent_names ranks (phase + 1) ts)
    (all-filter _ t (all_pairs ranks phase) (pairs-are ranks phase)) (names-within ranks (phase + 1) ts to (omega arith))
    (IsStrictlySortedBy-filter name_cmp t (all_pairs ranks phase) (sorted-run ranks phase 0 ranks)) (names-ascend ranks (phase + 1) ts)

-- each goes between two of the ranks in one of the phases
pub between : (ranks : ℕ) (tests : List (Name → Bool)) (n : Name) → stands_in (sent_names ranks 0 tests) n ≡ true
    → (n.phase < length tests) × (n.from < ranks) × (n.to < ranks) × (n.from ≢ n.to)
between ranks tests n s =
    let all = passes (is_within ranks 0 (length tests)) (sent_names ranks 0 tests) (names-within ranks 0 tests (length tests) (omega arith)) n s in
    let a = and_parts (nat_le 0 n.phase) _ all in
    let b = and_parts (nat_lt n.phase (length tests)) _ a.1 in
    let d = and_parts (nat_lt n.from ranks) _ b.1 in
    let e = and_parts (nat_lt n.to ranks) _ d.1 in
    (ltb-true n.phase (length tests) b.0, ltb-true n.from ranks d.0, ltb-true n.to ranks e.0, apart n.from n.to e.1)
  where
    apart : (x y : ℕ) → not (x == y) ≡ true → x ≢ y
    apart x y h is = let same = eq-eqb x y is in both_ways (x == y) (not-true (x == y) h) same
