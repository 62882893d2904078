-- The cyclic layout: the rank of an index is its remainder, and a rank's indices are at equal distances.
use Rattle.std.proofs.Common.{◌≡◌, ℕ, zero, suc, ◌+◌, ◌*◌, ◌/◌, ◌%◌, ◌<◌, ◌≤◌, Bool, true, false, ◌==◌, cond, List, [], ◌∷◌, ◌++◌, filter, map, length, Some, inl, inr, refl, sym, ap, ◌∙◌, subst, arith}
use Rattle.std.specs.List.{concat, range_with_len}
use Rattle.std.proofs.lemmas.Bool.{cases_Bool, cases_lt, cases_eq, eq-eqb, eqb-true, or_cases}
use Rattle.std.proofs.lemmas.Bool.Decides.{nat_tests}
use Rattle.std.proofs.lemmas.List.{append-nil, get_or_past, map-append}
use Rattle.std.proofs.lemmas.List.Elements.{filter-append}
use Rattle.std.proofs.lemmas.List.FromFn.{get_or-map-range_with_len, length-map-range_with_len, map-range_with_len_more}
use Rattle.std.proofs.lemmas.Nat.{div-mul-add, mod-mul-add, mod_below}
use Rattle.std.proofs.Math.Nat.{div-add-mod}
use Rattle.map_core.specs.Layouts.{stands, AreDistinct, rank_list, owner, IsLayout, IsOneToOne, IsTotal}
use Rattle.map_core.specs.Uniform.{uniform_count}
use Rattle.map_core.specs.Cyclic.{cyclic_list, cyclic_layout}
use Rattle.map_core.specs.Strides.{stride_list}
use Rattle.map_core.proofs.Members.{and_true, both_true, stands-append, stands-concat, stands-filter, AreDistinct-filter, AreDistinct-append}
use Rattle.map_core.proofs.Owners.{owner_from-only}
use Rattle.map_core.proofs.Runs.{stands_in_run, within_run, AreDistinct-run, run-push}
use Rattle.map_core.proofs.Strides.{length-stride, stride-push}

-- quotient and remainder of the next number
pub record IsNext (P n : ℕ) : Type 0 where
  pub by_one : n % P + 1 < P → (suc n / P ≡ n / P) × (suc n % P ≡ n % P + 1)
  pub over : n % P + 1 ≡ P → (suc n / P ≡ n / P + 1) × (suc n % P ≡ 0)

pub next : (P n : ℕ) → 0 < P → IsNext P n
next P n some = record { by_one = by_one; over = over }
  where
    by_one : n % P + 1 < P → (suc n / P ≡ n / P) × (suc n % P ≡ n % P + 1)
    by_one h =
        let sum : suc n ≡ n / P * P + (n % P + 1) = omega (arith, div-add-mod n P) in
        (ap (λ x. x / P) sum ∙ div-mul-add (n / P) P (n % P + 1) h, ap (λ x. x % P) sum ∙ mod-mul-add (n / P) P (n % P + 1) h)

    over : n % P + 1 ≡ P → (suc n / P ≡ n / P + 1) × (suc n % P ≡ 0)
    over h =
        let sum : suc n ≡ (n / P + 1) * P + 0 = omega (arith, div-add-mod n P) in
        (ap (λ x. x / P) sum ∙ div-mul-add (n / P + 1) P 0 some, ap (λ x. x % P) sum ∙ mod-mul-add (n / P + 1) P 0 some)

-- an index more goes to the rank of its remainder
pub count_same : (P n p : ℕ) → p < P → n % P ≡ p → uniform_count P (suc n) p ≡ suc (uniform_count P n p)
count_same P n p h at = elim (cases_eq (n % P + 1) P) [
  | inl last ↦ let e = (next P n (omega arith)).over last in let quotient = e.0 in let remainder = e.1 in grind (arith, nat_tests)
  | inr more ↦
      let below : n % P + 1 < P = let b = mod_below n P (omega arith) in omega arith in
      let e = (next P n (omega arith)).by_one below in let quotient = e.0 in let remainder = e.1 in grind (arith, nat_tests)
]

pub count_other : (P n p : ℕ) → p < P → (n % P ≡ p → ⊥) → uniform_count P (suc n) p ≡ uniform_count P n p
count_other P n p h off = elim (cases_eq (n % P + 1) P) [
  | inl last ↦ let e = (next P n (omega arith)).over last in let quotient = e.0 in let remainder = e.1 in grind (arith, nat_tests)
  | inr more ↦
      let below : n % P + 1 < P = let b = mod_below n P (omega arith) in omega arith in
      let e = (next P n (omega arith)).by_one below in let quotient = e.0 in let remainder = e.1 in grind (arith, nat_tests)
]

-- the index of this remainder that comes next
pub next_of_rank : (P n p : ℕ) → n % P ≡ p → p + uniform_count P n p * P ≡ n
next_of_rank P n p at = ap (λ c. p + c * P) count ∙ omega (arith, div-add-mod n P)
  where
    count : uniform_count P n p ≡ n / P
    count = grind (arith, nat_tests)

-- what a test makes of one number
filter_passes : (test : ℕ → Bool) (x y : ℕ) → x ≡ y → test y ≡ true → filter test (x ∷ []) ≡ y ∷ []
filter_passes test x y same h = ap (λ z. filter test (z ∷ [])) same ∙ ap (λ b. cond b (y ∷ []) []) h

filter_fails : (test : ℕ → Bool) (x y : ℕ) → x ≡ y → test y ≡ false → filter test (x ∷ []) ≡ []
filter_fails test x y same h = ap (λ z. filter test (z ∷ [])) same ∙ ap (λ b. cond b (y ∷ []) []) h

-- the indices of a rank are at distance P, and as many as in the uniform layout
pub cyclic-stride : (P n p : ℕ) → p < P → cyclic_list P n p ≡ stride_list p P (uniform_count P n p)
cyclic-stride P zero p h = ap (stride_list p P) none
  where
    none : 0 ≡ uniform_count P 0 p
    none = grind (arith, nat_tests)
cyclic-stride P (suc n) p h =
    ap (λ xs. filter test xs) (ap (λ k. range_with_len 0 k) one ∙ run-push 0 n)
    ∙ filter-append test (range_with_len 0 n) ((0 + n) ∷ [])
    ∙ ap (λ xs. xs ++ filter test ((0 + n) ∷ [])) (cyclic-stride P n p h)
    ∙ elim (cases_eq (n % P) p) [ inl here ↦ on here | inr other ↦ off other ]
  where
    test : ℕ → Bool
    test g = (g % P) == p

    one : suc n ≡ n + 1
    one = omega arith

    start : 0 + n ≡ n
    start = omega arith

    on : n % P ≡ p → stride_list p P (uniform_count P n p) ++ filter test ((0 + n) ∷ []) ≡ stride_list p P (uniform_count P (suc n) p)
    on here =
        ap (λ ys. stride_list p P (uniform_count P n p) ++ ys) (filter_passes test (0 + n) n start (eq-eqb (n % P) p here))
        ∙ ap (λ y. stride_list p P (uniform_count P n p) ++ y ∷ []) (sym (next_of_rank P n p here))
        ∙ sym (stride-push p P (uniform_count P n p))
        ∙ ap (stride_list p P) (sym (count_same P n p h here))

    off : (n % P ≡ p → ⊥) → stride_list p P (uniform_count P n p) ++ filter test ((0 + n) ∷ []) ≡ stride_list p P (uniform_count P (suc n) p)
    off other =
        ap (λ ys. stride_list p P (uniform_count P n p) ++ ys) (filter_fails test (0 + n) n start (grind (arith, nat_tests)))
        ∙ append-nil (stride_list p P (uniform_count P n p))
        ∙ ap (stride_list p P) (sym (count_other P n p h other))

pub rank_list-cyclic : (P n p : ℕ) → p < P → rank_list (cyclic_layout P n) p ≡ cyclic_list P n p
rank_list-cyclic P n p h = get_or-map-range_with_len (cyclic_list P n) 0 P p p [] h (omega arith)

pub length-cyclic : (P n : ℕ) → length (cyclic_layout P n).lists ≡ P
length-cyclic P n = length-map-range_with_len (cyclic_list P n) 0 P

pub length-rank_list-cyclic : (P n p : ℕ) → p < P → length (rank_list (cyclic_layout P n) p) ≡ uniform_count P n p
length-rank_list-cyclic P n p h =
    ap length (rank_list-cyclic P n p h ∙ cyclic-stride P n p h) ∙ length-stride p P (uniform_count P n p)

-- what stands in the list of a rank is below the size and has that remainder
pub in_cyclic : (P n p g : ℕ) → stands g (cyclic_list P n p) ≡ true → (g < n) × (g % P ≡ p)
in_cyclic P n p g h =
    let both = and_true (stands g (range_with_len 0 n)) ((g % P) == p) (sym (stands-filter g (λ x. (x % P) == p) (range_with_len 0 n)) ∙ h) in
    let run = within_run g 0 n both.0 in
    (omega arith, eqb-true (g % P) p both.1)

pub stands_cyclic : (P n g : ℕ) → g < n → stands g (cyclic_list P n (g % P)) ≡ true
stands_cyclic P n g h =
    stands-filter g (λ x. (x % P) == (g % P)) (range_with_len 0 n)
    ∙ both_true (stands g (range_with_len 0 n)) ((g % P) == (g % P)) (stands_in_run g 0 n (omega arith) (omega arith)) (eq-eqb (g % P) (g % P) refl)

-- the list of a rank, also where there is no such rank
pub in_rank_list-cyclic : (P n p g : ℕ) → stands g (rank_list (cyclic_layout P n) p) ≡ true → (g < n) × (g % P ≡ p)
in_rank_list-cyclic P n p g h = elim (cases_lt p P) [
  | inl within ↦ in_cyclic P n p g (sym (ap (stands g) (rank_list-cyclic P n p within)) ∙ h)
  | inr past ↦
      let outside : length (cyclic_layout P n).lists ≤ p = let many = length-cyclic P n in omega arith in
      let none : rank_list (cyclic_layout P n) p ≡ [] = get_or_past (cyclic_layout P n).lists p [] outside in
      let off : stands g (rank_list (cyclic_layout P n) p) ≡ false = ap (stands g) none in
      absurd (cc)
]

pub distinct-cyclic : (P n p : ℕ) → AreDistinct (rank_list (cyclic_layout P n) p)
distinct-cyclic P n p = elim (cases_lt p P) [
  | inl within ↦ subst AreDistinct (sym (rank_list-cyclic P n p within)) (AreDistinct-filter (λ g. (g % P) == p) (range_with_len 0 n) (AreDistinct-run 0 n))
  | inr past ↦
      let outside : length (cyclic_layout P n).lists ≤ p = let many = length-cyclic P n in omega arith in
      subst AreDistinct (sym (get_or_past (cyclic_layout P n).lists p [] outside)) tt
]

pub is_layout-cyclic : (P n : ℕ) → IsLayout (cyclic_layout P n)
is_layout-cyclic P n = record { distinct = distinct-cyclic P n; below = λ p g h. (in_rank_list-cyclic P n p g h).0 }

-- the lists of the ranks from a on have remainders from a on
later_remainders : (P n a k g : ℕ) → stands g (concat (map (cyclic_list P n) (range_with_len a k))) ≡ true → a ≤ g % P
later_remainders P n a zero g h = absurd (cc)
later_remainders P n a (suc k) g h =
    elim (or_cases (stands g (cyclic_list P n a)) (stands g (concat (map (cyclic_list P n) (range_with_len (a + 1) k)))) (sym (stands-append g (cyclic_list P n a) (concat (map (cyclic_list P n) (range_with_len (a + 1) k)))) ∙ h)) [
      | inl here ↦ let at = (in_cyclic P n a g here).1 in omega arith
      | inr there ↦ let rest = later_remainders P n (a + 1) k g there in omega arith
    ]

distinct_from : (P n a k : ℕ) → AreDistinct (concat (map (cyclic_list P n) (range_with_len a k)))
distinct_from P n a zero = tt
distinct_from P n a (suc k) =
    AreDistinct-append (cyclic_list P n a) (concat (map (cyclic_list P n) (range_with_len (a + 1) k)))
    (AreDistinct-filter (λ g. (g % P) == a) (range_with_len 0 n) (AreDistinct-run 0 n))
    (distinct_from P n (a + 1) k)
    (λ g here. elim (cases_Bool (stands g (concat (map (cyclic_list P n) (range_with_len (a + 1) k))))) [
      | inl there ↦
          let at : g % P ≡ a = (in_cyclic P n a g here).1 in
          let later : a + 1 ≤ g % P = later_remainders P n (a + 1) k g there in
          absurd (omega arith)
      | inr off ↦ off
    ])

pub one_to_one-cyclic : (P n : ℕ) → IsOneToOne (cyclic_layout P n)
one_to_one-cyclic P n = distinct_from P n 0 P

-- an index stands in the list of its remainder
pub stands_at_remainder : (P n g : ℕ) → 0 < P → g < n → stands g (rank_list (cyclic_layout P n) (g % P)) ≡ true
stands_at_remainder P n g some h = ap (stands g) (rank_list-cyclic P n (g % P) (mod_below g P some)) ∙ stands_cyclic P n g h

pub total-cyclic : (P n : ℕ) → 0 < P → IsTotal (cyclic_layout P n)
total-cyclic P n some g h = stands-concat g (cyclic_layout P n).lists (g % P) (stands_at_remainder P n g some h)

pub owner-cyclic : (P n g : ℕ) → 0 < P → g < n → owner (cyclic_layout P n) g ≡ Some (g % P)
owner-cyclic P n g some h =
    owner_from-only 0 (cyclic_layout P n).lists g (g % P) (one_to_one-cyclic P n) (stands_at_remainder P n g some h)
    ∙ ap Some (omega arith)

-- the maps of the first k ranks, after the map of rank k is pushed
pub cyclic_push : {X : Type 0} (value : X → List ℕ) (P n k count : ℕ) (before after : List X) (x : X)
    → k < P → after ≡ before ++ x ∷ [] → map value before ≡ map (cyclic_list P n) (range_with_len 0 k)
    → value x ≡ stride_list k P count → count ≡ uniform_count P n k
    → map value after ≡ map (cyclic_list P n) (range_with_len 0 (k + 1))
cyclic_push value P n k count before after x known pushed kept run many =
    ap (map value) pushed
    ∙ map-append value before (x ∷ [])
    ∙ ap (λ ls. ls ++ value x ∷ []) kept
    ∙ ap (λ l. map (cyclic_list P n) (range_with_len 0 k) ++ l ∷ []) (run ∙ ap (stride_list k P) many ∙ sym (cyclic-stride P n k known))
    ∙ sym (map-range_with_len_more (cyclic_list P n) 0 k k (omega arith))
