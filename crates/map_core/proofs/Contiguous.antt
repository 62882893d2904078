-- The contiguous uniform layout: consecutive ranks have consecutive runs, which cover all indices.
use Rattle.std.proofs.Common.{◌≡◌, ℕ, zero, suc, ◌+◌, ◌-◌, ◌*◌, ◌/◌, ◌%◌, ◌<◌, ◌≤◌, true, false, [], ◌++◌, map, length, Some, inl, inr, sym, ap, ◌∙◌, subst, arith, List, ◌∷◌}
use Rattle.std.specs.List.{concat, range_with_len}
use Rattle.std.proofs.lemmas.Bool.{cases_lt}
use Rattle.std.proofs.lemmas.Bool.Decides.{nat_tests}
use Rattle.std.proofs.lemmas.List.{get_or_past, map-append}
use Rattle.std.proofs.lemmas.List.FromFn.{map-range_with_len_more, get_or-map-range_with_len, length-map-range_with_len, length-range_with_len}
use Rattle.std.proofs.lemmas.Nat.{div_below}
use Rattle.std.proofs.Math.Nat.{add-mul, div-add-mod, mul-le-mul_right}
use Rattle.map_core.specs.Layouts.{stands, AreDistinct, rank_list, owner, IsLayout, IsOneToOne, IsTotal}
use Rattle.map_core.specs.Uniform.{uniform_count, uniform_first, uniform_list, uniform_layout}
use Rattle.map_core.proofs.Owners.{owner-has, owner_from-only}
use Rattle.map_core.proofs.Runs.{stands_in_run, within_run, AreDistinct-run, run-append}
use Rattle.map_core.specs.Strides.{stride_list}
use Rattle.map_core.proofs.Strides.{stride-run}

pub first_next : (P n p : ℕ) → uniform_first P n (p + 1) ≡ uniform_first P n p + uniform_count P n p
first_next P n p = grind (arith, nat_tests)

pub first_zero : (P n : ℕ) → uniform_first P n 0 ≡ 0
first_zero P n = omega arith

-- the ranks have all indices
pub first_end : (P n : ℕ) → 0 < P → uniform_first P n P ≡ n
first_end P n some = omega (arith, div-add-mod n P)

pub first_le : (P n p q : ℕ) → p ≤ q → uniform_first P n p ≤ uniform_first P n q
first_le P n p q h = omega (arith, mul-le-mul_right (n / P) h)

-- the runs of the ranks from a on, one after another, are one run
pub runs_joined : (P n a k m : ℕ) → uniform_first P n a + m ≡ uniform_first P n (a + k) → concat (map (uniform_list P n) (range_with_len a k)) ≡ range_with_len (uniform_first P n a) m
runs_joined P n a zero m h = ap (λ j. range_with_len (uniform_first P n a) j) none
  where
    none : 0 ≡ m
    none = let same : uniform_first P n (a + 0) ≡ uniform_first P n a = ap (uniform_first P n) (omega arith) in omega arith
runs_joined P n a (suc k) m h =
    ap (λ xs. uniform_list P n a ++ xs) (runs_joined P n (a + 1) k rest later ∙ ap (λ x. range_with_len x rest) (first_next P n a))
    ∙ run-append (uniform_first P n a) (uniform_count P n a) rest
    ∙ ap (range_with_len (uniform_first P n a)) whole
  where
    -- how many indices the ranks after a have
    rest : ℕ
    rest = m - uniform_count P n a

    same : uniform_first P n (a + suc k) ≡ uniform_first P n (a + 1 + k)
    same = ap (uniform_first P n) (omega arith)

    enough : uniform_first P n (a + 1) ≤ uniform_first P n (a + 1 + k)
    enough = first_le P n (a + 1) (a + 1 + k) (omega arith)

    later : uniform_first P n (a + 1) + (m - uniform_count P n a) ≡ uniform_first P n (a + 1 + k)
    later = let next = first_next P n a in omega arith

    whole : uniform_count P n a + (m - uniform_count P n a) ≡ m
    whole = let next = first_next P n a in omega arith

-- the lists of all ranks, one after another, are all indices in order
pub joined : (P n : ℕ) → 0 < P → concat (uniform_layout P n).lists ≡ range_with_len 0 n
joined P n some = runs_joined P n 0 P n all ∙ ap (λ x. range_with_len x n) (first_zero P n)
  where
    last : uniform_first P n (0 + P) ≡ uniform_first P n P
    last = ap (uniform_first P n) (omega arith)

    all : uniform_first P n 0 + n ≡ uniform_first P n (0 + P)
    all = let first = first_zero P n in let end = first_end P n some in omega arith

pub rank_list-uniform : (P n p : ℕ) → p < P → rank_list (uniform_layout P n) p ≡ uniform_list P n p
rank_list-uniform P n p h = get_or-map-range_with_len (uniform_list P n) 0 P p p [] h (omega arith)

pub one_to_one : (P n : ℕ) → 0 < P → IsOneToOne (uniform_layout P n)
one_to_one P n some = subst AreDistinct (sym (joined P n some)) (AreDistinct-run 0 n)

pub total : (P n : ℕ) → 0 < P → IsTotal (uniform_layout P n)
total P n some g h = ap (stands g) (joined P n some) ∙ stands_in_run g 0 n (omega arith) (omega arith)

-- the rank in whose run an index is owns it
pub owner-uniform : (P n g p : ℕ) → p < P → uniform_first P n p ≤ g → g < uniform_first P n p + uniform_count P n p → owner (uniform_layout P n) g ≡ Some p
owner-uniform P n g p h low high =
    owner_from-only 0 (uniform_layout P n).lists g p (one_to_one P n (omega arith))
    (ap (stands g) (rank_list-uniform P n p h) ∙ stands_in_run g (uniform_first P n p) (uniform_count P n p) low high)
    ∙ ap Some (omega arith)

-- past the ranks that have one index more, each rank has q of them
later : (P q r g : ℕ) → r < P → r * (q + 1) ≤ g → g < P * q + r → 0 < q → r + (g - r * (q + 1)) / q < P
later P q r g h low high some =
    let split : P * q ≡ r * q + (P - r) * q = ap (λ k. k * q) both ∙ add-mul r (P - r) q in
    let below : g - r * (q + 1) < (P - r) * q = omega arith in
    let rank = div_below (g - r * (q + 1)) q (P - r) some below in
    omega arith
  where
    both : P ≡ r + (P - r)
    both = omega arith

each_has_one : (P q r g : ℕ) → r * (q + 1) ≤ g → g < P * q + r → 0 < q
each_has_one P zero r g low high = absurd (omega arith)
each_has_one P (suc q) r g low high = omega arith

pub later_below : (P n g : ℕ) → 0 < P → n % P * (n / P + 1) ≤ g → g < n → n % P + (g - n % P * (n / P + 1)) / (n / P) < P
later_below P n g some low high =
    let within : g < P * (n / P) + n % P = omega (arith, div-add-mod n P) in
    later P (n / P) (n % P) g (omega arith) low within (each_has_one P (n / P) (n % P) g low within)

pub length-uniform : (P n : ℕ) → length (uniform_layout P n).lists ≡ P
length-uniform P n = length-map-range_with_len (uniform_list P n) 0 P

pub length-rank_list-uniform : (P n p : ℕ) → p < P → length (rank_list (uniform_layout P n) p) ≡ uniform_count P n p
length-rank_list-uniform P n p h =
    ap length (rank_list-uniform P n p h) ∙ length-range_with_len (uniform_first P n p) (uniform_count P n p)

-- what stands in the list of a rank is within its run
pub record IsWithin (P n p g : ℕ) : Type 0 where
  pub rank : p < P
  pub low : uniform_first P n p ≤ g
  pub high : g < uniform_first P n (p + 1)

pub within_uniform : (P n p g : ℕ) → stands g (rank_list (uniform_layout P n) p) ≡ true → IsWithin P n p g
within_uniform P n p g h = elim (cases_lt p P) [
  | inl within ↦
      let run = within_run g (uniform_first P n p) (uniform_count P n p) (sym (ap (stands g) (rank_list-uniform P n p within)) ∙ h) in
      let next = first_next P n p in
      record { rank = within; low = omega arith; high = omega arith }
  | inr past ↦
      let lists = (uniform_layout P n).lists in
      let outside : length lists ≤ p = let many = length-uniform P n in omega arith in
      let none : rank_list (uniform_layout P n) p ≡ [] = get_or_past lists p [] outside in
      let off : stands g (rank_list (uniform_layout P n) p) ≡ false = ap (stands g) none in
      absurd (cc)
]

pub distinct-uniform : (P n p : ℕ) → AreDistinct (rank_list (uniform_layout P n) p)
distinct-uniform P n p = elim (cases_lt p P) [
  | inl within ↦ subst AreDistinct (sym (rank_list-uniform P n p within)) (AreDistinct-run (uniform_first P n p) (uniform_count P n p))
  | inr past ↦
      let outside : length (uniform_layout P n).lists ≤ p = let many = length-uniform P n in omega arith in
      subst AreDistinct (sym (get_or_past (uniform_layout P n).lists p [] outside)) tt
]

pub is_layout-uniform : (P n : ℕ) → 0 < P → IsLayout (uniform_layout P n)
is_layout-uniform P n some = record { distinct = distinct-uniform P n; below = below }
  where
    below : (p g : ℕ) → stands g (rank_list (uniform_layout P n) p) ≡ true → g < n
    below p g h =
        let w = within_uniform P n p g h in
        let end = first_end P n some in
        let before : uniform_first P n (p + 1) ≤ uniform_first P n P = first_le P n (p + 1) P (let r = w.rank in omega arith) in
        let high = w.high in
        omega arith

-- the indices of a rank are below those of a later one
pub consecutive : (P n p q g h : ℕ) → p < q → stands g (rank_list (uniform_layout P n) p) ≡ true → stands h (rank_list (uniform_layout P n) q) ≡ true → g < h
consecutive P n p q g h later at there =
    let high = (within_uniform P n p g at).high in
    let low = (within_uniform P n q h there).low in
    let before = first_le P n (p + 1) q (omega arith) in
    omega arith

pub monotone : (P n i j p q : ℕ) → i ≤ j → owner (uniform_layout P n) i ≡ Some p → owner (uniform_layout P n) j ≡ Some q → p ≤ q
monotone P n i j p q h a b = elim (cases_lt q p) [
  | inl falls ↦
      let off = consecutive P n q p j i falls (owner-has (uniform_layout P n) j q b) (owner-has (uniform_layout P n) i p a) in
      absurd (omega arith)
  | inr rises ↦ rises
]

-- the maps of the first k ranks, after the map of rank k is pushed
pub lists_push : {X : Type 0} (value : X → List ℕ) (P n k first count : ℕ) (before after : List X) (x : X)
    → after ≡ before ++ x ∷ [] → map value before ≡ map (uniform_list P n) (range_with_len 0 k)
    → value x ≡ stride_list first 1 count → first ≡ uniform_first P n k → count ≡ uniform_count P n k
    → map value after ≡ map (uniform_list P n) (range_with_len 0 (k + 1))
lists_push value P n k first count before after x pushed kept run at many =
    ap (map value) pushed
    ∙ map-append value before (x ∷ [])
    ∙ ap (λ ls. ls ++ value x ∷ []) kept
    ∙ ap (λ l. map (uniform_list P n) (range_with_len 0 k) ++ l ∷ []) (run ∙ stride-run first count ∙ ap (λ a. range_with_len a count) at ∙ ap (range_with_len (uniform_first P n k)) many)
    ∙ sym (map-range_with_len_more (uniform_list P n) 0 k k (omega arith))

-- the last index of a rank is below the size, so it fits where the size does
pub first_room : (P n p : ℕ) → 0 < P → p < P → uniform_first P n p + uniform_count P n p ≤ n
first_room P n p some h =
    let next = first_next P n p in
    let before : uniform_first P n (p + 1) ≤ uniform_first P n P = first_le P n (p + 1) P (omega arith) in
    let end = first_end P n some in
    omega arith
