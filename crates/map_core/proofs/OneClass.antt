-- Each position is in exactly one class.
use Rattle.std.proofs.Common.{◌≡◌, ℕ, zero, suc, ◌+◌, ◌<◌, ◌≤◌, Bool, true, false, ◌&&◌, ◌||◌, ◌==◌, not, cond, List, ◌∷◌, map, length, Option, None, Some, nat_le, nat_lt, inl, inr, refl, ap, ◌∙◌, arith}
use Rattle.std.specs.List.{count_by, filter, range_with_len}
use Rattle.std.specs.Option.{is_none}
use Rattle.std.proofs.lemmas.Bool.{cases_Bool, cases_eq, cases_lt, eq-eqb, ne_eqb}
use Rattle.std.proofs.lemmas.Bool.Decides.{nat_tests}
use Rattle.std.proofs.lemmas.List.Sums.{sum_by-cons}
use Rattle.map_core.specs.Layouts.{stands}
use Rattle.map_core.specs.Classes.{index_at, same_count, is_permuted, is_lacked, owns, owner_at, permuted, lacked_positions, unowned, AreOwners}
use Rattle.map_core.proofs.Classes.{stands-same}
use Rattle.map_core.proofs.Runs.{stands_in_run, past_run}

-- what is before the numbers that pass a test is not among them
filter-before : (p : ℕ → Bool) (a m l : ℕ) → l < a → stands l (filter p (range_with_len a m)) ≡ false
filter-before p a zero l h = refl
filter-before p a (suc m) l h =
    first (p a) (filter p (range_with_len (a + 1) m)) (grind (arith, nat_tests)) (filter-before p (a + 1) m l (omega arith))
  where
    first : (b : Bool) (ls : List ℕ) → (a == l) ≡ false → stands l ls ≡ false → stands l (cond b (a ∷ ls) ls) ≡ false
    first true ls e off = ap (λ b. b || stands l ls) e ∙ off
    first false ls e off = off

-- a number stands among those that pass a test where it passes
pub stands-filter : (p : ℕ → Bool) (a m l : ℕ) → a ≤ l → l < a + m → stands l (filter p (range_with_len a m)) ≡ p l
stands-filter p a zero l low high = absurd (omega arith)
stands-filter p a (suc m) l low high = elim (cases_eq a l) [
  | inl e ↦ here (p a) (filter p (range_with_len (a + 1) m)) e (filter-before p (a + 1) m l (omega arith)) ∙ ap p e
  | inr e ↦ there (p a) (filter p (range_with_len (a + 1) m)) (ne_eqb a l e) ∙ stands-filter p (a + 1) m l (let other = e in omega arith) (omega arith)
]
  where
    here : (b : Bool) (ls : List ℕ) → a ≡ l → stands l ls ≡ false → stands l (cond b (a ∷ ls) ls) ≡ b
    here true ls e off = ap (λ b. b || stands l ls) (eq-eqb a l e)
    here false ls e off = off

    there : (b : Bool) (ls : List ℕ) → (a == l) ≡ false → stands l (cond b (a ∷ ls) ls) ≡ stands l ls
    there true ls e = ap (λ b. b || stands l ls) e
    there false ls e = refl

never : (b : Bool) → (b && false) ≡ false
never true = refl
never false = refl

-- one more list
count-cons : (l : ℕ) (x : List ℕ) (xs : List (List ℕ)) (b : Bool) (k : ℕ) → stands l x ≡ b → count_by (stands l) xs ≡ k → count_by (stands l) (x ∷ xs) ≡ cond b 1 0 + k
count-cons l x xs b k e ek = sum_by-cons (λ x. cond (stands l x) 1 0) x xs ∙ (λ t. cond (e t) 1 0 + ek t)

-- in how many of the lists of ranks a number stands, where none has it, and where one has it
count-none : (l : ℕ) (f : ℕ → List ℕ) (a m : ℕ) → ((q : ℕ) → stands l (f q) ≡ false) → count_by (stands l) (map f (range_with_len a m)) ≡ 0
count-none l f a zero h = refl
count-none l f a (suc m) h = count-cons l (f a) (map f (range_with_len (a + 1) m)) false 0 (h a) (count-none l f (a + 1) m h)

count-past : (l p : ℕ) (f : ℕ → List ℕ) (a m : ℕ) → p < a → ((q : ℕ) → stands l (f q) ≡ (p == q)) → count_by (stands l) (map f (range_with_len a m)) ≡ 0
count-past l p f a zero h only = refl
count-past l p f a (suc m) h only = count-cons l (f a) (map f (range_with_len (a + 1) m)) false 0 (only a ∙ other) (count-past l p f (a + 1) m (omega arith) only)
  where
    other : (p == a) ≡ false
    other = grind (arith, nat_tests)

count-one : (l p : ℕ) (f : ℕ → List ℕ) (a m : ℕ) → a ≤ p → p < a + m → ((q : ℕ) → stands l (f q) ≡ (p == q)) → count_by (stands l) (map f (range_with_len a m)) ≡ 1
count-one l p f a zero low high only = absurd (omega arith)
count-one l p f a (suc m) low high only = elim (cases_eq p a) [
  | inl e ↦ count-cons l (f a) (map f (range_with_len (a + 1) m)) true 0 (only a ∙ eq-eqb p a e) (count-past l p f (a + 1) m (omega arith) only)
  | inr e ↦ count-cons l (f a) (map f (range_with_len (a + 1) m)) false 1 (only a ∙ ne_eqb p a e) (count-one l p f (a + 1) m (let other = e in omega arith) (omega arith) only)
]

-- the position l stands in the classes by these tests
four : (l : ℕ) (ns bs cs : List ℕ) (ls : List (List ℕ)) (a b c : Bool) (k : ℕ) → stands l ns ≡ a → stands l bs ≡ b → stands l cs ≡ c → count_by (stands l) ls ≡ k
    → count_by (stands l) (ns ∷ bs ∷ cs ∷ ls) ≡ cond a 1 0 + (cond b 1 0 + (cond c 1 0 + k))
four l ns bs cs ls a b c k ea eb ec ek =
    count-cons l ns (bs ∷ cs ∷ ls) a (cond b 1 0 + (cond c 1 0 + k)) ea
    (count-cons l bs (cs ∷ ls) b (cond c 1 0 + k) eb (count-cons l cs ls c k ec ek))

module _ (me P : ℕ) (held xs : List ℕ) (owners : List (Option ℕ)) (owned : AreOwners me P held xs owners) (l : ℕ) (within : l < length xs) where
  -- whether the position is in each class
  same_is : (b : Bool) → nat_lt l (same_count held xs) ≡ b → stands l (range_with_len 0 (same_count held xs)) ≡ b
  same_is true h = stands_in_run l 0 (same_count held xs) (omega arith) (grind (arith, nat_tests))
  same_is false h = past_run l 0 (same_count held xs) (grind (arith, nat_tests))

  permuted_is : (b c : Bool) → nat_le (same_count held xs) l ≡ b → stands (index_at xs l) held ≡ c → stands l (permuted held xs) ≡ (b && c)
  permuted_is b c e f = stands-filter (is_permuted held xs) 0 (length xs) l (omega arith) (omega arith) ∙ (λ t. e t && f t)

  unowned_is : (b c : Bool) → stands (index_at xs l) held ≡ b → is_none (owner_at owners l) ≡ c → stands l (unowned held xs owners) ≡ (not b && c)
  unowned_is b c e f = stands-filter (λ l. not (stands (index_at xs l) held) && is_none (owner_at owners l)) 0 (length xs) l (omega arith) (omega arith) ∙ (λ t. not (e t) && f t)

  lacked_is : (b : Bool) (o : Option ℕ) (q : ℕ) → stands (index_at xs l) held ≡ b → owner_at owners l ≡ o → stands l (lacked_positions held xs owners q) ≡ (not b && owns o q)
  lacked_is b o q e f = stands-filter (is_lacked held xs owners q) 0 (length xs) l (omega arith) (omega arith) ∙ (λ t. not (e t) && owns (f t) q)

  abbrev pub in_one : List (List ℕ) → Type 0
  in_one ls = count_by (stands l) (range_with_len 0 (same_count held xs) ∷ permuted held xs ∷ unowned held xs owners ∷ ls) ≡ 1

  held_class : stands (index_at xs l) held ≡ true → in_one (map (lacked_positions held xs owners) (range_with_len 0 P))
  held_class on = elim (cases_lt l (same_count held xs)) [
    | inl low ↦
        four l (range_with_len 0 (same_count held xs)) (permuted held xs) (unowned held xs owners) (map (lacked_positions held xs owners) (range_with_len 0 P)) true false false 0
        (same_is true (grind (arith, nat_tests)))
        (permuted_is false true (grind (arith, nat_tests)) on)
        (unowned_is true (is_none (owner_at owners l)) on refl)
        (count-none l (lacked_positions held xs owners) 0 P (λ q. lacked_is true (owner_at owners l) q on refl))
    | inr high ↦
        four l (range_with_len 0 (same_count held xs)) (permuted held xs) (unowned held xs owners) (map (lacked_positions held xs owners) (range_with_len 0 P)) false true false 0
        (same_is false (grind (arith, nat_tests)))
        (permuted_is true true (grind (arith, nat_tests)) on)
        (unowned_is true (is_none (owner_at owners l)) on refl)
        (count-none l (lacked_positions held xs owners) 0 P (λ q. lacked_is true (owner_at owners l) q on refl))
  ]

  past_same : stands (index_at xs l) held ≡ false → same_count held xs ≤ l
  past_same off = elim (cases_lt l (same_count held xs)) [
    | inl low ↦ let on = stands-same held xs l low in absurd (cc)
    | inr high ↦ high
  ]

  lacked_class : (o : Option ℕ) → owner_at owners l ≡ o → stands (index_at xs l) held ≡ false → in_one (map (lacked_positions held xs owners) (range_with_len 0 P))
  lacked_class None e off =
      let past = past_same off in
      four l (range_with_len 0 (same_count held xs)) (permuted held xs) (unowned held xs owners) (map (lacked_positions held xs owners) (range_with_len 0 P)) false false true 0
      (same_is false (grind (arith, nat_tests)))
      (permuted_is (nat_le (same_count held xs) l) false refl off ∙ never (nat_le (same_count held xs) l))
      (unowned_is false true off (ap is_none e))
      (count-none l (lacked_positions held xs owners) 0 P (λ q. lacked_is false None q off e))
  lacked_class (Some p) e off =
      let past = past_same off in
      let below : p < P = owned.below l p e in
      four l (range_with_len 0 (same_count held xs)) (permuted held xs) (unowned held xs owners) (map (lacked_positions held xs owners) (range_with_len 0 P)) false false false 1
      (same_is false (grind (arith, nat_tests)))
      (permuted_is (nat_le (same_count held xs) l) false refl off ∙ never (nat_le (same_count held xs) l))
      (unowned_is false false off (ap is_none e))
      (count-one l p (lacked_positions held xs owners) 0 P (omega arith) (omega arith) (λ q. lacked_is false (Some p) q off e))

  -- each position is in exactly one class
  pub in_one_class : in_one (map (lacked_positions held xs owners) (range_with_len 0 P))
  in_one_class = elim (cases_Bool (stands (index_at xs l) held)) [
    | inl on ↦ held_class on
    | inr off ↦ lacked_class (owner_at owners l) refl off
  ]
