-- The names of a job's letters ascend: by phase, then sender, then receiver.
use Rattle.std.proofs.Common.{◌≡◌, ℕ, zero, suc, ◌<◌, ◌≤◌, ◌+◌, Bool, true, false, cond, not, ◌&&◌, ◌==◌, List, [], ◌∷◌, ◌++◌, map, filter, refl, sym, ◌∙◌, subst, arith}
use Rattle.std.specs.Prelude.{nat_le, nat_lt}
use Rattle.std.specs.List.{flat_map, list_all, AllByRecursion}
use Rattle.std.specs.List.Sorted.{IsStrictlySortedBy}
use Rattle.std.specs.Cmp.{nat_cmp_is}
use Rattle.std.specs.declared.cmp.Ordering.TheVariants.{Less, Equal}
use Rattle.std.proofs.lemmas.Bool.{and_parts, and_from, eq-eqb, eqb-true, leb-true, le-leb, ltb-true, lt-ltb}
use Rattle.std.proofs.lemmas.Bool.Decides.{nat_tests}
use Rattle.std.proofs.lemmas.List.Kept.{IsStrictlySortedBy-filter}
use Rattle.outside.specs.declared.name.Name.{Name}
use Rattle.peers.specs.Protocols.{name_cmp}
use Rattle.tables.specs.Indices.{count_from}
use Rattle.mm_text.specs.Reading.{File}
use Rattle.model_defs.specs.declared.job.Job.{Job}
use Rattle.model_defs.specs.Phases.{Phase}
use Rattle.model_defs.specs.Letters.{others, names_from, names_of_phase, phase_names, names_of_phases}
use Rattle.model_defs.proofs.Filters.{filter-all}
use Rattle.model_defs.proofs.Firsts.{all-weaker}
use Rattle.model_defs.proofs.Names.{all-append}

abbrev pair : ℕ → ℕ → ℕ → Name
pair phase from to = record { phase = phase; from = from; to = to }

-- the ranks but one of a run of ranks
abbrev but : ℕ → ℕ → ℕ → List ℕ
but rank a k = filter (λ other. not (rank == other)) (count_from a k)

less-phase : (a b : Name) → a.phase < b.phase → name_cmp a b ≡ Less
less-phase a b lt = rw (← nat_cmp_is a.phase b.phase Less lt) refl

less-from : (phase : ℕ) (a b : Name) → a.phase ≡ phase → b.phase ≡ phase → a.from < b.from → name_cmp a b ≡ Less
less-from phase a b at bt lt = rw (← nat_cmp_is a.phase b.phase Equal (at ∙ sym bt), ← nat_cmp_is a.from b.from Less lt) refl

less-to : (phase from : ℕ) (x y : ℕ) → x < y → name_cmp (pair phase from x) (pair phase from y) ≡ Less
less-to phase from x y lt = rw (← nat_cmp_is phase phase Equal refl, ← nat_cmp_is from from Equal refl, ← nat_cmp_is x y Less lt) refl

-- each is below all that pass the test of those behind
below-all : (x : Name) (t : Name → Bool) (ns : List Name) → ((n : Name) → t n ≡ true → name_cmp x n ≡ Less) → list_all t ns ≡ true → AllByRecursion (λ n. name_cmp x n ≡ Less) ns
below-all x t [] less all = tt
below-all x t (n ∷ ns) less all = let p = and_parts (t n) _ all in (less n p.0, below-all x t ns less p.1)

all-below-append : (x : Name) (ms ns : List Name) → AllByRecursion (λ n. name_cmp x n ≡ Less) ms → AllByRecursion (λ n. name_cmp x n ≡ Less) ns → AllByRecursion (λ n. name_cmp x n ≡ Less) (ms ++ ns)
all-below-append x [] ns a b = b
all-below-append x (m ∷ ms) ns a b = (a.0, all-below-append x ms ns a.1 b)

sorted-append : (s t : Name → Bool) → ((m n : Name) → s m ≡ true → t n ≡ true → name_cmp m n ≡ Less) → (ms ns : List Name)
    → list_all s ms ≡ true → list_all t ns ≡ true → IsStrictlySortedBy name_cmp ms → IsStrictlySortedBy name_cmp ns → IsStrictlySortedBy name_cmp (ms ++ ns)
unfolding IsStrictlySortedBy
sorted-append s t less [] ns a b x y = y
sorted-append s t less (m ∷ ms) ns a b x y =
    let p = and_parts (s m) _ a in
    (all-below-append m ms ns x.0 (below-all m t ns (λ n e. less m n p.0 e) b), sorted-append s t less ms ns p.1 b x.1 y)

module _ (ranks phase : ℕ) where
  -- from one rank
  to-above : (p b a k : ℕ) → b < a → list_all (λ n. (n.phase == phase) && ((n.from == p) && nat_lt b n.to)) (map (pair phase p) (but p a k)) ≡ true
  to-above p b a zero lt = refl
  to-above p b a (suc k) lt = go (not (p == a)) (to-above p b (a + 1) k (omega arith))
    where
      go : (t : Bool) → list_all (λ n. (n.phase == phase) && ((n.from == p) && nat_lt b n.to)) (map (pair phase p) (but p (a + 1) k)) ≡ true
          → list_all (λ n. (n.phase == phase) && ((n.from == p) && nat_lt b n.to)) (map (pair phase p) (cond t (a ∷ but p (a + 1) k) (but p (a + 1) k))) ≡ true
      go true more = and_from _ _ (and_from (phase == phase) _ (eq-eqb phase phase refl) (and_from (p == p) _ (eq-eqb p p refl) (lt-ltb b a lt))) more
      go false more = more

  above-less : (p a : ℕ) (n : Name) → ((n.phase == phase) && ((n.from == p) && nat_lt a n.to)) ≡ true → name_cmp (pair phase p a) n ≡ Less
  above-less p a n e =
      let at = and_parts (n.phase == phase) _ e in
      let from = and_parts (n.from == p) _ at.1 in
      let x = eqb-true n.phase phase at.0 in
      let y = eqb-true n.from p from.0 in
      subst (λ m. name_cmp (pair phase p a) m ≡ Less) (λ i. record { phase = sym x i; from = sym y i; to = n.to }) (less-to phase p a n.to (ltb-true a n.to from.1))

  sorted-to : (p a k : ℕ) → IsStrictlySortedBy name_cmp (map (pair phase p) (but p a k))
  unfolding IsStrictlySortedBy
  sorted-to p a zero = tt
  sorted-to p a (suc k) = go (not (p == a)) (sorted-to p (a + 1) k)
    where
      go : (t : Bool) → IsStrictlySortedBy name_cmp (map (pair phase p) (but p (a + 1) k)) → IsStrictlySortedBy name_cmp (map (pair phase p) (cond t (a ∷ but p (a + 1) k) (but p (a + 1) k)))
      go true more = (below-all (pair phase p a) _ _ (above-less p a) (to-above p a (a + 1) k (omega arith)), more)
      go false more = more

  from-is : (p : ℕ) (rs : List ℕ) → list_all (λ n. (n.phase == phase) && (n.from == p)) (map (pair phase p) rs) ≡ true
  from-is p [] = refl
  from-is p (r ∷ rs) = and_from _ _ (and_from (phase == phase) _ (eq-eqb phase phase refl) (eq-eqb p p refl)) (from-is p rs)

  from-above : (b a k : ℕ) → b < a → list_all (λ n. (n.phase == phase) && nat_lt b n.from) (flat_map (names_from ranks phase) (count_from a k)) ≡ true
  from-above b a zero lt = refl
  from-above b a (suc k) lt =
      all-append _ (names_from ranks phase a) (flat_map (names_from ranks phase) (count_from (a + 1) k))
      (all-weaker (λ n. (n.phase == phase) && (n.from == a)) _ (λ n e. go n e) (names_from ranks phase a) (from-is a (others ranks a)))
      (from-above b (a + 1) k (omega arith))
    where
      go : (n : Name) → ((n.phase == phase) && (n.from == a)) ≡ true → ((n.phase == phase) && nat_lt b n.from) ≡ true
      go n e = grind (arith, nat_tests)

  sorted-run : (a k : ℕ) → IsStrictlySortedBy name_cmp (flat_map (names_from ranks phase) (count_from a k))
  unfolding IsStrictlySortedBy
  sorted-run a zero = tt
  sorted-run a (suc k) =
      sorted-append (λ n. (n.phase == phase) && (n.from == a)) (λ n. (n.phase == phase) && nat_lt a n.from)
      (λ m n e f.
      let x = and_parts (m.phase == phase) _ e in
      let y = and_parts (n.phase == phase) _ f in
      let mf = eqb-true m.from a x.1 in
      let nf = ltb-true a n.from y.1 in
      less-from phase m n (eqb-true m.phase phase x.0) (eqb-true n.phase phase y.0) (omega arith))
      (names_from ranks phase a) (flat_map (names_from ranks phase) (count_from (a + 1) k))
      (from-is a (others ranks a)) (from-above a (a + 1) k (omega arith)) (sorted-to a 0 ranks) (sorted-run (a + 1) k)

-- the names of one phase
phase-is : (ranks phase a k : ℕ) → list_all (λ m. m.phase == phase) (flat_map (names_from ranks phase) (count_from a k)) ≡ true
phase-is ranks phase a zero = refl
phase-is ranks phase a (suc k) =
    all-append (λ m. m.phase == phase) (names_from ranks phase a) (flat_map (names_from ranks phase) (count_from (a + 1) k))
    (all-weaker (λ n. (n.phase == phase) && (n.from == a)) (λ n. n.phase == phase) (λ n e. (and_parts (n.phase == phase) _ e).0) (names_from ranks phase a) (from-is ranks phase a (others ranks a)))
    (phase-is ranks phase (a + 1) k)

module _ (job : Job) (files : List File) where
  pub names-from-phase : (n b : ℕ) (xs : List Phase) → b ≤ n → list_all (λ m. nat_le b m.phase) (names_of_phases job files n xs) ≡ true
  names-from-phase n b [] l = refl
  names-from-phase n b (x ∷ xs) l =
      all-append (λ m. nat_le b m.phase) (phase_names job files n x) (names_of_phases job files (n + 1) xs)
      (filter-all (λ m. nat_le b m.phase) _ (names_of_phase job.ranks n)
      (all-weaker (λ m. m.phase == n) (λ m. nat_le b m.phase) (λ m e. le-leb b m.phase (let same = eqb-true m.phase n e in omega arith)) (names_of_phase job.ranks n) (phase-is job.ranks n 0 job.ranks)))
      (names-from-phase (n + 1) b xs (omega arith))

  pub names-ascend : (n : ℕ) (xs : List Phase) → IsStrictlySortedBy name_cmp (names_of_phases job files n xs)
  unfolding IsStrictlySortedBy
  names-ascend n [] = tt
  names-ascend n (x ∷ xs) =
      sorted-append (λ m. m.phase == n) (λ m. nat_le (n + 1) m.phase)
      (λ a b e f. less-phase a b (let here = eqb-true a.phase n e in let there = leb-true (n + 1) b.phase f in omega arith))
      (phase_names job files n x) (names_of_phases job files (n + 1) xs)
      (filter-all (λ m. m.phase == n) _ (names_of_phase job.ranks n) (phase-is job.ranks n 0 job.ranks)) (names-from-phase (n + 1) (n + 1) xs (omega arith))
      (IsStrictlySortedBy-filter name_cmp _ (names_of_phase job.ranks n) (sorted-run job.ranks n 0 job.ranks)) (names-ascend (n + 1) xs)
