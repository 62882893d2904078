-- What a rank posts and awaits.
use Rattle.std.proofs.Common.{◌≡◌, ℕ, zero, suc, ◌<◌, ◌≤◌, Bool, true, false, cond, not, ◌&&◌, ◌||◌, ◌==◌, List, [], ◌∷◌, ◌++◌, filter, map, refl, sym, ap, ◌∙◌, arith, ◌⊎◌, inl, inr}
use Rattle.std.specs.Prelude.{nat_le, nat_lt}
use Rattle.std.specs.List.{list_all}
use Rattle.std.proofs.lemmas.Bool.{and_parts, eqb-true, eq-eqb, ltb-true, cases_order, not-false}
use Rattle.std.proofs.lemmas.Bool.Decides.{nat_tests}
use Rattle.std.proofs.lemmas.List.{append-nil, map-append}
use Rattle.std.proofs.lemmas.List.Elements.{filter-append}
use Rattle.outside.specs.declared.name.Name.{Name}
use Rattle.outside.specs.Letters.{same_name}
use Rattle.peers.specs.Protocols.{Protocol, stands_in}
use Rattle.peers.specs.Peers.{was_given}
use Rattle.rank_phases.specs.Phases.{AreByPhase, IsPhased, absorbed, arrivals, awaited, names_from, names_to, of_phase, posts}
use Rattle.rank_phases.proofs.Filters.{filter-filter, filter-same, map-filter-same}
use Rattle.rank_phases.proofs.Given.{given-filter, given-more, named-filter}
use Rattle.rank_phases.proofs.Absorbed.{arrivals-absorbed}

-- The names of the first phases, and those of one more

abbrev below : ℕ → ℕ → List Name → List Name
below rank e names = filter (λ n. (n.from == rank) && nat_lt n.phase e) names

none_below : (rank e : ℕ) (names : List Name) → list_all (λ m. nat_le e m.phase) names ≡ true → below rank e names ≡ []
none_below rank e [] h = refl
none_below rank e (n ∷ ns) h =
    let p = and_parts (nat_le e n.phase) _ h in
    ap (λ b. cond b (n ∷ below rank e ns) (below rank e ns)) (off n.phase (n.from == rank) p.0) ∙ none_below rank e ns p.1
  where
    off : (a : ℕ) (t : Bool) → nat_le e a ≡ true → t && nat_lt a e ≡ false
    off a t h = grind (arith, nat_tests)

one_more : (names : List Name) (rank e : ℕ) → AreByPhase names → below rank (suc e) names ≡ below rank e names ++ names_from names e rank
one_more [] rank e o = refl
one_more (n ∷ ns) rank e o = go (n.from == rank) (cases_order n.phase e) (one_more ns rank e o.1)
  where
    go : (t : Bool) → (n.phase ≡ e) ⊎ ((n.phase < e) ⊎ (e < n.phase)) → below rank (suc e) ns ≡ below rank e ns ++ names_from ns e rank
        → cond (t && nat_lt n.phase (suc e)) (n ∷ below rank (suc e) ns) (below rank (suc e) ns)
        ≡ cond (t && nat_lt n.phase e) (n ∷ below rank e ns) (below rank e ns) ++ cond ((n.phase == e) && t) (n ∷ names_from ns e rank) (names_from ns e rank)
    go t (inl here) more =
        let none : below rank e ns ≡ [] = none_below rank e ns (ap (λ a. list_all (λ m. nat_le a m.phase) ns) (sym here) ∙ o.0) in
        let on : nat_lt n.phase (suc e) ≡ true = grind (arith, nat_tests) in
        let off : nat_lt n.phase e ≡ false = grind (arith, nat_tests) in
        at t on off (eq-eqb n.phase e here) none (more ∙ ap (λ ls. ls ++ names_from ns e rank) none)
      where
        at : (t : Bool) → nat_lt n.phase (suc e) ≡ true → nat_lt n.phase e ≡ false → (n.phase == e) ≡ true → below rank e ns ≡ [] → below rank (suc e) ns ≡ names_from ns e rank
            → cond (t && nat_lt n.phase (suc e)) (n ∷ below rank (suc e) ns) (below rank (suc e) ns)
            ≡ cond (t && nat_lt n.phase e) (n ∷ below rank e ns) (below rank e ns) ++ cond ((n.phase == e) && t) (n ∷ names_from ns e rank) (names_from ns e rank)
        at true on off is none same = rw (on, off, is, none, same) refl
        at false on off is none same = rw (is, none, same) refl
    go true (inr (inl b)) more =
        let on : nat_lt n.phase (suc e) ≡ true = grind (arith, nat_tests) in
        let also : nat_lt n.phase e ≡ true = grind (arith, nat_tests) in
        let off : (n.phase == e) ≡ false = grind (arith, nat_tests) in
        rw (on, also, off, more) refl
    go false (inr (inl b)) more =
        let off : (n.phase == e) ≡ false = grind (arith, nat_tests) in
        rw (off, more) refl
    go true (inr (inr a)) more =
        let no : nat_lt n.phase (suc e) ≡ false = grind (arith, nat_tests) in
        let also : nat_lt n.phase e ≡ false = grind (arith, nat_tests) in
        let off : (n.phase == e) ≡ false = grind (arith, nat_tests) in
        rw (no, also, off, more) refl
    go false (inr (inr a)) more =
        let off : (n.phase == e) ≡ false = grind (arith, nat_tests) in
        rw (off, more) refl

module _ (protocol : Protocol) (phases : ℕ) (laws : IsPhased protocol phases) where
  -- what a rank sends in a phase depends on the earlier phases alone
  pub content-absorbed : (n : Name) (e : ℕ) (h : List (Name × List ℕ)) → n.phase ≤ e → protocol.content n (absorbed e h) ≡ protocol.content n h
  content-absorbed n e h b = laws.content n (absorbed e h) h (λ k l. arrivals-absorbed e k n.from h (omega arith))

  -- a letter of this phase or a later one changes nothing in it
  pub content-more : (n : Name) (h : List (Name × List ℕ)) (l : Name × List ℕ) → n.phase ≤ l.0.phase → protocol.content n (h ++ l ∷ []) ≡ protocol.content n h
  content-more n h l b = laws.content n (h ++ l ∷ []) h (λ k lt. kept k lt)
    where
      kept : (k : ℕ) → k < n.phase → arrivals k n.from (h ++ l ∷ []) ≡ arrivals k n.from h
      kept k lt =
          let off : (l.0.phase == k) && (l.0.to == n.from) ≡ false = grind (arith, nat_tests) in
          filter-append _ h (l ∷ []) ∙ ap (λ t. arrivals k n.from h ++ cond t (l ∷ []) []) off ∙ append-nil (arrivals k n.from h)

  -- entering one phase more appends its letters
  pub posts-next : (rank e : ℕ) (h : List (Name × List ℕ)) → posts protocol rank (suc e) h
      ≡ posts protocol rank e h ++ map (λ n. (n, protocol.content n (absorbed e h))) (names_from protocol.names e rank)
  posts-next rank e h =
      ap (map (λ n. (n, protocol.content n h))) (one_more protocol.names rank e laws.in_order)
      ∙ map-append (λ n. (n, protocol.content n h)) (below rank e protocol.names) (names_from protocol.names e rank)
      ∙ ap (λ ls. posts protocol rank e h ++ ls)
      (map-filter-same (λ n. (n, protocol.content n h)) (λ n. (n, protocol.content n (absorbed e h))) (λ n. (n.phase == e) && (n.from == rank))
      (λ n here. λ i. (n, sym (content-absorbed n e h (at n here)) i)) protocol.names)
    where
      at : (n : Name) → (n.phase == e) && (n.from == rank) ≡ true → n.phase ≤ e
      at n here = let is = eqb-true n.phase e (and_parts (n.phase == e) _ here).0 in omega arith

  -- one more letter of the last phase or a later one changes no post
  pub posts-more : (rank e : ℕ) (h : List (Name × List ℕ)) (l : Name × List ℕ) → e ≤ suc l.0.phase → posts protocol rank e (h ++ l ∷ []) ≡ posts protocol rank e h
  posts-more rank e h l b =
      map-filter-same (λ n. (n, protocol.content n (h ++ l ∷ []))) (λ n. (n, protocol.content n h)) (λ n. (n.from == rank) && nat_lt n.phase e)
      (λ n here. λ i. (n, content-more n h l (at n here) i)) protocol.names
    where
      at : (n : Name) → (n.from == rank) && nat_lt n.phase e ≡ true → n.phase ≤ l.0.phase
      at n here = let is = ltb-true n.phase e (and_parts (n.from == rank) _ here).1 in omega arith

-- What is awaited

-- a letter is awaited where it is one of the phase to the rank and was not given
pub stands_in-awaited : (protocol : Protocol) (rank k : ℕ) (h : List (Name × List ℕ)) (n : Name)
    → stands_in protocol.names n ≡ true → n.to ≡ rank → n.phase ≡ k → stands_in (awaited protocol rank (suc k) h) n ≡ not (was_given h n)
stands_in-awaited protocol rank k h n named to here =
    named-filter (λ m. not (was_given h m)) n (names_to protocol.names k rank)
    ∙ ap (λ b. not (was_given h n) && b) (named-filter (λ m. (m.phase == k) && (m.to == rank)) n protocol.names ∙ rw (eq-eqb n.phase k here, eq-eqb n.to rank to, named) refl)
    ∙ right (not (was_given h n))
  where
    right : (b : Bool) → b && true ≡ b
    right true = refl
    right false = refl

-- where none is awaited, all were given
pub given-none_awaited : (protocol : Protocol) (rank k : ℕ) (h : List (Name × List ℕ)) → awaited protocol rank (suc k) h ≡ [] → (n : Name)
    → stands_in protocol.names n ≡ true → n.to ≡ rank → n.phase ≡ k → was_given h n ≡ true
given-none_awaited protocol rank k h none n named to here =
    not-false (was_given h n) (sym (stands_in-awaited protocol rank k h n named to here) ∙ ap (λ ns. stands_in ns n) none)

-- one more letter of this phase
pub awaited-more : (protocol : Protocol) (rank k : ℕ) (h : List (Name × List ℕ)) (l : Name × List ℕ)
    → awaited protocol rank (suc k) (h ++ l ∷ []) ≡ filter (λ n. not (same_name n l.0)) (awaited protocol rank (suc k) h)
awaited-more protocol rank k h l =
    filter-same _ _ (λ n. ap not (given-more h l n) ∙ split (was_given h n) (same_name n l.0)) (names_to protocol.names k rank)
    ∙ sym (filter-filter (λ n. not (same_name n l.0)) (λ n. not (was_given h n)) (names_to protocol.names k rank))
  where
    split : (a b : Bool) → not (a || b) ≡ not a && not b
    split true b = refl
    split false b = refl

-- one more letter of a later phase
pub awaited-early : (protocol : Protocol) (rank e : ℕ) (h : List (Name × List ℕ)) (l : Name × List ℕ) → e ≤ l.0.phase
    → awaited protocol rank e (h ++ l ∷ []) ≡ awaited protocol rank e h
awaited-early protocol rank zero h l b = refl
awaited-early protocol rank (suc k) h l b =
    filter-filter _ _ protocol.names
    ∙ filter-same _ _ (λ n. ap (λ t. ((n.phase == k) && (n.to == rank)) && not t) (given-more h l n) ∙ other n) protocol.names
    ∙ sym (filter-filter _ _ protocol.names)
  where
    other : (n : Name) → ((n.phase == k) && (n.to == rank)) && not (was_given h n || same_name n l.0) ≡ ((n.phase == k) && (n.to == rank)) && not (was_given h n)
    other n = tests n.phase l.0.phase (n.to == rank) (was_given h n) (n.from == l.0.from) (n.to == l.0.to) b
      where
        tests : (a c : ℕ) (t g u v : Bool) → k < c → ((a == k) && t) && not (g || ((a == c) && u && v)) ≡ ((a == k) && t) && not g
        tests a c t g u v lt = grind (arith, nat_tests)

-- on entering a phase, without those of it that came early
pub awaited-enter : (protocol : Protocol) (rank e : ℕ) (h : List (Name × List ℕ))
    → filter (λ n. not (was_given (of_phase e h) n)) (names_to protocol.names e rank) ≡ awaited protocol rank (suc e) h
awaited-enter protocol rank e h =
    filter-filter _ _ protocol.names
    ∙ filter-same _ _ (λ n. ap (λ t. ((n.phase == e) && (n.to == rank)) && not t) (given-filter (λ m. m.phase == e) n h) ∙ tests (n.phase == e) (n.to == rank) (was_given h n)) protocol.names
    ∙ sym (filter-filter _ _ protocol.names)
  where
    tests : (a t g : Bool) → (a && t) && not (a && g) ≡ (a && t) && not g
    tests true t g = refl
    tests false t g = refl
