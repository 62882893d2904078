-- What goes phase by phase is a protocol.
use Rattle.std.proofs.Common.{◌≡◌, ℕ, ◌<◌, ◌≤◌, ◌⊎◌, inl, inr, Bool, true, false, cond, ◌&&◌, ◌==◌, List, [], ◌∷◌, filter, refl, sym, ap, ◌∙◌, arith}
use Rattle.std.specs.Prelude.{nat_le, nat_lt}
use Rattle.std.specs.List.{AllByRecursion, list_all}
use Rattle.std.specs.List.Sorted.{IsStrictlySortedBy}
use Rattle.std.specs.declared.cmp.Ordering.TheVariants.{Less}
use Rattle.std.proofs.lemmas.Bool.{and_parts, and_from, cases_lt, eqb-true, false≢true, le-leb, lt-ltb, ltb-true}
use Rattle.std.proofs.lemmas.Bool.Decides.{nat_tests}
use Rattle.outside.specs.declared.name.Name.{Name}
use Rattle.peers.specs.Protocols.{IsProtocol, Protocol, name_cmp, only, stands_in}
use Rattle.rank_phases.specs.FirstLetters.{AreLettersTo}
use Rattle.rank_phases.specs.Phases.{AreByPhase, GoesByPhase, IsPhased, arrivals}
use Rattle.rank_phases.proofs.Filters.{filter-filter, filter-none, filter-same}
use Rattle.rank_phases.proofs.Given.{named-filter}

-- names that ascend are by phase

not_above : (a b : Name) → name_cmp a b ≡ Less → a.phase ≤ b.phase
not_above a b less = grind (arith, nat_tests)

pub by_phase-ascend : (ns : List Name) → IsStrictlySortedBy name_cmp ns → AreByPhase ns
unfolding IsStrictlySortedBy
by_phase-ascend [] sorted = tt
by_phase-ascend (n ∷ ns) sorted = (all ns sorted.0, by_phase-ascend ns sorted.1)
  where
    all : (ms : List Name) → AllByRecursion (λ m. name_cmp n m ≡ Less) ms → list_all (λ m. nat_le n.phase m.phase) ms ≡ true
    all [] less = refl
    all (m ∷ ms) less = and_from (nat_le n.phase m.phase) _ (le-leb n.phase m.phase (not_above n m less.0)) (all ms less.1)

module _ (P : Protocol) (n : Name) (waits : P.before n ≡ filter (λ m. (m.to == n.from) && nat_lt m.phase n.phase) P.names) where
  -- what is before a letter
  pub is_before : (m : Name) → stands_in (P.before n) m ≡ (((m.to == n.from) && nat_lt m.phase n.phase) && stands_in P.names m)
  is_before m = ap (λ ms. stands_in ms m) waits ∙ named-filter (λ k. (k.to == n.from) && nat_lt k.phase n.phase) m P.names

  pub before-parts : (m : Name) → stands_in (P.before n) m ≡ true → (m.to ≡ n.from) × (m.phase < n.phase) × (stands_in P.names m ≡ true)
  before-parts m s =
      let parts = and_parts ((m.to == n.from) && nat_lt m.phase n.phase) (stands_in P.names m) (sym (is_before m) ∙ s) in
      let two = and_parts (m.to == n.from) _ parts.0 in
      (eqb-true m.to n.from two.0, ltb-true m.phase n.phase two.1, parts.1)

  pub arrivals-only : (k : ℕ) (ls : List (Name × List ℕ)) → arrivals k n.from (only (P.before n) ls) ≡ only (P.before n) (arrivals k n.from ls)
  arrivals-only k ls =
      filter-filter (λ l. (l.0.phase == k) && (l.0.to == n.from)) (λ l. stands_in (P.before n) l.0) ls
      ∙ filter-same _ _ (λ l. swap (stands_in (P.before n) l.0) ((l.0.phase == k) && (l.0.to == n.from))) ls
      ∙ sym (filter-filter (λ l. stands_in (P.before n) l.0) (λ l. (l.0.phase == k) && (l.0.to == n.from)) ls)
    where
      swap : (a b : Bool) → a && b ≡ b && a
      swap true true = refl
      swap true false = refl
      swap false true = refl
      swap false false = refl

  none_later : (k : ℕ) → n.phase ≤ k → (ls : List (Name × List ℕ)) → arrivals k n.from (only (P.before n) ls) ≡ []
  none_later k le ls =
      filter-filter (λ l. (l.0.phase == k) && (l.0.to == n.from)) (λ l. stands_in (P.before n) l.0) ls
      ∙ filter-none _ (λ l. ap (λ b. b && ((l.0.phase == k) && (l.0.to == n.from))) (is_before l.0) ∙ off l.0.phase (l.0.to == n.from) (stands_in P.names l.0)) ls
    where
      off : (a : ℕ) (t u : Bool) → ((t && nat_lt a n.phase) && u) && ((a == k) && t) ≡ false
      off a t u = grind (arith, nat_tests)

  -- of the letters before it those of any phase are the same, where those of earlier phases are
  pub arrivals-before : (g h : List (Name × List ℕ)) → ((k : ℕ) → k < n.phase → arrivals k n.from g ≡ arrivals k n.from h)
      → (k : ℕ) → arrivals k n.from (only (P.before n) g) ≡ arrivals k n.from (only (P.before n) h)
  arrivals-before g h same k = go (cases_lt k n.phase)
    where
      go : (k < n.phase) ⊎ (n.phase ≤ k) → arrivals k n.from (only (P.before n) g) ≡ arrivals k n.from (only (P.before n) h)
      go (inl lt) = arrivals-only k g ∙ ap (only (P.before n)) (same k lt) ∙ sym (arrivals-only k h)
      go (inr le) = none_later k le g ∙ sym (none_later k le h)

  -- of letters to its sender each of an earlier phase is before it
  pub arrivals-known : (ls : List (Name × List ℕ)) → AreLettersTo P n.from ls → (k : ℕ) → k < n.phase → arrivals k n.from (only (P.before n) ls) ≡ arrivals k n.from ls
  arrivals-known [] all k lt = refl
  arrivals-known (l ∷ ls) all k lt = go ((l.0.phase == k) && (l.0.to == n.from)) refl (stands_in (P.before n) l.0) refl (arrivals-known ls all.1 k lt)
    where
      kept : ((l.0.phase == k) && (l.0.to == n.from)) ≡ true → stands_in (P.before n) l.0 ≡ true
      kept e =
          let p = and_parts (l.0.phase == k) _ e in
          let here = eqb-true l.0.phase k p.0 in
          is_before l.0 ∙ and_from _ _ (and_from (l.0.to == n.from) _ p.1 (lt-ltb l.0.phase n.phase (omega arith))) all.0.named

      go : (t : Bool) → ((l.0.phase == k) && (l.0.to == n.from)) ≡ t → (b : Bool) → stands_in (P.before n) l.0 ≡ b
          → arrivals k n.from (only (P.before n) ls) ≡ arrivals k n.from ls
          → arrivals k n.from (cond b (l ∷ only (P.before n) ls) (only (P.before n) ls)) ≡ cond t (l ∷ arrivals k n.from ls) (arrivals k n.from ls)
      go t e true f more = λ i. cond (e i) (l ∷ more i) (more i)
      go true e false f more = absurd (false≢true (sym f ∙ kept e))
      go false e false f more = more

module _ (P : Protocol) (phases : ℕ) (law : GoesByPhase P phases) where
  pub goes-protocol : IsProtocol P
  goes-protocol = record {
    ordered = law.ordered;
    from_rank = law.from_rank;
    to_rank = law.to_rank;
    before_known = λ m n b. (before-parts P n (law.waits n) m b.1).2;
    before_given = λ m n b. (before-parts P n (law.waits n) m b.1).0;
    depth = λ n. n.phase;
    before_falls = λ m n b. (before-parts P n (law.waits n) m b.1).1;
    made_of_before = law.made_of_before;
  }

  pub goes-phased : IsPhased P phases
  goes-phased = record {
    in_order = by_phase-ascend P.names law.ordered;
    below = law.below;
    waits = law.waits;
    content = λ n g h same.
        law.made_of_before n g
        ∙ law.by_phase n (only (P.before n) g) (only (P.before n) h) (arrivals-before P n (law.waits n) g h same)
        ∙ sym (law.made_of_before n h);
  }
