-- The letters of the first phases, phase by phase.
use Rattle.std.proofs.Common.{◌≡◌, ℕ, zero, suc, ◌<◌, ◌≤◌, Bool, true, false, cond, ◌&&◌, ◌||◌, ◌==◌, List, [], ◌∷◌, ◌++◌, filter, refl, sym, ap, ◌∙◌, arith, if◌then◌else◌, ◌⊎◌, inl, inr}
use Rattle.std.specs.Prelude.{nat_le, nat_lt}
use Rattle.std.proofs.lemmas.Bool.{and_right, eq-eqb, cases_order}
use Rattle.std.proofs.lemmas.Bool.Decides.{nat_tests}
use Rattle.std.proofs.lemmas.List.{append-nil, append_assoc}
use Rattle.std.proofs.lemmas.List.Elements.{filter-append}
use Rattle.outside.specs.declared.name.Name.{Name}
use Rattle.rank_phases.specs.FirstLetters.{are_firsts}
use Rattle.peers.specs.Peers.{was_given}
use Rattle.rank_phases.specs.Phases.{absorbed, arrivals, from_phase, of_phase}
use Rattle.rank_phases.proofs.Filters.{filter-filter, filter-none, filter-same}
use Rattle.rank_phases.proofs.Given.{firsts-append, firsts-filter, given-append, given-filter}

-- Tests of phases

twice : (a e : ℕ) (t : Bool) → (a == e) && ((a == e) && t) ≡ (a == e) && t
twice a e t = go (a == e)
  where
    go : (b : Bool) → b && (b && t) ≡ b && t
    go true = refl
    go false = refl

apart : (a e k : ℕ) (t : Bool) → k < e → (a == e) && ((a == k) && t) ≡ false
apart a e k t l = grind (arith, nat_tests)

apart_above : (a e k : ℕ) (t : Bool) → e < k → (a == e) && ((a == k) && t) ≡ false
apart_above a e k t l = grind (arith, nat_tests)

joined : (a e : ℕ) (t : Bool) → (nat_lt a e && t) || ((a == e) && t) ≡ nat_lt a (suc e) && t
joined a e t = grind (arith, nat_tests)

no_less : (a : ℕ) (t : Bool) → false ≡ nat_lt a zero && t
no_less a t = grind (arith, nat_tests)

-- What was given of the letters of the first phases.
pub given-absorbed : (e : ℕ) (h : List (Name × List ℕ)) (n : Name) → was_given (absorbed e h) n ≡ nat_lt n.phase e && was_given h n
given-absorbed zero h n = no_less n.phase (was_given h n)
given-absorbed (suc e) h n =
    given-append (absorbed e h) (of_phase e h) n
    ∙ (λ i. given-absorbed e h n i || given-filter (λ m. m.phase == e) n h i)
    ∙ joined n.phase e (was_given h n)

-- none of the phase from which the letters are missing, and of none after it
arrivals-later : (e k p : ℕ) (h : List (Name × List ℕ)) → e ≤ k → arrivals k p (absorbed e h) ≡ []
arrivals-later zero k p h l = refl
arrivals-later (suc e) k p h l =
    filter-append _ (absorbed e h) (of_phase e h)
    ∙ (λ i. arrivals-later e k p h (omega arith) i ++
    (filter-filter (λ m. (m.0.phase == k) && (m.0.to == p)) (λ m. m.0.phase == e) h
    ∙ filter-none _ (λ m. apart_above m.0.phase e k (m.0.to == p) (omega arith)) h) i)

-- The letters of a phase are those given.
pub arrivals-absorbed : (e k p : ℕ) (h : List (Name × List ℕ)) → k < e → arrivals k p (absorbed e h) ≡ arrivals k p h
arrivals-absorbed zero k p h l = absurd (omega arith)
arrivals-absorbed (suc e) k p h l =
    filter-append _ (absorbed e h) (of_phase e h)
    ∙ ap (λ ls. arrivals k p (absorbed e h) ++ ls) (filter-filter (λ m. (m.0.phase == k) && (m.0.to == p)) (λ m. m.0.phase == e) h)
    ∙ go (cases_order k e) (arrivals-absorbed e k p h)
  where
    go : (k ≡ e) ⊎ ((k < e) ⊎ (e < k)) → (k < e → arrivals k p (absorbed e h) ≡ arrivals k p h)
        → arrivals k p (absorbed e h) ++ filter (λ m. (m.0.phase == e) && ((m.0.phase == k) && (m.0.to == p))) h ≡ arrivals k p h
    go (inl s) more =
        (λ i. arrivals-later e k p h (omega arith) i ++ filter (λ m. (m.0.phase == e) && ((m.0.phase == s i) && (m.0.to == p))) h)
        ∙ filter-same _ _ (λ m. twice m.0.phase e (m.0.to == p)) h
        ∙ ap (λ j. arrivals j p h) (sym s)
    go (inr (inl b)) more =
        (λ i. more b i ++ filter-none _ (λ m. apart m.0.phase e k (m.0.to == p) b) h i) ∙ append-nil (arrivals k p h)
    go (inr (inr a)) more = absurd (omega arith)

-- no letter of the phase e was absorbed before
pub of_phase-later : (e k : ℕ) (h : List (Name × List ℕ)) → e ≤ k → of_phase k (absorbed e h) ≡ []
of_phase-later zero k h l = refl
of_phase-later (suc e) k h l =
    filter-append _ (absorbed e h) (of_phase e h)
    ∙ (λ i. of_phase-later e k h (omega arith) i ++
    (filter-filter (λ m. m.0.phase == k) (λ m. m.0.phase == e) h ∙ filter-none _ (λ m. other m.0.phase) h) i)
  where
    other : (a : ℕ) → (a == e) && (a == k) ≡ false
    other a = grind (arith, nat_tests)

-- the letters of the first phases are firsts, where all are
pub firsts-absorbed : (e : ℕ) (h : List (Name × List ℕ)) → are_firsts h ≡ true → are_firsts (absorbed e h) ≡ true
firsts-absorbed zero h f = refl
firsts-absorbed (suc e) h f =
    firsts-append (λ l. l.0.phase == e) (absorbed e h) h (λ l here. given-absorbed e h l.0 ∙ before l.0.phase (was_given h l.0) here) (firsts-absorbed e h f) (firsts-filter _ h f)
  where
    before : (a : ℕ) (t : Bool) → (a == e) ≡ true → nat_lt a e && t ≡ false
    before a t here = grind (arith, nat_tests)

-- One more letter

phase_kept : (k : ℕ) (h : List (Name × List ℕ)) (l : Name × List ℕ) → k < l.0.phase → of_phase k (h ++ l ∷ []) ≡ of_phase k h
phase_kept k h l b = filter-append _ h (l ∷ []) ∙ ap (λ t. of_phase k h ++ cond t (l ∷ []) []) off ∙ append-nil (of_phase k h)
  where
    off : (l.0.phase == k) ≡ false
    off = grind (arith, nat_tests)

-- a letter of a later phase changes nothing
pub absorbed-early : (e : ℕ) (h : List (Name × List ℕ)) (l : Name × List ℕ) → e ≤ l.0.phase → absorbed e (h ++ l ∷ []) ≡ absorbed e h
absorbed-early zero h l b = refl
absorbed-early (suc e) h l b = λ i. absorbed-early e h l (omega arith) i ++ phase_kept e h l (omega arith) i

-- one of the last phase comes behind
pub absorbed-more : (e : ℕ) (h : List (Name × List ℕ)) (l : Name × List ℕ) → l.0.phase ≡ e → absorbed (suc e) (h ++ l ∷ []) ≡ absorbed (suc e) h ++ l ∷ []
absorbed-more e h l here =
    (λ i. absorbed-early e h l (omega arith) i ++ filter-append (λ m. m.0.phase == e) h (l ∷ []) i)
    ∙ ap (λ t. absorbed e h ++ (of_phase e h ++ cond t (l ∷ []) [])) (eq-eqb l.0.phase e here)
    ∙ sym (append_assoc (absorbed e h) (of_phase e h) (l ∷ []))

-- Letters that wait

pub from_phase-early : (e : ℕ) (h : List (Name × List ℕ)) (l : Name × List ℕ) → e ≤ l.0.phase → from_phase e (h ++ l ∷ []) ≡ from_phase e h ++ l ∷ []
from_phase-early e h l b = filter-append _ h (l ∷ []) ∙ ap (λ t. from_phase e h ++ cond t (l ∷ []) []) on
  where
    on : nat_le e l.0.phase ≡ true
    on = grind (arith, nat_tests)

pub from_phase-here : (e : ℕ) (h : List (Name × List ℕ)) (l : Name × List ℕ) → l.0.phase < e → from_phase e (h ++ l ∷ []) ≡ from_phase e h
from_phase-here e h l b = filter-append _ h (l ∷ []) ∙ ap (λ t. from_phase e h ++ cond t (l ∷ []) []) off ∙ append-nil (from_phase e h)
  where
    off : nat_le e l.0.phase ≡ false
    off = grind (arith, nat_tests)

-- one phase further
pub of_phase-next : (e k : ℕ) (h : List (Name × List ℕ)) → of_phase k (from_phase (suc e) h) ≡ (if e == k then [] else of_phase k (from_phase e h))
of_phase-next e k h = filter-filter _ _ h ∙ go (e == k) refl
  where
    gone : (e == k) ≡ true → (a : ℕ) → nat_le (suc e) a && (a == k) ≡ false
    gone is a = grind (arith, nat_tests)

    stays : (e == k) ≡ false → (a : ℕ) → nat_le (suc e) a && (a == k) ≡ nat_le e a && (a == k)
    stays is a = grind (arith, nat_tests)

    go : (b : Bool) → (e == k) ≡ b → filter (λ l. nat_le (suc e) l.0.phase && (l.0.phase == k)) h ≡ (if b then [] else of_phase k (from_phase e h))
    go true is = filter-none _ (λ l. gone is l.0.phase) h
    go false is = filter-same _ _ (λ l. stays is l.0.phase) h ∙ sym (filter-filter _ _ h)

pub of_phase-from : (e : ℕ) (h : List (Name × List ℕ)) → of_phase e (from_phase e h) ≡ of_phase e h
of_phase-from e h = filter-filter _ _ h ∙ filter-same _ _ (λ l. at l.0.phase) h
  where
    at : (a : ℕ) → nat_le e a && (a == e) ≡ (a == e)
    at a = grind (arith, nat_tests)

pub given-from : (e : ℕ) (h : List (Name × List ℕ)) (n : Name) → was_given (from_phase e h) n ≡ nat_le e n.phase && was_given h n
given-from e h n = given-filter (λ m. nat_le e m.phase) n h

pub given-absorbed_none : (e : ℕ) (h : List (Name × List ℕ)) (n : Name) → was_given h n ≡ false → was_given (absorbed e h) n ≡ false
given-absorbed_none e h n none = given-absorbed e h n ∙ and_right (nat_lt n.phase e) _ none
