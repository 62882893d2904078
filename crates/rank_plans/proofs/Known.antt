-- Owners beside indices.
use Rattle.std.proofs.Common.{◌≡◌, ℕ, zero, suc, ◌<◌, ◌≤◌, Bool, true, false, cond, ◌&&◌, ◌||◌, ◌==◌, nat_lt, List, [], ◌∷◌, get_or, length, map, Option, None, Some, ◌⊎◌, inl, inr, refl, sym, ap, subst, ◌∙◌, arith}
use Rattle.std.specs.Prelude.{filter}
use Rattle.std.specs.Option.{is_some}
use Rattle.std.proofs.lemmas.Bool.{eqb-true, eq-eqb}
use Rattle.std.proofs.lemmas.Bool.Decides.{nat_tests}
use Rattle.map_core.specs.Layouts.{stands, AreDistinct}
use Rattle.map_core.specs.Classes.{owns}
use Rattle.map_core.proofs.Members.{stands-filter}
use Rattle.rank_plans.specs.Answers.{answered, filled, known_at, named_by, no_owner, owned_by, word_of, AreRanks}

-- two that differ are not the same index
pub apart : (x g : ℕ) (xs : List ℕ) → stands x xs ≡ false → stands g xs ≡ true → (x == g) ≡ false
apart x g xs off on = go (x == g) refl
  where
    go : (b : Bool) → (x == g) ≡ b → (x == g) ≡ false
    go true e = let same : stands x xs ≡ stands g xs = ap (λ y. stands y xs) (eqb-true x g e) in absurd (let bad : ⊥ = cc in bad)
    go false e = e

pub no_length : {A : Type 0} (xs : List A) → length xs ≡ 0 → xs ≡ []
no_length [] e = refl
no_length (x ∷ xs) e = cc

pub named-below : (P word q : ℕ) → named_by P word ≡ Some q → q < P
named-below P word q e = go (nat_lt word P) refl e
  where
    go : (b : Bool) → nat_lt word P ≡ b → cond b (Some word) None ≡ Some q → q < P
    go true f e = let same : word ≡ q = cc in subst (λ n. n < P) same (grind (arith, nat_tests))
    go false f e = cc

-- one index more
filled-step : (test : ℕ → Bool) (P x : ℕ) (xs : List ℕ) (o : Option ℕ) (os : List (Option ℕ)) (ws : List ℕ) (g : ℕ) → length ws ≡ length (filter test (x ∷ xs))
    → ((vs : List ℕ) → length vs ≡ length (filter test xs)
    → known_at xs (filled test P xs os vs) g ≡ cond (stands g (filter test xs)) (answered P (filter test xs) vs g) (known_at xs os g))
    → known_at (x ∷ xs) (filled test P (x ∷ xs) (o ∷ os) ws) g
    ≡ cond (stands g (filter test (x ∷ xs))) (answered P (filter test (x ∷ xs)) ws g) (known_at (x ∷ xs) (o ∷ os) g)
filled-step test P x xs o os [] g n more =
    sym (ap (λ f. cond (stands g f) (answered P f [] g) (known_at (x ∷ xs) (o ∷ os) g)) (no_length (filter test (x ∷ xs)) (sym n)))
filled-step test P x xs o os (w ∷ ws) g n more = go (test x) refl n
  where
    fs : List ℕ
    fs = filter test xs

    first : (a s : Bool) (named : Option ℕ) (told : Option ℕ) (old known : Option ℕ)
        → cond a named (cond s told known) ≡ cond (a || s) (cond a named told) (cond a old known)
    first true s named told old known = refl
    first false s named told old known = refl

    other : (a s : Bool) (told old known : Option ℕ) → (a ≡ true → s ≡ false) → cond a old (cond s told known) ≡ cond s told (cond a old known)
    other true true told old known h = let off = h refl in absurd (let bad : ⊥ = cc in bad)
    other true false told old known h = refl
    other false s told old known h = refl

    go : (b : Bool) → test x ≡ b → suc (length ws) ≡ length (cond b (x ∷ filter test xs) (filter test xs))
        → known_at (x ∷ xs) (cond b (named_by P w ∷ filled test P xs os ws) (o ∷ filled test P xs os (w ∷ ws))) g
        ≡ cond (stands g (cond b (x ∷ filter test xs) (filter test xs))) (answered P (cond b (x ∷ filter test xs) (filter test xs)) (w ∷ ws) g) (known_at (x ∷ xs) (o ∷ os) g)
    go true e n =
        ap (λ k. cond (x == g) (named_by P w) k) (more ws (omega arith))
        ∙ first (x == g) (stands g (filter test xs)) (named_by P w) (answered P (filter test xs) ws g) o (known_at xs os g)
    go false e n =
        ap (λ k. cond (x == g) o k) (more (w ∷ ws) n)
        ∙ other (x == g) (stands g (filter test xs)) (answered P (filter test xs) (w ∷ ws) g) o (known_at xs os g)
        (λ same. stands-filter g test xs ∙ ap (λ b. stands g xs && b) (ap test (sym (eqb-true x g same)) ∙ e) ∙ never (stands g xs))
      where
        never : (b : Bool) → b && false ≡ false
        never true = refl
        never false = refl

-- what is known once words came: of those that pass the test what the words name, of the others what was known
pub known-filled : (test : ℕ → Bool) (P : ℕ) (xs : List ℕ) (os : List (Option ℕ)) (ws : List ℕ) (g : ℕ) → length os ≡ length xs → length ws ≡ length (filter test xs)
    → known_at xs (filled test P xs os ws) g ≡ cond (stands g (filter test xs)) (answered P (filter test xs) ws g) (known_at xs os g)
known-filled test P [] os ws g e n = refl
known-filled test P (x ∷ xs) [] ws g e n = absurd (let bad : ⊥ = cc in bad)
known-filled test P (x ∷ xs) (o ∷ os) ws g e n = filled-step test P x xs o os ws g n (λ vs m. known-filled test P xs os vs g (omega arith) m)

pub length-filled : (test : ℕ → Bool) (P : ℕ) (xs : List ℕ) (os : List (Option ℕ)) (ws : List ℕ) → length (filled test P xs os ws) ≡ length os
length-filled test P [] os ws = refl
length-filled test P (x ∷ xs) [] ws = refl
length-filled test P (x ∷ xs) (o ∷ os) [] = refl
length-filled test P (x ∷ xs) (o ∷ os) (w ∷ ws) = go (test x) (length-filled test P xs os ws) (length-filled test P xs os (w ∷ ws))
  where
    go : (b : Bool) → length (filled test P xs os ws) ≡ length os → length (filled test P xs os (w ∷ ws)) ≡ length os
        → length (cond b (named_by P w ∷ filled test P xs os ws) (o ∷ filled test P xs os (w ∷ ws))) ≡ suc (length os)
    go true e f = ap suc e
    go false e f = ap suc f

pub AreRanks-filled : (test : ℕ → Bool) (P : ℕ) (xs : List ℕ) (os : List (Option ℕ)) (ws : List ℕ) → AreRanks P os → AreRanks P (filled test P xs os ws)
AreRanks-filled test P [] os ws h = h
AreRanks-filled test P (x ∷ xs) [] ws h = h
AreRanks-filled test P (x ∷ xs) (o ∷ os) [] h = h
AreRanks-filled test P (x ∷ xs) (o ∷ os) (w ∷ ws) h = go (test x) (AreRanks-filled test P xs os ws h.1) (AreRanks-filled test P xs os (w ∷ ws) h.1)
  where
    go : (b : Bool) → AreRanks P (filled test P xs os ws) → AreRanks P (filled test P xs os (w ∷ ws))
        → AreRanks P (cond b (named_by P w ∷ filled test P xs os ws) (o ∷ filled test P xs os (w ∷ ws)))
    go true e f = (λ q named. named-below P w q named, e)
    go false e f = (h.0, f)

-- no owner is known
pub AreRanks-none : (P : ℕ) (xs : List ℕ) → AreRanks P (map (λ _. None) xs)
AreRanks-none P [] = tt
AreRanks-none P (x ∷ xs) = (λ q e. absurd (let bad : ⊥ = cc in bad), AreRanks-none P xs)

pub AreRanks-map : (P : ℕ) (f : ℕ → Option ℕ) (xs : List ℕ) → ((g q : ℕ) → f g ≡ Some q → q < P) → AreRanks P (map f xs)
AreRanks-map P f [] h = tt
AreRanks-map P f (x ∷ xs) h = (λ q e. h x q e, AreRanks-map P f xs h)

pub AreRanks-known : (P : ℕ) (xs : List ℕ) (os : List (Option ℕ)) (g q : ℕ) → AreRanks P os → known_at xs os g ≡ Some q → q < P
AreRanks-known P [] os g q h e = absurd (let bad : ⊥ = cc in bad)
AreRanks-known P (x ∷ xs) [] g q h e = absurd (let bad : ⊥ = cc in bad)
AreRanks-known P (x ∷ xs) (o ∷ os) g q h e = go (x == g) e (AreRanks-known P xs os g q h.1)
  where
    go : (b : Bool) → cond b o (known_at xs os g) ≡ Some q → (known_at xs os g ≡ Some q → q < P) → q < P
    go true e more = h.0 q e
    go false e more = more e

-- where the owners are those of a rule
pub known-map : (f : ℕ → Option ℕ) (xs : List ℕ) (g : ℕ) → known_at xs (map f xs) g ≡ cond (stands g xs) (f g) None
known-map f [] g = refl
known-map f (x ∷ xs) g = go (x == g) refl (known-map f xs g)
  where
    go : (b : Bool) → (x == g) ≡ b → known_at xs (map f xs) g ≡ cond (stands g xs) (f g) None
        → cond b (f x) (known_at xs (map f xs) g) ≡ cond (b || stands g xs) (f g) None
    go true e more = ap f (eqb-true x g e)
    go false e more = more

pub known-none : (xs : List ℕ) (g : ℕ) → known_at xs (map (λ _. None) xs) g ≡ None
known-none xs g = known-map (λ _. None) xs g ∙ either (stands g xs)
  where
    none : Option ℕ
    none = None

    either : (b : Bool) → cond b none None ≡ None
    either true = refl
    either false = refl

-- a test that agrees on the members of a list
pub filter-within : (p q : ℕ → Bool) (xs : List ℕ) → ((g : ℕ) → stands g xs ≡ true → p g ≡ q g) → filter p xs ≡ filter q xs
filter-within p q [] h = refl
filter-within p q (x ∷ xs) h =
    ap (λ b. cond b (x ∷ filter p xs) (filter p xs)) (h x (ap (λ b. b || stands x xs) (eq-eqb x x refl)))
    ∙ ap (λ ys. cond (q x) (x ∷ ys) ys) (filter-within p q xs (λ g on. h g (later (x == g) on)))
  where
    later : (a : Bool) {b : Bool} → b ≡ true → a || b ≡ true
    later true e = refl
    later false e = e

pub map-within : {A : Type 0} (f h : ℕ → A) (xs : List ℕ) → ((g : ℕ) → stands g xs ≡ true → f g ≡ h g) → map f xs ≡ map h xs
map-within f h [] e = refl
map-within f h (x ∷ xs) e =
    ap (λ y. y ∷ map f xs) (e x (ap (λ b. b || stands x xs) (eq-eqb x x refl)))
    ∙ ap (λ ys. h x ∷ ys) (map-within f h xs (λ g on. e g (later (x == g) on)))
  where
    later : (a : Bool) {b : Bool} → b ≡ true → a || b ≡ true
    later true e = refl
    later false e = e

-- those that a rank owns, of distinct indices
pub owned-filter : (q : ℕ) (xs : List ℕ) (os : List (Option ℕ)) → AreDistinct xs → length os ≡ length xs → owned_by q xs os ≡ filter (λ g. owns (known_at xs os g) q) xs
owned-filter q [] os d n = refl
owned-filter q (x ∷ xs) [] d n = absurd (let bad : ⊥ = cc in bad)
owned-filter q (x ∷ xs) (o ∷ os) d n =
    ap (λ ys. cond (owns o q) (x ∷ ys) ys) (owned-filter q xs os d.1 (omega arith)
    ∙ filter-within (λ g. owns (known_at xs os g) q) (λ g. owns (known_at (x ∷ xs) (o ∷ os) g) q) xs
    (λ g on. ap (λ b. owns (cond b o (known_at xs os g)) q) (sym (apart x g xs d.0 on))))
    ∙ ap (λ b. cond (owns (cond b o (known_at xs os x)) q) (x ∷ filter (λ g. owns (known_at (x ∷ xs) (o ∷ os) g) q) xs) (filter (λ g. owns (known_at (x ∷ xs) (o ∷ os) g) q) xs)) (sym (eq-eqb x x refl))

-- no words fill nothing
filled-none : (test : ℕ → Bool) (P : ℕ) (xs : List ℕ) (os : List (Option ℕ)) → filled test P xs os [] ≡ os
filled-none test P [] os = refl
filled-none test P (x ∷ xs) [] = refl
filled-none test P (x ∷ xs) (o ∷ os) = refl

-- an index that no word goes to
pub filled-pass : (test : ℕ → Bool) (P x : ℕ) (xs : List ℕ) (o : Option ℕ) (os : List (Option ℕ)) (ws : List ℕ) → (ws ≡ []) ⊎ (test x ≡ false)
    → filled test P (x ∷ xs) (o ∷ os) ws ≡ o ∷ filled test P xs os ws
filled-pass test P x xs o os [] h = ap (λ r. o ∷ r) (sym (filled-none test P xs os))
filled-pass test P x xs o os (w ∷ ws) (inl none) = absurd (let bad : ⊥ = cc in bad)
filled-pass test P x xs o os (w ∷ ws) (inr off) = ap (λ b. cond b (named_by P w ∷ filled test P xs os ws) (o ∷ filled test P xs os (w ∷ ws))) off

-- an empty list at each place
pub nothing-at : (xs : List ℕ) (q : ℕ) → get_or {A = List ℕ} (map (λ _. []) xs) q [] ≡ []
nothing-at [] q = refl
nothing-at (x ∷ xs) zero = refl
nothing-at (x ∷ xs) (suc q) = nothing-at xs q

-- the answers of a directory name the owners that it has
pub answered-words : (P : ℕ) (D : ℕ → Option ℕ) (xs : List ℕ) (g : ℕ) → P ≤ 32 → ((h q : ℕ) → D h ≡ Some q → q < P) → stands g xs ≡ true → answered P xs (map (λ h. word_of (D h)) xs) g ≡ D g
answered-words P D [] g few below on = absurd (let bad : ⊥ = cc in bad)
answered-words P D (x ∷ xs) g few below on = go (x == g) refl on (answered-words P D xs g few below)
  where
    named : (o : Option ℕ) → D x ≡ o → named_by P (word_of o) ≡ o
    named None e = let past : nat_lt no_owner P ≡ false = grind (arith, nat_tests) in ap (λ b. cond b (Some no_owner) None) past
    named (Some q) e = let low : q < P = below x q e in let is : nat_lt q P ≡ true = grind (arith, nat_tests) in ap (λ b. cond b (Some q) None) is

    go : (b : Bool) → (x == g) ≡ b → b || stands g xs ≡ true → (stands g xs ≡ true → answered P xs (map (λ h. word_of (D h)) xs) g ≡ D g)
        → cond b (named_by P (word_of (D x))) (answered P xs (map (λ h. word_of (D h)) xs) g) ≡ D g
    go true e on more = named (D x) refl ∙ ap D (eqb-true x g e)
    go false e on more = more on

pub some-size : (o : Option ℕ) → is_some o ≡ true → (n : ℕ) × (o ≡ Some n)
some-size None e = cc
some-size (Some n) e = (n, refl)
