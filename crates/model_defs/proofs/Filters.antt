-- Filters, and names in lists.
use Rattle.std.proofs.Common.{◌≡◌, Bool, true, false, cond, not, ◌&&◌, ◌||◌, eqb, List, [], ◌∷◌, refl, ap, ◌∙◌}
use Rattle.std.specs.Prelude.{filter}
use Rattle.std.specs.List.{list_all}
use Rattle.std.proofs.lemmas.Bool.{eq-eqb, eqb-true}
use Rattle.outside.specs.declared.name.Name.{Name}
use Rattle.outside.specs.Letters.{same_name}
use Rattle.peers.specs.Protocols.{stands_in}

pub both : (a b : Bool) → a && b ≡ true → (a ≡ true) × (b ≡ true)
both true b e = (refl, e)
both false b e = cc

pub and : (a b : Bool) → a ≡ true → b ≡ true → a && b ≡ true
and a b e f = rw (e, f) refl

pub not-true : (a : Bool) → not a ≡ true → a ≡ false
not-true true e = cc
not-true false e = refl

pub later : (a b : Bool) → b ≡ true → a || b ≡ true
later true b e = refl
later false b e = e

module _ {A : Type 0} where
  pub filter-filter : (p q : A → Bool) (xs : List A) → filter p (filter q xs) ≡ filter (λ x. q x && p x) xs
  filter-filter p q [] = refl
  filter-filter p q (x ∷ xs) = go (q x) (filter-filter p q xs)
    where
      go : (b : Bool) → filter p (filter q xs) ≡ filter (λ x. q x && p x) xs → filter p (cond b (x ∷ filter q xs) (filter q xs)) ≡ cond (b && p x) (x ∷ filter (λ x. q x && p x) xs) (filter (λ x. q x && p x) xs)
      go true rest = ap (λ z. cond (p x) (x ∷ z) z) rest
      go false rest = rest

  pub filter-ext : (p q : A → Bool) → ((x : A) → p x ≡ q x) → (xs : List A) → filter p xs ≡ filter q xs
  filter-ext p q e xs = λ i. filter (λ x. e x i) xs

  -- a second test that the first implies keeps all
  pub filter-implied : (a p r : A → Bool) → ((x : A) → a x ≡ true → p x ≡ true → r x ≡ true) → (xs : List A) → list_all a xs ≡ true → filter p (filter r xs) ≡ filter p xs
  filter-implied a p r h [] e = refl
  filter-implied a p r h (x ∷ xs) e = go (p x) refl (r x) refl (filter-implied a p r h xs (both (a x) (list_all a xs) e).1)
    where
      go : (b : Bool) → p x ≡ b → (c : Bool) → r x ≡ c → filter p (filter r xs) ≡ filter p xs → filter p (cond c (x ∷ filter r xs) (filter r xs)) ≡ cond b (x ∷ filter p xs) (filter p xs)
      go true f true g rest = ap (λ z. cond z (x ∷ filter p (filter r xs)) (filter p (filter r xs))) f ∙ ap (λ z. x ∷ z) rest
      go true f false g rest = let t = h x (both (a x) (list_all a xs) e).0 f in absurd (let bad : ⊥ = cc in bad)
      go false f true g rest = ap (λ z. cond z (x ∷ filter p (filter r xs)) (filter p (filter r xs))) f ∙ rest
      go false f false g rest = rest

  pub filter-none : (a p : A → Bool) → ((x : A) → a x ≡ true → p x ≡ false) → (xs : List A) → list_all a xs ≡ true → filter p xs ≡ []
  filter-none a p h [] e = refl
  filter-none a p h (x ∷ xs) e =
      let t = both (a x) (list_all a xs) e in
      ap (λ z. cond z (x ∷ filter p xs) (filter p xs)) (h x t.0) ∙ filter-none a p h xs t.1

  pub filter-all : (a p : A → Bool) (xs : List A) → list_all a xs ≡ true → list_all a (filter p xs) ≡ true
  filter-all a p [] e = refl
  filter-all a p (x ∷ xs) e = go (p x) (filter-all a p xs (both (a x) (list_all a xs) e).1)
    where
      go : (b : Bool) → list_all a (filter p xs) ≡ true → list_all a (cond b (x ∷ filter p xs) (filter p xs)) ≡ true
      go true rest = and (a x) _ (both (a x) (list_all a xs) e).0 rest
      go false rest = rest

  -- what is kept passes
  pub filter-passes : (p : A → Bool) (xs : List A) → list_all p (filter p xs) ≡ true
  filter-passes p [] = refl
  filter-passes p (x ∷ xs) = go (p x) refl (filter-passes p xs)
    where
      go : (b : Bool) → p x ≡ b → list_all p (filter p xs) ≡ true → list_all p (cond b (x ∷ filter p xs) (filter p xs)) ≡ true
      go true e rest = and (p x) _ e rest
      go false e rest = rest

  pub all-both : (a b : A → Bool) (xs : List A) → list_all a xs ≡ true → list_all b xs ≡ true → list_all (λ x. a x && b x) xs ≡ true
  all-both a b [] e f = refl
  all-both a b (x ∷ xs) e f =
      let s = both (a x) (list_all a xs) e in
      let t = both (b x) (list_all b xs) f in
      and (a x && b x) _ (and (a x) (b x) s.0 t.0) (all-both a b xs s.1 t.1)

-- ---- names

pub same_name-true : (a b : Name) → same_name a b ≡ true → a ≡ b
same_name-true a b e =
    let h = both ((eqb a.phase b.phase) && (eqb a.from b.from)) (eqb a.to b.to) e in
    let k = both (eqb a.phase b.phase) (eqb a.from b.from) h.0 in
    λ i. record { phase = eqb-true a.phase b.phase k.0 i; from = eqb-true a.from b.from k.1 i; to = eqb-true a.to b.to h.1 i }

pub same_name-self : (a : Name) → same_name a a ≡ true
same_name-self a = and ((eqb a.phase a.phase) && (eqb a.from a.from)) (eqb a.to a.to) (and (eqb a.phase a.phase) (eqb a.from a.from) (eq-eqb a.phase a.phase refl) (eq-eqb a.from a.from refl)) (eq-eqb a.to a.to refl)

-- a name among those that pass a test
pub among-filter : (c : Name → Bool) (y : Name) (ns : List Name) → stands_in ns y ≡ true → c y ≡ true → stands_in (filter c ns) y ≡ true
among-filter c y [] e f = cc
among-filter c y (x ∷ xs) e f = go (same_name y x) refl e (c x) refl (among-filter c y xs)
  where
    go : (s : Bool) → same_name y x ≡ s → s || stands_in xs y ≡ true → (b : Bool) → c x ≡ b → (stands_in xs y ≡ true → c y ≡ true → stands_in (filter c xs) y ≡ true)
        → stands_in (cond b (x ∷ filter c xs) (filter c xs)) y ≡ true
    go true g e true k rest = ap (λ z. z || stands_in (filter c xs) y) g
    go true g e false k rest = let same = ap c (same_name-true y x g) in absurd (let bad : ⊥ = cc in bad)
    go false g e true k rest = later (same_name y x) _ (rest e f)
    go false g e false k rest = rest e f

pub among-kept : (c : Name → Bool) (y : Name) (ns : List Name) → stands_in (filter c ns) y ≡ true → (stands_in ns y ≡ true) × (c y ≡ true)
among-kept c y [] e = cc
among-kept c y (x ∷ xs) e = go (c x) refl e (among-kept c y xs)
  where
    go : (b : Bool) → c x ≡ b → stands_in (cond b (x ∷ filter c xs) (filter c xs)) y ≡ true → (stands_in (filter c xs) y ≡ true → (stands_in xs y ≡ true) × (c y ≡ true))
        → (same_name y x || stands_in xs y ≡ true) × (c y ≡ true)
    go true k e rest = by (same_name y x) refl e
      where
        by : (s : Bool) → same_name y x ≡ s → s || stands_in (filter c xs) y ≡ true → (same_name y x || stands_in xs y ≡ true) × (c y ≡ true)
        by true g e = (ap (λ z. z || stands_in xs y) g, ap c (same_name-true y x g) ∙ k)
        by false g e = let t = rest e in (later (same_name y x) _ t.0, t.1)
    go false k e rest = let t = rest e in (later (same_name y x) _ t.0, t.1)

-- what holds of each name of a list
pub among-all : (a : Name → Bool) (y : Name) (ns : List Name) → list_all a ns ≡ true → stands_in ns y ≡ true → a y ≡ true
among-all a y [] e f = cc
among-all a y (x ∷ xs) e f = go (same_name y x) refl f (among-all a y xs (both (a x) (list_all a xs) e).1)
  where
    go : (s : Bool) → same_name y x ≡ s → s || stands_in xs y ≡ true → (stands_in xs y ≡ true → a y ≡ true) → a y ≡ true
    go true g f rest = ap a (same_name-true y x g) ∙ (both (a x) (list_all a xs) e).0
    go false g f rest = rest f
