-- The first letters of a list: what holds of them, and how they come one after the other.
use Rattle.std.proofs.Common.{◌≡◌, Bool, true, false, cond, not, ◌||◌, List, [], ◌∷◌, ◌++◌, refl, sym, ap, ◌∙◌, append_assoc, append-nil}
use Rattle.std.specs.List.{list_all}
use Rattle.outside.specs.declared.name.Name.{Name}
use Rattle.outside.specs.Letters.{same_name}
use Rattle.outside.specs.MailRoom.{names_of}
use Rattle.peers.specs.Protocols.{Letter, firsts, firsts_beyond, first_names, names_beyond, stands_in}
use Rattle.peers.proofs.Members.{stands_in-push}
use Rattle.model_defs.proofs.Filters.{both, and, later, same_name-true}

-- whether a letter's name is none of these
abbrev pub is_unseen : List Name → Letter → Bool
is_unseen seen y = not (stands_in seen y.0)

neither : (a b : Bool) → not (a || b) ≡ true → (not a ≡ true) × (not b ≡ true)
neither true b e = cc
neither false b e = (refl, e)

pub all-weaker : {A : Type 0} (a b : A → Bool) → ((x : A) → a x ≡ true → b x ≡ true) → (xs : List A) → list_all a xs ≡ true → list_all b xs ≡ true
all-weaker a b h [] e = refl
all-weaker a b h (x ∷ xs) e = let t = both (a x) (list_all a xs) e in and (b x) _ (h x t.0) (all-weaker a b h xs t.1)

-- what holds of all letters holds of the first ones
pub firsts_beyond-all : (a : Letter → Bool) (seen : List Name) (xs : List Letter) → list_all a xs ≡ true → list_all a (firsts_beyond seen xs) ≡ true
firsts_beyond-all a seen [] e = refl
firsts_beyond-all a seen (x ∷ xs) e = go (stands_in seen x.0) (firsts_beyond-all a (seen ++ x.0 ∷ []) xs t.1)
  where
    t : (a x ≡ true) × (list_all a xs ≡ true)
    t = both (a x) (list_all a xs) e

    go : (b : Bool) → list_all a (firsts_beyond (seen ++ x.0 ∷ []) xs) ≡ true → list_all a (cond b [] (x ∷ []) ++ firsts_beyond (seen ++ x.0 ∷ []) xs) ≡ true
    go true rest = rest
    go false rest = and (a x) _ t.0 rest

-- a name that is unseen among more names is so among these, and differs from the one more
unseen-less : (seen : List Name) (n : Name) (y : Letter) → is_unseen (seen ++ n ∷ []) y ≡ true → (is_unseen seen y ≡ true) × (not (same_name y.0 n) ≡ true)
unseen-less seen n y e = neither (stands_in seen y.0) (same_name y.0 n) (ap not (sym (stands_in-push seen n y.0)) ∙ e)

-- their names were not seen
pub firsts_beyond-unseen : (seen : List Name) (xs : List Letter) → list_all (is_unseen seen) (firsts_beyond seen xs) ≡ true
firsts_beyond-unseen seen [] = refl
firsts_beyond-unseen seen (x ∷ xs) =
    go (stands_in seen x.0) refl (all-weaker (is_unseen (seen ++ x.0 ∷ [])) (is_unseen seen) (λ y e. (unseen-less seen x.0 y e).0) (firsts_beyond (seen ++ x.0 ∷ []) xs) (firsts_beyond-unseen (seen ++ x.0 ∷ []) xs))
  where
    go : (b : Bool) → stands_in seen x.0 ≡ b → list_all (is_unseen seen) (firsts_beyond (seen ++ x.0 ∷ []) xs) ≡ true
        → list_all (is_unseen seen) (cond b [] (x ∷ []) ++ firsts_beyond (seen ++ x.0 ∷ []) xs) ≡ true
    go true e rest = rest
    go false e rest = and (is_unseen seen x) _ (ap not e) rest

-- and differ from each other
abbrev pub AreLettersApart : List Letter → Type 0
AreLettersApart [] = Unit {0}
AreLettersApart (x ∷ xs) = (list_all (λ y. not (same_name y.0 x.0)) xs ≡ true) × AreLettersApart xs

pub firsts_beyond-apart : (seen : List Name) (xs : List Letter) → AreLettersApart (firsts_beyond seen xs)
firsts_beyond-apart seen [] = tt
firsts_beyond-apart seen (x ∷ xs) = go (stands_in seen x.0) (firsts_beyond-apart (seen ++ x.0 ∷ []) xs)
  where
    go : (b : Bool) → AreLettersApart (firsts_beyond (seen ++ x.0 ∷ []) xs) → AreLettersApart (cond b [] (x ∷ []) ++ firsts_beyond (seen ++ x.0 ∷ []) xs)
    go true rest = rest
    go false rest =
        (all-weaker (is_unseen (seen ++ x.0 ∷ [])) (λ y. not (same_name y.0 x.0)) (λ y e. (unseen-less seen x.0 y e).1) (firsts_beyond (seen ++ x.0 ∷ []) xs) (firsts_beyond-unseen (seen ++ x.0 ∷ []) xs), rest)

-- the first ones of two lists
pub firsts_beyond-append : (seen : List Name) (h t : List Letter) → firsts_beyond seen (h ++ t) ≡ firsts_beyond seen h ++ firsts_beyond (seen ++ names_of h) t
firsts_beyond-append seen [] t = ap (λ ns. firsts_beyond ns t) (sym (append-nil seen))
firsts_beyond-append seen (x ∷ h) t =
    ap (λ ls. cond (stands_in seen x.0) [] (x ∷ []) ++ ls)
    (firsts_beyond-append (seen ++ x.0 ∷ []) h t
    ∙ ap (λ ns. firsts_beyond (seen ++ x.0 ∷ []) h ++ firsts_beyond ns t) (append_assoc seen (x.0 ∷ []) (names_of h)))
    ∙ sym (append_assoc (cond (stands_in seen x.0) [] (x ∷ [])) (firsts_beyond (seen ++ x.0 ∷ []) h) (firsts_beyond (seen ++ x.0 ∷ names_of h) t))

-- their names are the first names
names-beyond : (seen : List Name) (g : List Letter) → names_of (firsts_beyond seen g) ≡ names_beyond seen (names_of g)
names-beyond seen [] = refl
names-beyond seen (l ∷ ls) = go (stands_in seen l.0) (names-beyond (seen ++ l.0 ∷ []) ls)
  where
    go : (b : Bool) → names_of (firsts_beyond (seen ++ l.0 ∷ []) ls) ≡ names_beyond (seen ++ l.0 ∷ []) (names_of ls)
        → names_of (cond b [] (l ∷ []) ++ firsts_beyond (seen ++ l.0 ∷ []) ls) ≡ cond b [] (l.0 ∷ []) ++ names_beyond (seen ++ l.0 ∷ []) (names_of ls)
    go true rest = rest
    go false rest = ap (λ ns. l.0 ∷ ns) rest

pub names-firsts : (g : List Letter) → names_of (firsts g) ≡ first_names (names_of g)
names-firsts g = names-beyond [] g

-- a name that was not seen is one of them
among-beyond : (seen : List Name) (g : List Letter) (y : Name) → stands_in (names_of g) y ≡ true → stands_in seen y ≡ false → stands_in (names_of (firsts_beyond seen g)) y ≡ true
among-beyond seen [] y e f = cc
among-beyond seen (x ∷ xs) y e f = go (same_name y x.0) refl e (stands_in seen x.0) refl (among-beyond (seen ++ x.0 ∷ []) xs y)
  where
    go : (s : Bool) → same_name y x.0 ≡ s → s || stands_in (names_of xs) y ≡ true → (b : Bool) → stands_in seen x.0 ≡ b
        → (stands_in (names_of xs) y ≡ true → stands_in (seen ++ x.0 ∷ []) y ≡ false → stands_in (names_of (firsts_beyond (seen ++ x.0 ∷ []) xs)) y ≡ true)
        → stands_in (names_of (cond b [] (x ∷ []) ++ firsts_beyond (seen ++ x.0 ∷ []) xs)) y ≡ true
    go true s e true k rest = let t = ap (stands_in seen) (same_name-true y x.0 s) in absurd (let bad : ⊥ = cc in bad)
    go true s e false k rest = ap (λ b. b || stands_in (names_of (firsts_beyond (seen ++ x.0 ∷ []) xs)) y) s
    go false s e true k rest = rest e (stands_in-push seen x.0 y ∙ ap (λ b. b || same_name y x.0) f ∙ s)
    go false s e false k rest = later (same_name y x.0) _ (rest e (stands_in-push seen x.0 y ∙ ap (λ b. b || same_name y x.0) f ∙ s))

pub among-firsts : (g : List Letter) (y : Name) → stands_in (names_of g) y ≡ true → stands_in (names_of (firsts g)) y ≡ true
among-firsts g y e = among-beyond [] g y e refl
