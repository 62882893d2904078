-- The first ones of a list.
use Rattle.std.proofs.Common.{◌≡◌, ◌∙◌, Bool, true, false, cond, not, ◌&&◌, ◌||◌, List, [], ◌∷◌, ◌++◌, refl, sym, ap}
use Rattle.std.proofs.lemmas.Bool.{or_left, false≢true}
use Rattle.outside.specs.declared.name.Name.{Name}
use Rattle.outside.specs.Letters.{same_name}
use Rattle.outside.specs.MailRoom.{names_of}
use Rattle.outside.proofs.Names.{same_name-is}
use Rattle.peers.specs.Protocols.{Letter, first_names, firsts_beyond, names_beyond, stands_in}
use Rattle.peers.proofs.Members.{stands_in-push}

-- the names of the first letters are the first names
pub names_of-firsts_beyond : (seen : List Name) (letters : List Letter) → names_of (firsts_beyond seen letters) ≡ names_beyond seen (names_of letters)
names_of-firsts_beyond seen [] = refl
names_of-firsts_beyond seen (l ∷ ls) = go (stands_in seen l.0) (names_of-firsts_beyond (seen ++ l.0 ∷ []) ls)
  where
    go : (b : Bool) → names_of (firsts_beyond (seen ++ l.0 ∷ []) ls) ≡ names_beyond (seen ++ l.0 ∷ []) (names_of ls) →
        names_of (cond b [] (l ∷ []) ++ firsts_beyond (seen ++ l.0 ∷ []) ls) ≡ cond b [] (l.0 ∷ []) ++ names_beyond (seen ++ l.0 ∷ []) (names_of ls)
    go true rest = rest
    go false rest = ap (λ ns. l.0 ∷ ns) rest

-- By cases: whether n is the name x, whether it stands in the rest, whether it was seen, and whether x was.
kept : (is later was x_was : Bool) → (is ≡ true → x_was ≡ was) →
    (cond x_was false is || (later && not (was || is))) ≡ ((is || later) && not was)
kept true true true true h = refl
kept true true true false h = absurd (false≢true (h refl))
kept true true false true h = absurd (false≢true (sym (h refl)))
kept true true false false h = refl
kept true false true true h = refl
kept true false true false h = absurd (false≢true (h refl))
kept true false false true h = absurd (false≢true (sym (h refl)))
kept true false false false h = refl
kept false true true true h = refl
kept false true true false h = refl
kept false true false true h = refl
kept false true false false h = refl
kept false false true true h = refl
kept false false true false h = refl
kept false false false true h = refl
kept false false false false h = refl

-- the names that were not seen
pub stands_in-names_beyond : (seen names : List Name) (n : Name) →
    stands_in (names_beyond seen names) n ≡ (stands_in names n && not (stands_in seen n))
stands_in-names_beyond seen [] n = refl
stands_in-names_beyond seen (x ∷ xs) n =
    go (stands_in seen x) (names_beyond (seen ++ x ∷ []) xs)
    ∙ ap (λ b. cond (stands_in seen x) false (same_name n x) || b)
    (stands_in-names_beyond (seen ++ x ∷ []) xs n ∙ ap (λ b. stands_in xs n && not b) (stands_in-push seen x n))
    ∙ kept (same_name n x) (stands_in xs n) (stands_in seen n) (stands_in seen x) (λ s. ap (stands_in seen) (sym (same_name-is n x s)))
  where
    go : (b : Bool) (rest : List Name) → stands_in (cond b [] (x ∷ []) ++ rest) n ≡ (cond b false (same_name n x) || stands_in rest n)
    go true rest = refl
    go false rest = refl

pub stands_in-first_names : (names : List Name) (n : Name) → stands_in (first_names names) n ≡ stands_in names n
stands_in-first_names names n = stands_in-names_beyond [] names n ∙ and_true (stands_in names n)
  where
    and_true : (a : Bool) → (a && true) ≡ a
    and_true true = refl
    and_true false = refl

-- names of which each is the first one stay, where fewer were seen
pub names_beyond-again : (few many names : List Name) → ((n : Name) → stands_in few n ≡ true → stands_in many n ≡ true) →
    names_beyond few (names_beyond many names) ≡ names_beyond many names
names_beyond-again few many [] fewer = refl
names_beyond-again few many (x ∷ xs) fewer =
    go (stands_in many x) refl (names_beyond-again few (many ++ x ∷ []) xs) (names_beyond-again (few ++ x ∷ []) (many ++ x ∷ []) xs)
  where
    more : (n : Name) → stands_in few n ≡ true → stands_in (many ++ x ∷ []) n ≡ true
    more n s = stands_in-push many x n ∙ or_left (stands_in many n) (same_name n x) (fewer n s)

    both : (n : Name) → stands_in (few ++ x ∷ []) n ≡ true → stands_in (many ++ x ∷ []) n ≡ true
    both n s = stands_in-push many x n ∙ join (stands_in few n) (stands_in many n) (same_name n x) (fewer n) (sym (stands_in-push few x n) ∙ s)
      where
        join : (a b c : Bool) → (a ≡ true → b ≡ true) → (a || c) ≡ true → (b || c) ≡ true
        join true b c h e = or_left b c (h refl)
        join false true c h e = refl
        join false false c h e = e

    unseen : stands_in many x ≡ false → stands_in few x ≡ false
    unseen e = by (stands_in few x) (fewer x)
      where
        by : (b : Bool) → (b ≡ true → stands_in many x ≡ true) → b ≡ false
        by true h = absurd (false≢true (sym e ∙ h refl))
        by false h = refl

    go : (b : Bool) → stands_in many x ≡ b →
        (((n : Name) → stands_in few n ≡ true → stands_in (many ++ x ∷ []) n ≡ true) →
        names_beyond few (names_beyond (many ++ x ∷ []) xs) ≡ names_beyond (many ++ x ∷ []) xs) →
        (((n : Name) → stands_in (few ++ x ∷ []) n ≡ true → stands_in (many ++ x ∷ []) n ≡ true) →
        names_beyond (few ++ x ∷ []) (names_beyond (many ++ x ∷ []) xs) ≡ names_beyond (many ++ x ∷ []) xs) →
        names_beyond few (cond b [] (x ∷ []) ++ names_beyond (many ++ x ∷ []) xs) ≡ cond b [] (x ∷ []) ++ names_beyond (many ++ x ∷ []) xs
    go true e skipped kept = skipped more
    go false e skipped kept =
        ap (λ b. cond b [] (x ∷ []) ++ names_beyond (few ++ x ∷ []) (names_beyond (many ++ x ∷ []) xs)) (unseen e)
        ∙ ap (λ ns. x ∷ ns) (kept both)
