-- The first letters of a list.
use Rattle.std.proofs.Common.{◌≡◌, ◌∙◌, Bool, true, false, cond, not, ◌&&◌, ◌||◌, List, [], ◌∷◌, ◌++◌, refl, sym, ap, append_assoc, append-nil}
use Rattle.outside.specs.declared.name.Name.{Name}
use Rattle.outside.specs.Letters.{same_name}
use Rattle.outside.specs.MailRoom.{names_of}
use Rattle.outside.proofs.Names.{same_name-is}
use Rattle.peers.specs.Protocols.{stands_in, Letter, firsts, firsts_beyond}
use Rattle.schedule.proofs.Members.{stands_in-push}
use Rattle.schedule.proofs.Tables.{and_true, seen_then_skipped, unseen_then_kept}

-- one more letter, where the names `seen` came earlier
pub firsts_beyond-push : (seen : List Name) (letters : List Letter) (l : Letter) →
    firsts_beyond seen (letters ++ l ∷ []) ≡ firsts_beyond seen letters ++ cond (stands_in (seen ++ names_of letters) l.0) [] (l ∷ [])
firsts_beyond-push seen [] l =
    append-nil (cond (stands_in seen l.0) [] (l ∷ [])) ∙ ap (λ names. cond (stands_in names l.0) [] (l ∷ [])) (sym (append-nil seen))
firsts_beyond-push seen (x ∷ xs) l =
    ap (λ ys. cond (stands_in seen x.0) [] (x ∷ []) ++ ys)
    (firsts_beyond-push (seen ++ x.0 ∷ []) xs l
    ∙ ap (λ names. firsts_beyond (seen ++ x.0 ∷ []) xs ++ cond (stands_in names l.0) [] (l ∷ [])) (append_assoc seen (x.0 ∷ []) (names_of xs)))
    ∙ sym (append_assoc (cond (stands_in seen x.0) [] (x ∷ [])) (firsts_beyond (seen ++ x.0 ∷ []) xs) (cond (stands_in (seen ++ names_of (x ∷ xs)) l.0) [] (l ∷ [])))

-- one more letter counts where none with its name came earlier
pub firsts-push : (letters : List Letter) (l : Letter) →
    firsts (letters ++ l ∷ []) ≡ firsts letters ++ cond (stands_in (names_of letters) l.0) [] (l ∷ [])
firsts-push letters l = firsts_beyond-push [] letters l

-- the first letters have the names that were not seen
pub stands_in-firsts_beyond : (seen : List Name) (letters : List Letter) (n : Name) →
    stands_in (names_of (firsts_beyond seen letters)) n ≡ (stands_in (names_of letters) n && not (stands_in seen n))
stands_in-firsts_beyond seen [] n = refl
stands_in-firsts_beyond seen (x ∷ xs) n = go (stands_in seen x.0) refl
    (stands_in-firsts_beyond (seen ++ x.0 ∷ []) xs n
    ∙ ap (λ b. stands_in (names_of xs) n && not b) (stands_in-push seen x.0 n))
  where
    go : (b : Bool) → stands_in seen x.0 ≡ b →
        stands_in (names_of (firsts_beyond (seen ++ x.0 ∷ []) xs)) n ≡ (stands_in (names_of xs) n && not (stands_in seen n || same_name n x.0)) →
        stands_in (names_of (cond b [] (x ∷ []) ++ firsts_beyond (seen ++ x.0 ∷ []) xs)) n
        ≡ ((same_name n x.0 || stands_in (names_of xs) n) && not (stands_in seen n))
    go true e later =
        later ∙ seen_then_skipped (same_name n x.0) (stands_in (names_of xs) n) (stands_in seen n)
        (λ same. ap (stands_in seen) (same_name-is n x.0 same) ∙ e)
    go false e later =
        ap (λ b. same_name n x.0 || b) later
        ∙ unseen_then_kept (same_name n x.0) (stands_in (names_of xs) n) (stands_in seen n)
        (λ same. ap (stands_in seen) (same_name-is n x.0 same) ∙ e)

-- the first letters have the names of all
pub stands_in-firsts : (letters : List Letter) (n : Name) → stands_in (names_of (firsts letters)) n ≡ stands_in (names_of letters) n
stands_in-firsts letters n = stands_in-firsts_beyond [] letters n ∙ and_true (stands_in (names_of letters) n)
