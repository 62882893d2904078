-- What a sender made of the letters before is what it makes of all letters.
use Rattle.std.proofs.Common.{◌≡◌, ◌∙◌, ℕ, Bool, true, false, cond, not, ◌&&◌, ◌||◌, inl, inr, List, [], ◌∷◌, ◌++◌, refl, sym, ap, subst, append_assoc, append-nil}
use Rattle.std.proofs.lemmas.Bool.{and_parts, or_cases, or_left, or_right, false≢true}
use Rattle.outside.specs.declared.name.Name.{Name}
use Rattle.outside.specs.Letters.{same_name}
use Rattle.outside.specs.MailRoom.{names_of}
use Rattle.outside.proofs.Names.{same_name-is, same_name-refl}
use Rattle.peers.specs.Protocols.{stands_in, Letter, Protocol, IsProtocol, firsts, flies, is_ready}
use Rattle.peers.specs.Runs.{EachAfter, EachComes, EachOfAll, may_come}
use Rattle.schedule.proofs.Contents.{content-stays}
use Rattle.schedule.proofs.Firsts.{firsts-push, stands_in-firsts}
use Rattle.schedule.proofs.Flying.{still_ready}
use Rattle.schedule.proofs.Members.{stands_in-push}
use Rattle.message_play.proofs.Deliveries.{names_of-push}

module _ (R : List ℕ → List ℕ → Type 0) (P : Protocol) (law : IsProtocol P) where
  -- what is before each of these names was delivered
  abbrev Closed : List Name → Type 0
  Closed names = (n : Name) → stands_in names n ≡ true → is_ready P names n ≡ true

  EachOfAll-push : (all letters : List Letter) (l : Letter) → EachOfAll R P all letters → R (P.content l.0 (firsts all)) l.1 →
      EachOfAll R P all (letters ++ l ∷ [])
  EachOfAll-push all [] l each here = (here, tt)
  EachOfAll-push all (x ∷ xs) l each here = (each.0, EachOfAll-push all xs l each.1 here)

  -- one more letter changes nothing of what was made before
  each_stays : (all : List Letter) (l : Letter) → Closed (names_of all) → (letters : List Letter) →
      ((n : Name) → stands_in (names_of letters) n ≡ true → stands_in (names_of all) n ≡ true) →
      EachOfAll R P all letters → EachOfAll R P (all ++ l ∷ []) letters
  each_stays all l closed [] among each = tt
  each_stays all l closed (x ∷ xs) among each =
      let here = among x.0 (or_left (same_name x.0 x.0) (stands_in (names_of xs) x.0) (same_name-refl x.0)) in (
        subst (λ made. R made x.1) (sym (content-stays P law all l x.0 (closed x.0 here))) each.0,
        each_stays all l closed xs (λ n s. among n (or_right (same_name n x.0) (stands_in (names_of xs) n) s)) each.1,
      )

  -- a letter that comes is ready
  comes_ready : (names : List Name) → Closed names → (n : Name) → may_come P names n ≡ true → is_ready P names n ≡ true
  comes_ready names closed n comes = elim (or_cases (stands_in names n) (flies P names n) comes) [
    | inl again ↦ closed n again
    | inr flew ↦
        let parts = and_parts (stands_in P.names n) (not (stands_in names n) && is_ready P names n) flew in
        (and_parts (not (stands_in names n)) (is_ready P names n) parts.1).1
  ]

  closed_next : (names : List Name) → Closed names → (n : Name) → may_come P names n ≡ true → Closed (names ++ n ∷ [])
  closed_next names closed n comes m s =
      still_ready P names n m (go (stands_in names m) refl (sym (stands_in-push names n m) ∙ s))
    where
      go : (b : Bool) → stands_in names m ≡ b → (stands_in names m || same_name m n) ≡ true → is_ready P names m ≡ true
      go true e t = closed m e
      go false e t =
          let same = same_name-is m n (sym (ap (λ b. b || same_name m n) e) ∙ t) in
          ap (is_ready P names) same ∙ comes_ready names closed n comes

  pub earlier_letters : (letters earlier : List Letter) → Closed (names_of earlier) → EachOfAll R P earlier (firsts earlier) →
      EachComes P (names_of earlier) (names_of letters) → EachAfter R P earlier letters →
      EachOfAll R P (earlier ++ letters) (firsts (earlier ++ letters))
  earlier_letters [] earlier closed made comes after = subst (λ ls. EachOfAll R P ls (firsts ls)) (sym (append-nil earlier)) made
  earlier_letters (x ∷ xs) earlier closed made comes after =
      subst (λ ls. EachOfAll R P ls (firsts ls)) (append_assoc earlier (x ∷ []) xs)
      (earlier_letters xs (earlier ++ x ∷ [])
      (subst Closed (sym (names_of-push earlier x)) (closed_next (names_of earlier) closed x.0 comes.0))
      (subst (EachOfAll R P (earlier ++ x ∷ [])) (sym (firsts-push earlier x)) (next (stands_in (names_of earlier) x.0)))
      (subst (λ ns. EachComes P ns (names_of xs)) (sym (names_of-push earlier x)) comes.1) after.1)
    where
      still : EachOfAll R P (earlier ++ x ∷ []) (firsts earlier)
      still = each_stays earlier x closed (firsts earlier) (λ n s. sym (stands_in-firsts earlier n) ∙ s) made

      next : (b : Bool) → EachOfAll R P (earlier ++ x ∷ []) (firsts earlier ++ cond b [] (x ∷ []))
      next true = subst (EachOfAll R P (earlier ++ x ∷ [])) (sym (append-nil (firsts earlier))) still
      next false =
          EachOfAll-push (earlier ++ x ∷ []) (firsts earlier) x still
          (subst (λ made. R made x.1)
          (sym (content-stays P law earlier x x.0 (comes_ready (names_of earlier) closed x.0 comes.0))) after.0)

  pub run_of_all : (letters : List Letter) → EachComes P [] (names_of letters) → EachAfter R P [] letters → EachOfAll R P letters (firsts letters)
  run_of_all letters comes after = earlier_letters letters [] (λ n s. absurd (false≢true s)) tt comes after
