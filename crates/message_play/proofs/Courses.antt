-- The letters given, with one more.
use Rattle.std.proofs.Common.{true, ◌≡◌, ◌∙◌, ℕ, List, [], ◌∷◌, ◌++◌, Option, Some, None, refl, sym, ap, subst, append_assoc, append-nil, IsTrue}
use Rattle.std.specs.Option.{option_map}
use Rattle.outside.specs.declared.name.Name.{Name}
use Rattle.outside.specs.Letters.{IsAlike, with_given}
use Rattle.outside.specs.MailRoom.{names_of}
use Rattle.peers.specs.Protocols.{Letter, Protocol, firsts}
use Rattle.peers.specs.Runs.{EachAfter, EachComes, may_come}
use Rattle.message_play.specs.Plays.{IsCourse, IsPendingMade, WireState}
use Rattle.message_play.proofs.Deliveries.{names_of-push}

pub EachAfter-push : (R : List ℕ → List ℕ → Type 0) (P : Protocol) (earlier letters : List Letter) (l : Letter) →
    EachAfter R P earlier letters → R (P.content l.0 (firsts (earlier ++ letters))) l.1 → EachAfter R P earlier (letters ++ l ∷ [])
EachAfter-push R P earlier [] l all here = (subst (λ ls. R (P.content l.0 (firsts ls)) l.1) (append-nil earlier) here, tt)
EachAfter-push R P earlier (x ∷ xs) l all here = (
  all.0,
  EachAfter-push R P (earlier ++ x ∷ []) xs l all.1
      (subst (λ ls. R (P.content l.0 (firsts ls)) l.1) (sym (append_assoc earlier (x ∷ []) xs)) here),
)

told-push : (told : Option (List Letter)) (letters : List Letter) (l : Letter) →
    with_given (option_map (λ t. t ++ letters) told) l.0 l.1 ≡ option_map (λ t. t ++ (letters ++ l ∷ [])) told
told-push None letters l = refl
told-push (Some t) letters l = ap Some (append_assoc t letters (l ∷ []))

-- one more name that may come
pub EachComes-push : (P : Protocol) (delivered names : List Name) (n : Name) → EachComes P delivered names →
    may_come P (delivered ++ names) n ≡ true → EachComes P delivered (names ++ n ∷ [])
EachComes-push P delivered [] n each comes = (subst (λ d. may_come P d n ≡ true) (append-nil delivered) comes, tt)
EachComes-push P delivered (m ∷ ms) n each comes = (
  each.0,
  EachComes-push P (delivered ++ m ∷ []) ms n each.1
      (subst (λ d. may_come P d n ≡ true) (sym (append_assoc delivered (m ∷ []) ms)) comes),
)

pub course-push : (P : Protocol) (begun was now : WireState) (letters : List Letter) (n : Name) (bytes : List ℕ) →
    IsCourse P begun was letters → now.taken ≡ was.taken ++ n ∷ [] → now.given ≡ with_given was.given n bytes →
    now.is_honest ≡ was.is_honest → IsAlike (P.content n (firsts letters)) bytes → may_come P (names_of letters) n ≡ true →
    (IsTrue was.is_honest → bytes ≡ P.content n (firsts letters)) →
    IsPendingMade P (letters ++ (n, bytes) ∷ []) now.pending → IsCourse P begun now (letters ++ (n, bytes) ∷ [])
course-push P begun was now letters n bytes course taken given honesty alike may exact pending = record {
  taken = taken ∙ ap (λ ns. ns ++ n ∷ []) course.taken ∙ append_assoc begun.taken (names_of letters) (n ∷ [])
      ∙ ap (λ ns. begun.taken ++ ns) (sym (names_of-push letters (n, bytes)));
  given = given ∙ ap (λ told. with_given told n bytes) course.given ∙ told-push begun.given letters (n, bytes);
  same_honesty = honesty ∙ course.same_honesty;
  comes = subst (EachComes P []) (sym (names_of-push letters (n, bytes))) (EachComes-push P [] (names_of letters) n course.comes may);
  run = EachAfter-push IsAlike P [] letters (n, bytes) course.run alike;
  exact = λ honest. EachAfter-push (λ posted given. given ≡ posted) P [] letters (n, bytes) (course.exact honest) (exact (course.same_honesty ∙ honest));
  pending = pending;
}
