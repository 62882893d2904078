-- One call that writes after another. `held` is what the calls hold back.
use Rattle.std.proofs.Common.{◌≡◌, ◌≤◌, ℕ, List, [], ◌++◌, Option, Result, Ok, Err, refl, ap, sym, ◌∙◌, append_assoc, arith}
use Rattle.std.proofs.lemmas.List.{append-nil}
use Rattle.outside.specs.Bytes.{with_bytes}
use Rattle.outside.specs.Faults.{Rose}
use Rattle.outside.specs.Writes.{TakesPrefix, HoldsBack, Writes, WritesAndHolds}
use Rattle.std.specs.Prelude.{IsErr}
use Rattle.outside.proofs.Taking.{Writes-failed, WritesAndHolds-failed, with_bytes-none, with_bytes-append, TakesPrefix-after, TakesPrefix-append, TakesPrefix-is, HoldsBack-is, HoldsBack-then, HoldsBack-more, HoldsBack-fault}

-- nothing was written yet
pub holds-all : (told : Option (List ℕ)) (text : List ℕ) → HoldsBack told told text text
holds-all told text = record { sent = []; taken = sym (with_bytes-none told); whole = refl }

-- of a text this is left: the next piece was put, and the others are left
module _ (old mid now : Option (List ℕ)) (held piece left left' whole : List ℕ) (before : HoldsBack old mid (held ++ left) whole) (next : left ≡ piece ++ left') where
  split : (held ++ piece) ++ left' ≡ held ++ left
  split = append_assoc held piece left' ∙ ap (λ (t : List ℕ). held ++ t) (sym next)

  pub put-next : (held' : List ℕ) → HoldsBack mid now held' (held ++ piece) → HoldsBack old now (held' ++ left') whole
  put-next held' then =
      HoldsBack-then old mid now (held ++ left) (held' ++ left') whole before
      (HoldsBack-is mid now (held' ++ left') (held' ++ left') ((held ++ piece) ++ left') (held ++ left) refl split
      (HoldsBack-more mid now held' (held ++ piece) left' then))

  pub put-fault : TakesPrefix mid now (held ++ piece) → TakesPrefix old now whole
  put-fault then =
      HoldsBack-fault old mid now (held ++ left) whole before
      (TakesPrefix-is mid now ((held ++ piece) ++ left') (held ++ left) split (TakesPrefix-append mid now (held ++ piece) left' then))

-- the same where nothing is held back: the next piece was written
module _ (old mid now : Option (List ℕ)) (piece left left' whole : List ℕ) (before : HoldsBack old mid left whole) (next : left ≡ piece ++ left') where
  pub left-next : now ≡ with_bytes mid piece → HoldsBack old now left' whole
  left-next then = HoldsBack-then old mid now left left' whole before (record { sent = piece; taken = then; whole = sym next })

  pub left-fault : TakesPrefix mid now piece → TakesPrefix old now whole
  left-fault then =
      HoldsBack-fault old mid now left whole before
      (TakesPrefix-is mid now (piece ++ left') left (sym next) (TakesPrefix-append mid now piece left' then))

-- nothing is left
pub put-end : (old now : Option (List ℕ)) (held left whole : List ℕ) → left ≡ [] → HoldsBack old now (held ++ left) whole → HoldsBack old now held whole
put-end old now held left whole none h =
    HoldsBack-is old now (held ++ left) held whole whole (sym (append-nil held) ∙ ap (λ (t : List ℕ). held ++ t) (sym none)) refl h

module _ {S T E : Type 0} (told : S → Option (List ℕ)) (faults : S → ℕ) (old mid new : S) where
  -- what was held back was sent, and then more was put
  pub after-sent : (sent held text : List ℕ) (r : Result T E) → told mid ≡ with_bytes (told old) sent → faults mid ≡ faults old →
      WritesAndHolds told faults mid new held text r → WritesAndHolds told faults old new held (sent ++ text) r
  after-sent sent held text (Ok x) first same then = record {
    taken = record {
      sent = sent ++ then.taken.sent;
      taken = then.taken.taken ∙ ap (λ (t : Option (List ℕ)). with_bytes t then.taken.sent) first ∙ with_bytes-append (told old) sent then.taken.sent;
      whole = append_assoc sent then.taken.sent held ∙ ap (λ (t : List ℕ). sent ++ t) then.taken.whole;
    };
    no_fault = then.no_fault ∙ same;
    prefix = tt;
    fault = tt;
    never_falls = omega (arith, same, then.never_falls);
  }
  after-sent sent held text (Err e) first same then = record {
    taken = tt;
    no_fault = tt;
    prefix = TakesPrefix-after (told old) (told mid) (told new) sent text first then.prefix;
    fault = omega (arith, same, then.fault);
    never_falls = omega (arith, same, then.never_falls);
  }

  -- one text was put, and then another
  pub after-put : (front held held' one other : List ℕ) (r : Result T E) → HoldsBack (told old) (told mid) held (front ++ one) → faults mid ≡ faults old →
      WritesAndHolds told faults mid new held' (held ++ other) r → WritesAndHolds told faults old new held' (front ++ (one ++ other)) r
  after-put front held held' one other (Ok x) first same then = record {
    taken = HoldsBack-is (told old) (told new) held' held' ((front ++ one) ++ other) (front ++ (one ++ other)) refl (append_assoc front one other)
        (HoldsBack-then (told old) (told mid) (told new) (held ++ other) held' ((front ++ one) ++ other)
        (HoldsBack-more (told old) (told mid) held (front ++ one) other first) then.taken);
    no_fault = then.no_fault ∙ same;
    prefix = tt;
    fault = tt;
    never_falls = omega (arith, same, then.never_falls);
  }
  after-put front held held' one other (Err e) first same then = record {
    taken = tt;
    no_fault = tt;
    prefix = TakesPrefix-is (told old) (told new) ((front ++ one) ++ other) (front ++ (one ++ other)) (append_assoc front one other)
        (HoldsBack-fault (told old) (told mid) (told new) (held ++ other) ((front ++ one) ++ other)
        (HoldsBack-more (told old) (told mid) held (front ++ one) other first) then.prefix);
    fault = omega (arith, same, then.fault);
    never_falls = omega (arith, same, then.never_falls);
  }

-- of two texts the first was put in part
pub put-cut : {S T E : Type 0} (told : S → Option (List ℕ)) (faults : S → ℕ) (old new : S) (front held one other : List ℕ) (r : Result T E) → IsErr r →
    TakesPrefix (told old) (told new) (front ++ one) → Rose (faults old) (faults new) → faults old ≤ faults new →
    WritesAndHolds told faults old new held (front ++ (one ++ other)) r
put-cut told faults old new front held one other r is prefix fault never =
    WritesAndHolds-failed told faults old old new held (front ++ (one ++ other)) r is refl
    (TakesPrefix-is (told old) (told new) ((front ++ one) ++ other) (front ++ (one ++ other)) (append_assoc front one other)
    (TakesPrefix-append (told old) (told new) (front ++ one) other prefix))
    fault never

-- what is held back is the whole text, in two parts
pub front-empty : (old now : Option (List ℕ)) (held front one : List ℕ) → front ≡ [] → HoldsBack old now held (front ++ one) → HoldsBack old now held one
front-empty old now held front one e h = HoldsBack-is old now held held (front ++ one) one refl (ap (λ (t : List ℕ). t ++ one) e) h

-- of two texts all of the first was put, or of both a part
pub put-first : {S T E : Type 0} (told : S → Option (List ℕ)) (faults : S → ℕ) (old new : S) (front one other : List ℕ) (r : Result T E) → IsErr r → front ≡ [] →
    TakesPrefix (told old) (told new) (front ++ one) → Rose (faults old) (faults new) → faults old ≤ faults new → Writes told faults old new (one ++ other) r
put-first told faults old new front one other r is e prefix fault never =
    Writes-failed told faults old old new (one ++ other) r is refl
    (TakesPrefix-append (told old) (told new) one other (TakesPrefix-is (told old) (told new) (front ++ one) one (ap (λ (t : List ℕ). t ++ one) e) prefix)) fault never

-- the one text was put in part
pub put-only : {S T E : Type 0} (told : S → Option (List ℕ)) (faults : S → ℕ) (old new : S) (front one : List ℕ) (r : Result T E) → IsErr r → front ≡ [] →
    TakesPrefix (told old) (told new) (front ++ one) → Rose (faults old) (faults new) → faults old ≤ faults new → Writes told faults old new one r
put-only told faults old new front one r is e prefix fault never =
    Writes-failed told faults old old new one r is refl
    (TakesPrefix-is (told old) (told new) (front ++ one) one (ap (λ (t : List ℕ). t ++ one) e) prefix) fault never
