-- Texts that go to a sink one after the other.
use Rattle.std.proofs.Common.{◌≡◌, ◌≤◌, ◌+◌, ◌<◌, ℕ, suc, List, ◌++◌, Option, length, get_or, drop, refl, ap, sym, ◌∙◌, subst, add-one, drop-cons, Bor, Result, Ok, Err}
use Rattle.std.proofs.Math.Seq.{take-length}
use Rattle.outside.specs.Bytes.{with_bytes}
use Rattle.outside.specs.Writes.{TakesPrefix, HoldsBack, Writes}
use Rattle.outside.specs.declared.sinks.SinkFault.{SinkFault}
use Rattle.std.specs.Prelude.{IsErr}
use Rattle.std.specs.List.{flat_map}
use Rattle.outside.specs.Faults.{Rose}
use Rattle.outside.proofs.Taking.{HoldsBack-then, HoldsBack-fault, TakesPrefix-append, TakesPrefix-is, Writes-failed, Writes-held}
use Rattle.tpx.specs.Messages.{joined}
use Rattle.tpx.specs.Streams.{Says}

-- the texts from i on are that at i and those behind it
pub joined-drop : (pieces : List (Bor (List ℕ))) (i : ℕ) (d : Bor (List ℕ)) (piece : List ℕ) → i < length pieces → piece ≡ (get_or pieces i d).now →
    joined (drop i pieces) ≡ piece ++ joined (drop (i + 1) pieces)
joined-drop pieces i d piece h e =
    rw add-one (ap joined (drop-cons pieces i d h) ∙ ap (λ (t : List ℕ). t ++ joined (drop (suc i) pieces)) (sym e))

-- one more text was taken
pub held-next : (old mid now : Option (List ℕ)) (pieces : List (Bor (List ℕ))) (i : ℕ) (d : Bor (List ℕ)) (piece text : List ℕ) →
    i < length pieces → piece ≡ (get_or pieces i d).now →
    HoldsBack old mid (joined (drop i pieces)) text → now ≡ with_bytes mid piece →
    HoldsBack old now (joined (drop (i + 1) pieces)) text
held-next old mid now pieces i d piece text h e first then =
    HoldsBack-then old mid now (joined (drop i pieces)) (joined (drop (i + 1) pieces)) text first (record {
      sent = piece;
      taken = then;
      whole = sym (joined-drop pieces i d piece h e);
    })

-- of the next text a prefix was taken
pub held-fault : (old mid now : Option (List ℕ)) (pieces : List (Bor (List ℕ))) (i : ℕ) (d : Bor (List ℕ)) (piece text : List ℕ) →
    i < length pieces → piece ≡ (get_or pieces i d).now →
    HoldsBack old mid (joined (drop i pieces)) text → TakesPrefix mid now piece → TakesPrefix old now text
held-fault old mid now pieces i d piece text h e first then =
    HoldsBack-fault old mid now (joined (drop i pieces)) text first
    (subst (λ (t : List ℕ). TakesPrefix mid now t) (sym (joined-drop pieces i d piece h e))
    (TakesPrefix-append mid now piece (joined (drop (i + 1) pieces)) then))

-- the whole of a text is a prefix of it
prefix-whole : (old now : Option (List ℕ)) (text : List ℕ) → now ≡ with_bytes old text → TakesPrefix old now text
prefix-whole old now text e = (length text, e ∙ ap (with_bytes old) (sym (take-length text)))

-- a message that was written, or of which a prefix was
pub says-written : {S : Type 0} (told : S → Option (List ℕ)) (faults : S → ℕ) (r : Result (Unit {0}) SinkFault) (old now : S) (text : List ℕ) →
    Writes told faults old now text r → Says told faults old now text
says-written told faults (Ok x) old now text w =
    record { whole = λ n. w.taken; prefix = prefix-whole (told old) (told now) text w.taken }
says-written told faults (Err x) old now text w = record { whole = λ n. absurd (n w.fault); prefix = w.prefix }

-- one text was written, and then another
pub then-written : {S T E : Type 0} (told : S → Option (List ℕ)) (faults : S → ℕ) (old mid new : S) (one other : List ℕ) (r : Result T E) →
    told mid ≡ with_bytes (told old) one → faults mid ≡ faults old → Writes told faults mid new other r → Writes told faults old new (one ++ other) r
then-written told faults old mid new one other r first same then =
    Writes-held told faults old mid new other (one ++ other) r (record { sent = one; taken = first; whole = refl }) same then

-- of two texts the first was written in part
pub cut-short : {S T E : Type 0} (told : S → Option (List ℕ)) (faults : S → ℕ) (old new : S) (one other : List ℕ) (r : Result T E) → IsErr r →
    TakesPrefix (told old) (told new) one → Rose (faults old) (faults new) → faults old ≤ faults new → Writes told faults old new (one ++ other) r
cut-short told faults old new one other r is prefix fault never =
    Writes-failed told faults old old new (one ++ other) r is refl (TakesPrefix-append (told old) (told new) one other prefix) fault never

-- the texts of a list from i on are that at i and those behind it
pub flat_map-drop : {X : Type 0} (text : X → List ℕ) (xs : List X) (i : ℕ) (d : X) → i < length xs → flat_map text (drop i xs) ≡ text (get_or xs i d) ++ flat_map text (drop (i + 1) xs)
flat_map-drop text xs i d h = rw add-one (ap (flat_map text) (drop-cons xs i d h))

-- of a text this is left: the next piece was written, in whole or in part
module _ (old mid now : Option (List ℕ)) (piece left left' whole : List ℕ) (before : HoldsBack old mid left whole) (next : left ≡ piece ++ left') where
  pub left-next : now ≡ with_bytes mid piece → HoldsBack old now left' whole
  left-next then = HoldsBack-then old mid now left left' whole before (record { sent = piece; taken = then; whole = sym next })

  pub left-fault : TakesPrefix mid now piece → TakesPrefix old now whole
  left-fault then =
      HoldsBack-fault old mid now left whole before
      (TakesPrefix-is mid now (piece ++ left') left (sym next) (TakesPrefix-append mid now piece left' then))
