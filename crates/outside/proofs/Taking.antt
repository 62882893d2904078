-- What a sink has taken after one write and another.
use Rattle.std.proofs.Common.{◌≡◌, ℕ, ◌+◌, ◌≤◌, List, [], ◌++◌, Option, None, Some, length, take, drop, min, refl, ap, sym, ◌∙◌, append_assoc, length-drop, ◌-◌, arith}
use Rattle.std.specs.Prelude.{Result, Ok, Err, IsErr}
use Rattle.std.proofs.lemmas.List.{append-nil, take-append-drop, drop-take, take-take, take_min, take-append-le}
use Rattle.std.proofs.Math.Seq.{take-append-add, take-length}
use Rattle.outside.specs.Bytes.{with_bytes}
use Rattle.outside.specs.Faults.{Rose}
use Rattle.outside.specs.Writes.{TakesPrefix, HoldsBack, Writes, WritesAndHolds}

pub with_bytes-none : (told : Option (List ℕ)) → with_bytes told [] ≡ told
with_bytes-none None = refl
with_bytes-none (Some t) = ap Some (append-nil t)

pub with_bytes-append : (told : Option (List ℕ)) (xs ys : List ℕ) →
    with_bytes (with_bytes told xs) ys ≡ with_bytes told (xs ++ ys)
with_bytes-append None xs ys = refl
with_bytes-append (Some t) xs ys = ap Some (append_assoc t xs ys)

take-on : (i n : ℕ) (xs : List ℕ) → take i xs ++ take n (drop i xs) ≡ take (i + n) xs
take-on i n xs =
    let i_first : i ≤ i + n = omega arith in
    rw (← take-take i (i + n) xs i_first, ← drop-take i n xs) (take-append-drop i (take (i + n) xs))

pub take-rest : (i : ℕ) (xs : List ℕ) → take (length xs - i) (drop i xs) ≡ drop i xs
take-rest i xs = rw (← length-drop i xs) (take-length (drop i xs))

-- one write after another
pub with_bytes-on : (before mid now : Option (List ℕ)) (xs : List ℕ) (i n : ℕ) → mid ≡ with_bytes before (take i xs) →
    now ≡ with_bytes mid (take n (take (length xs - i) (drop i xs))) → now ≡ with_bytes before (take (i + n) xs)
with_bytes-on before mid now xs i n first then =
    then ∙ ap (λ (t : List ℕ). with_bytes mid (take n t)) (take-rest i xs)
    ∙ ap (λ (t : Option (List ℕ)). with_bytes t (take n (drop i xs))) first
    ∙ with_bytes-append before (take i xs) (take n (drop i xs))
    ∙ ap (with_bytes before) (take-on i n xs)

-- a prefix of what follows a text that was taken
pub TakesPrefix-after : (old mid now : Option (List ℕ)) (xs ys : List ℕ) → mid ≡ with_bytes old xs →
    TakesPrefix mid now ys → TakesPrefix old now (xs ++ ys)
TakesPrefix-after old mid now xs ys first then = (
  length xs + then.0,
  then.1 ∙ ap (λ (t : Option (List ℕ)). with_bytes t (take then.0 ys)) first
      ∙ with_bytes-append old xs (take then.0 ys)
      ∙ ap (with_bytes old) (sym (take-append-add xs ys then.0)),
)

-- a prefix of a text is a prefix of a longer one
pub TakesPrefix-append : (old now : Option (List ℕ)) (xs ys : List ℕ) → TakesPrefix old now xs →
    TakesPrefix old now (xs ++ ys)
TakesPrefix-append old now xs ys p =
    let within : min p.0 (length xs) ≤ length xs = omega arith in (
      min p.0 (length xs),
      p.1 ∙ ap (with_bytes old) (sym (take_min p.0 xs) ∙ sym (take-append-le (min p.0 (length xs)) xs ys within)),
    )

-- the same of texts that are equal
pub TakesPrefix-is : (old now : Option (List ℕ)) (text text' : List ℕ) → text ≡ text' → TakesPrefix old now text →
    TakesPrefix old now text'
TakesPrefix-is old now text text' same p = (p.0, p.1 ∙ ap (λ (t : List ℕ). with_bytes old (take p.0 t)) same)

pub HoldsBack-is : (old now : Option (List ℕ)) (held held' text text' : List ℕ) → held' ≡ held → text ≡ text' →
    HoldsBack old now held text → HoldsBack old now held' text'
HoldsBack-is old now held held' text text' same_held same h = record {
  sent = h.sent;
  taken = h.taken;
  whole = ap (λ (t : List ℕ). h.sent ++ t) same_held ∙ h.whole ∙ same;
}

-- what is held back may go to the sink in part
pub HoldsBack-then : (old mid now : Option (List ℕ)) (held held' text : List ℕ) → HoldsBack old mid held text →
    HoldsBack mid now held' held → HoldsBack old now held' text
HoldsBack-then old mid now held held' text first then = record {
  sent = first.sent ++ then.sent;
  taken = then.taken ∙ ap (λ (t : Option (List ℕ)). with_bytes t then.sent) first.taken
      ∙ with_bytes-append old first.sent then.sent;
  whole = append_assoc first.sent then.sent held' ∙ ap (λ (t : List ℕ). first.sent ++ t) then.whole ∙ first.whole;
}

-- what is held back may grow at its end
pub HoldsBack-more : (old now : Option (List ℕ)) (held text more : List ℕ) → HoldsBack old now held text →
    HoldsBack old now (held ++ more) (text ++ more)
HoldsBack-more old now held text more h = record {
  sent = h.sent;
  taken = h.taken;
  whole = sym (append_assoc h.sent held more) ∙ ap (λ (t : List ℕ). t ++ more) h.whole;
}

-- nothing is held back any more
pub HoldsBack-all : (old mid now : Option (List ℕ)) (held text : List ℕ) → HoldsBack old mid held text →
    now ≡ with_bytes mid held → now ≡ with_bytes old text
HoldsBack-all old mid now held text h then =
    then ∙ ap (λ (t : Option (List ℕ)). with_bytes t held) h.taken ∙ with_bytes-append old h.sent held
    ∙ ap (with_bytes old) h.whole

-- a fault while the held bytes went out left a prefix of the text
pub HoldsBack-fault : (old mid now : Option (List ℕ)) (held text : List ℕ) → HoldsBack old mid held text →
    TakesPrefix mid now held → TakesPrefix old now text
HoldsBack-fault old mid now held text h p =
    TakesPrefix-is old now (h.sent ++ held) text h.whole (TakesPrefix-after old mid now h.sent held h.taken p)

-- what was held back is written
pub Writes-held : {S T E : Type 0} (told : S → Option (List ℕ)) (faults : S → ℕ) (old mid new : S) (held text : List ℕ)
    (result : Result T E) → HoldsBack (told old) (told mid) held text → faults mid ≡ faults old →
    Writes told faults mid new held result → Writes told faults old new text result
Writes-held told faults old mid new held text (Ok x) before same writes = record {
  taken = HoldsBack-all (told old) (told mid) (told new) held text before writes.taken;
  no_fault = writes.no_fault ∙ same;
  prefix = tt;
  fault = tt;
  never_falls = omega (arith, same, writes.never_falls);
}
Writes-held told faults old mid new held text (Err e) before same writes = record {
  taken = tt;
  no_fault = tt;
  prefix = HoldsBack-fault (told old) (told mid) (told new) held text before writes.prefix;
  fault = omega (arith, same, writes.fault);
  never_falls = omega (arith, same, writes.never_falls);
}

-- a write that failed after others that did not
pub Writes-failed : {S T E : Type 0} (told : S → Option (List ℕ)) (faults : S → ℕ) (old mid new : S) (text : List ℕ)
    (result : Result T E) → IsErr result → faults mid ≡ faults old → TakesPrefix (told old) (told new) text →
    Rose (faults mid) (faults new) → faults mid ≤ faults new → Writes told faults old new text result
Writes-failed told faults old mid new text (Ok x) is same prefix fault never = absurd (cc)
Writes-failed told faults old mid new text (Err e) is same prefix fault never = record {
  taken = tt;
  no_fault = tt;
  prefix = prefix;
  fault = omega (arith, same, fault);
  never_falls = omega (arith, same, never);
}

pub WritesAndHolds-failed : {S T E : Type 0} (told : S → Option (List ℕ)) (faults : S → ℕ) (old mid new : S)
    (held text : List ℕ) (result : Result T E) → IsErr result → faults mid ≡ faults old →
    TakesPrefix (told old) (told new) text → Rose (faults mid) (faults new) → faults mid ≤ faults new →
    WritesAndHolds told faults old new held text result
WritesAndHolds-failed told faults old mid new held text (Ok x) is same prefix fault never = absurd (cc)
WritesAndHolds-failed told faults old mid new held text (Err e) is same prefix fault never = record {
  taken = tt;
  no_fault = tt;
  prefix = prefix;
  fault = omega (arith, same, fault);
  never_falls = omega (arith, same, never);
}
