-- What a flow keeps: what is in flight has a mark, and room to remember its delivery.
use Rattle.std.proofs.Common.{◌≡◌, ◌∙◌, ℕ, zero, suc, ◌+◌, ◌<◌, ◌≤◌, Bool, true, false, cond, not, ◌&&◌, ◌||◌, eqb, List, [], ◌∷◌, ◌++◌, None, Some, Result, Ok, Err, length, replicate, get_or, refl, sym, ap, subst, arith}
use Rattle.std.specs.Prelude.{OnErr}
use Rattle.std.proofs.Math.ListN.{set}
use Rattle.std.proofs.lemmas.Bool.{false≢true}
use Rattle.std.proofs.lemmas.List.{length-append}
use Rattle.outside.specs.declared.name.Name.{Name}
use Rattle.outside.specs.Letters.{same_name}
use Rattle.outside.proofs.Names.{same_name-is}
use Rattle.peers.specs.Protocols.{stands_in}
use Rattle.peers.proofs.Members.{stands_in-push}
use Rattle.schedule.specs.Flights.{Flight, flight_after, without}
use Rattle.schedule.specs.Registers.{AreApart, AreSet, AreSetBehind, IsFlow, is_picked, number_in, picked}
use Rattle.schedule.proofs.Members.{stands_in-filter}
use Rattle.schedule.proofs.Registers.{length-cleared, number-stands, picked-cleared, same-swap, none-stands, stands-picked}

ones-set : (k : ℕ) → AreSet (replicate k 1)
ones-set zero = tt
ones-set (suc k) = (refl, ones-set k)

set-longer : (ms : List ℕ) (k : ℕ) → AreSet ms → AreSet (ms ++ replicate k 1)
set-longer [] k are = ones-set k
set-longer (m ∷ ms) k are = (are.0, set-longer ms k are.1)

behind-longer : (ns : List Name) (ms : List ℕ) (k : ℕ) → AreSetBehind ns ms → AreSetBehind ns (ms ++ replicate k 1)
behind-longer [] ms k are = set-longer ms k are
behind-longer (n ∷ ns) [] k are = absurd are
behind-longer (n ∷ ns) (m ∷ ms) k are = behind-longer ns ms k are

behind-push : (ns : List Name) (ms : List ℕ) (x : Name) → AreSetBehind ns ms → length ns < length ms → AreSetBehind (ns ++ x ∷ []) ms
behind-push [] [] x are h = absurd (omega arith)
behind-push [] (m ∷ ms) x are h = are.1
behind-push (n ∷ ns) [] x are h = absurd are
behind-push (n ∷ ns) (m ∷ ms) x are h = behind-push ns ms x are (omega arith)

behind-cleared : (ns : List Name) (ms : List ℕ) (at : ℕ) → AreSetBehind ns ms → at < length ns → AreSetBehind ns (set ms at 0)
behind-cleared [] ms at are h = absurd (omega arith)
behind-cleared (n ∷ ns) [] at are h = absurd are
behind-cleared (n ∷ ns) (m ∷ ms) zero are h = are
behind-cleared (n ∷ ns) (m ∷ ms) (suc at) are h = behind-cleared ns ms at are (omega arith)

pub behind-length : (ns : List Name) (ms : List ℕ) → AreSetBehind ns ms → length ns ≤ length ms
behind-length [] ms are = omega arith
behind-length (n ∷ ns) [] are = absurd are
behind-length (n ∷ ns) (m ∷ ms) are = let rest = behind-length ns ms are in omega arith

pub picked-longer : (ns : List Name) (ms : List ℕ) (k : ℕ) → AreSetBehind ns ms → picked ns (ms ++ replicate k 1) ≡ picked ns ms
picked-longer [] ms k are = refl
picked-longer (n ∷ ns) [] k are = absurd are
picked-longer (n ∷ ns) (m ∷ ms) k are = ap (λ ps. cond (eqb m 0) ps (n ∷ ps)) (picked-longer ns ms k are)

pub picked-push : (ns : List Name) (ms : List ℕ) (x : Name) → AreSetBehind ns ms → length ns < length ms →
    picked (ns ++ x ∷ []) ms ≡ picked ns ms ++ x ∷ []
picked-push [] [] x are h = absurd (omega arith)
picked-push [] (m ∷ ms) x are h = ap (λ k. cond (eqb k 0) [] (x ∷ [])) are.0
picked-push (n ∷ ns) [] x are h = absurd are
picked-push (n ∷ ns) (m ∷ ms) x are h =
    ap (λ ps. cond (eqb m 0) ps (n ∷ ps)) (picked-push ns ms x are (omega arith)) ∙ by (eqb m 0)
  where
    by : (b : Bool) → cond b (picked ns ms ++ x ∷ []) (n ∷ (picked ns ms ++ x ∷ [])) ≡ cond b (picked ns ms) (n ∷ picked ns ms) ++ x ∷ []
    by true = refl
    by false = refl

apart-push : (ns : List Name) (x : Name) → AreApart ns → stands_in ns x ≡ false → AreApart (ns ++ x ∷ [])
apart-push [] x apart absent = (refl, tt)
apart-push (n ∷ ns) x apart absent = (
  stands_in-push ns x n ∙ ap (λ b. b || same_name n x) apart.0 ∙ same-swap n x ∙ (parts (same_name x n) (stands_in ns x) absent).0,
  apart-push ns x apart.1 (parts (same_name x n) (stands_in ns x) absent).1,
)
  where
    parts : (a b : Bool) → (a || b) ≡ false → (a ≡ false) × (b ≡ false)
    parts true b e = absurd (false≢true (sym e))
    parts false b e = (refl, e)

module _ (ns : List Name) (ms : List ℕ) (ds : List Name) (room : ℕ) (is : IsFlow ns ms ds room) where
  -- what is neither in flight nor delivered was not posted
  pub absent : (x : Name) → stands_in (picked ns ms) x ≡ false → stands_in ds x ≡ false → stands_in ns x ≡ false
  absent x flying done = by (stands_in ns x) (stands_in (picked ns ms) x) flying (sym (is.known x) ∙ done)
    where
      by : (p f : Bool) → f ≡ false → (p && not f) ≡ false → p ≡ false
      by true true e d = absurd (false≢true (sym e))
      by true false e d = absurd (false≢true (sym d))
      by false f e d = refl

  pub flow-longer : (k more : ℕ) → room ≤ more → IsFlow ns (ms ++ replicate k 1) ds more
  flow-longer k more h =
      let same = picked-longer ns ms k is.behind in
      record {
        apart = is.apart;
        behind = behind-longer ns ms k is.behind;
        room_for_all = let r = is.room_for_all in omega arith;
        counted = ap (λ ps. length ds + length ps) same ∙ is.counted;
        known = λ n. is.known n ∙ ap (λ ps. stands_in ns n && not (stands_in ps n)) (sym same);
      }

  pub flow-push : (x : Name) → stands_in (picked ns ms) x ≡ false → stands_in ds x ≡ false → length ns < length ms → length ns + 1 ≤ room →
      IsFlow (ns ++ x ∷ []) ms ds room
  flow-push x flying done h fits =
      let pushed = picked-push ns ms x is.behind h in
      record {
        apart = apart-push ns x is.apart (absent x flying done);
        behind = behind-push ns ms x is.behind h;
        room_for_all = omega (arith, fits, length-append ns (x ∷ []));
        counted = omega (arith, is.counted, length-append ns (x ∷ []), ap length pushed, length-append (picked ns ms) (x ∷ []));
        known = λ n.
            is.known n ∙ by n (same_name n x) refl
            ∙ ap (λ b. b && not (stands_in (picked ns ms) n || same_name n x)) (sym (stands_in-push ns x n))
            ∙ ap (λ b. stands_in (ns ++ x ∷ []) n && not b) (sym (stands_in-push (picked ns ms) x n))
            ∙ ap (λ ps. stands_in (ns ++ x ∷ []) n && not (stands_in ps n)) (sym pushed);
      }
    where
      flip : (p f s : Bool) → s ≡ false → (p && not f) ≡ ((p || s) && not (f || s))
      flip p f true e = absurd (false≢true (sym e))
      flip true true false e = refl
      flip true false false e = refl
      flip false true false e = refl
      flip false false false e = refl

      new : (p f : Bool) → (p && not f) ≡ false → (p && not f) ≡ ((p || true) && not (f || true))
      new true true e = refl
      new true false e = e
      new false true e = refl
      new false false e = refl

      by : (n : Name) (s : Bool) → same_name n x ≡ s →
          (stands_in ns n && not (stands_in (picked ns ms) n)) ≡ ((stands_in ns n || same_name n x) && not (stands_in (picked ns ms) n || same_name n x))
      by n true e =
          new (stands_in ns n) (stands_in (picked ns ms) n) (sym (is.known n) ∙ ap (stands_in ds) (same_name-is n x e) ∙ done)
          ∙ ap (λ s. (stands_in ns n || s) && not (stands_in (picked ns ms) n || s)) (sym e)
      by n false e = flip (stands_in ns n) (stands_in (picked ns ms) n) (same_name n x) e

  pub flow-cleared : (x : Name) (at : ℕ) → number_in ns x ≡ Some at → eqb (get_or ms at 0) 0 ≡ false → IsFlow ns (set ms at 0) (ds ++ x ∷ []) room
  flow-cleared x at number mark =
      let cleared = picked-cleared ns ms x at is.apart number in
      let found = number-stands ns x at number in
      record {
        apart = is.apart;
        behind = behind-cleared ns ms at is.behind found.1;
        room_for_all = is.room_for_all;
        counted = omega (arith, is.counted, length-append ds (x ∷ []), length-cleared ns ms at found.1 mark);
        known = λ n.
            stands_in-push ds x n ∙ ap (λ b. b || same_name n x) (is.known n)
            ∙ by n (same_name n x) refl found.0
            ∙ ap (λ b. stands_in ns n && not b) (turned (stands_in (picked ns ms) n) (same_name n x) (same_name x n) (same-swap n x)
            ∙ sym (stands_in-filter (λ m. not (same_name x m)) (picked ns ms) n))
            ∙ ap (λ ps. stands_in ns n && not (stands_in ps n)) (sym cleared);
      }
    where
      other : (p f s : Bool) → s ≡ false → ((p && not f) || s) ≡ (p && not (f && not s))
      other p f true e = absurd (false≢true (sym e))
      other true true false e = refl
      other true false false e = refl
      other false true false e = refl
      other false false false e = refl

      turned : (f a b : Bool) → a ≡ b → (f && not a) ≡ (not b && f)
      turned true true b e = sym (ap (λ c. not c && true) (sym e))
      turned true false b e = sym (ap (λ c. not c && true) (sym e))
      turned false true b e = sym (ap (λ c. not c && false) (sym e))
      turned false false b e = sym (ap (λ c. not c && false) (sym e))

      this : (p f : Bool) → p ≡ true → ((p && not f) || true) ≡ (p && not (f && not true))
      this true true e = refl
      this true false e = refl
      this false f e = absurd (false≢true e)

      by : (n : Name) (s : Bool) → same_name n x ≡ s → stands_in ns x ≡ true →
          ((stands_in ns n && not (stands_in (picked ns ms) n)) || same_name n x) ≡ (stands_in ns n && not (stands_in (picked ns ms) n && not (same_name n x)))
      by n true e here =
          ap (λ s. (stands_in ns n && not (stands_in (picked ns ms) n)) || s) e
          ∙ this (stands_in ns n) (stands_in (picked ns ms) n) (ap (stands_in ns) (same_name-is n x e) ∙ here)
          ∙ ap (λ s. stands_in ns n && not (stands_in (picked ns ms) n && not s)) (sym e)
      by n false e here = other (stands_in ns n) (stands_in (picked ns ms) n) (same_name n x) e

  pub done-at : (n : Name) (at : ℕ) → Some at ≡ number_in ns n → not (not (eqb (get_or ms at 0) 0)) ≡ stands_in ds n
  done-at n at e =
      sym (is.known n ∙ ap (λ p. p && not (stands_in (picked ns ms) n)) (number-stands ns n at (sym e)).0
      ∙ ap not (stands-picked ns ms n is.apart ∙ ap (is_picked ms) (sym e)))

  pub done-not : (n : Name) → None ≡ number_in ns n → false ≡ stands_in ds n
  done-not n e = sym (is.known n ∙ ap (λ p. p && not (stands_in (picked ns ms) n)) (none-stands ns n (sym e)))

-- whether a letter is in flight says its mark
pub flies-at : (ns : List Name) (ms : List ℕ) (n : Name) (at : ℕ) → AreApart ns → Some at ≡ number_in ns n →
    not (eqb (get_or ms at 0) 0) ≡ stands_in (picked ns ms) n
flies-at ns ms n at apart e = ap (is_picked ms) e ∙ sym (stands-picked ns ms n apart)

pub flies-not : (ns : List Name) (ms : List ℕ) (n : Name) → AreApart ns → None ≡ number_in ns n → false ≡ stands_in (picked ns ms) n
flies-not ns ms n apart e = ap (is_picked ms) e ∙ sym (stands-picked ns ms n apart)

pub stays : (f : Flight) (n : Name) → false ≡ stands_in f.in_flight n → f ≡ flight_after f n
stays f n e = ap (λ b. cond b (record { in_flight = without n f.in_flight; delivered = f.delivered ++ n ∷ [] }) f) e

pub goes : (f : Flight) (n : Name) → true ≡ stands_in f.in_flight n →
    ◌≡◌ {A = Flight} (record { in_flight = without n f.in_flight; delivered = f.delivered ++ n ∷ [] }) (flight_after f n)
goes f n e = ap (λ b. cond b (record { in_flight = without n f.in_flight; delivered = f.delivered ++ n ∷ [] }) f) e

-- with more room
pub flow-room : (ns ns' : List Name) (ms ms' : List ℕ) (ds ds' : List Name) (room more k : ℕ) → IsFlow ns ms ds room →
    ns' ≡ ns → ms' ≡ ms ++ replicate k 1 → ds' ≡ ds → room ≤ more → IsFlow ns' ms' ds' more
flow-room ns ns' ms ms' ds ds' room more k is e f g h =
    subst (λ n. IsFlow n ms' ds' more) (sym e) (subst (λ m. IsFlow ns m ds' more) (sym f)
    (subst (λ d. IsFlow ns (ms ++ replicate k 1) d more) (sym g) (flow-longer ns ms ds room is k more h)))

-- with one letter more
pub flow-post : (ns ns' : List Name) (ms ms' : List ℕ) (ds ds' : List Name) (room more k : ℕ) (x : Name) → IsFlow ns ms ds room →
    ns' ≡ ns ++ x ∷ [] → ms' ≡ ms ++ replicate k 1 → ds' ≡ ds → room ≤ more →
    stands_in (picked ns ms) x ≡ false → stands_in ds x ≡ false → length ns < length ms' → length ns + 1 ≤ more → IsFlow ns' ms' ds' more
flow-post ns ns' ms ms' ds ds' room more k x is e f g h flying done wide fits =
    let longer = flow-longer ns ms ds room is k more h in
    subst (λ n. IsFlow n ms' ds' more) (sym e) (subst (λ m. IsFlow (ns ++ x ∷ []) m ds' more) (sym f)
    (subst (λ d. IsFlow (ns ++ x ∷ []) (ms ++ replicate k 1) d more) (sym g)
    (flow-push ns (ms ++ replicate k 1) ds more longer x (ap (λ ps. stands_in ps x) (picked-longer ns ms k is.behind) ∙ flying) done
    (subst (λ m. length ns < length m) f wide) fits)))

-- what is in flight then
pub picked-room : (ns ns' : List Name) (ms ms' : List ℕ) (k : ℕ) → AreSetBehind ns ms → ns' ≡ ns → ms' ≡ ms ++ replicate k 1 →
    picked ns' ms' ≡ picked ns ms
picked-room ns ns' ms ms' k are e f = ap (λ n. picked n ms') e ∙ ap (picked ns) f ∙ picked-longer ns ms k are

pub picked-post : (ns ns' : List Name) (ms ms' : List ℕ) (k : ℕ) (x : Name) → AreSetBehind ns ms → ns' ≡ ns ++ x ∷ [] → ms' ≡ ms ++ replicate k 1 →
    length ns < length ms' → picked ns' ms' ≡ picked ns ms ++ x ∷ []
picked-post ns ns' ms ms' k x are e f wide =
    ap (λ n. picked n ms') e ∙ ap (picked (ns ++ x ∷ [])) f
    ∙ picked-push ns (ms ++ replicate k 1) x (behind-longer ns ms k are) (subst (λ m. length ns < length m) f wide)
    ∙ ap (λ ps. ps ++ x ∷ []) (picked-longer ns ms k are)

pub on_err : {T E P : Type 0} (r : Result T E) → P → OnErr r P
on_err (Ok x) p = tt
on_err (Err e) p = p

pub unmarked : (b : Bool) → true ≡ not b → b ≡ false
unmarked true e = absurd (false≢true (sym e))
unmarked false e = refl

-- what was posted is remembered where something is in flight
pub has-room : (ns : List Name) (ms : List ℕ) (ds : List Name) (room at : ℕ) (n : Name) → IsFlow ns ms ds room → Some at ≡ number_in ns n →
    eqb (get_or ms at 0) 0 ≡ false → length ds < room
has-room ns ms ds room at n is e mark =
    let found = number-stands ns n at (sym e) in
    let some = length-cleared ns ms at found.1 mark in
    let all = is.counted in
    let room-for-all = is.room_for_all in
    omega arith

pub flow-taken : (ns : List Name) (ms ms' : List ℕ) (ds ds' : List Name) (room more at : ℕ) (n : Name) → IsFlow ns ms ds room →
    Some at ≡ number_in ns n → eqb (get_or ms at 0) 0 ≡ false → ms' ≡ set ms at 0 → ds' ≡ ds ++ n ∷ [] → room ≤ more → IsFlow ns ms' ds' more
flow-taken ns ms ms' ds ds' room more at n is e mark f g h =
    let now = flow-cleared ns ms ds room is n at (sym e) mark in
    subst (λ m. IsFlow ns m ds' more) (sym f) (subst (λ d. IsFlow ns (set ms at 0) d more) (sym g) (record {
      apart = now.apart;
      behind = now.behind;
      room_for_all = let r = now.room_for_all in omega arith;
      counted = now.counted;
      known = now.known;
    }))

pub taken-view : (ns : List Name) (ms ms' : List ℕ) (ds ds' : List Name) (at : ℕ) (n : Name) → AreApart ns → Some at ≡ number_in ns n →
    ms' ≡ set ms at 0 → ds' ≡ ds ++ n ∷ [] → true ≡ stands_in (picked ns ms) n →
    ◌≡◌ {A = Flight} (record { in_flight = picked ns ms'; delivered = ds' }) (flight_after (record { in_flight = picked ns ms; delivered = ds }) n)
taken-view ns ms ms' ds ds' at n apart e f g flying =
    let view : List Name → List Name → Flight = λ flying done. record { in_flight = flying; delivered = done } in
    ap (λ p. view p ds') (ap (picked ns) f ∙ picked-cleared ns ms n at apart (sym e)) ∙ ap (view (without n (picked ns ms))) g
    ∙ goes (view (picked ns ms) ds) n flying
