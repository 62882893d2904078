-- Names with their numbers, and those of them with a mark.
use Rattle.std.proofs.Common.{◌≡◌, ◌∙◌, ℕ, zero, suc, ◌+◌, ◌-◌, ◌<◌, ◌≤◌, Bool, true, false, cond, not, ◌||◌, eqb, List, [], ◌∷◌, ◌++◌, Option, None, Some, length, append_assoc, drop, add-one, get_or, refl, sym, ap, arith, is_eq}
use Rattle.std.specs.List.{slice_get}
use Rattle.std.specs.Option.{option_map}
use Rattle.std.proofs.Math.ListN.{set}
use Rattle.std.proofs.lemmas.Bool.{false≢true}
use Rattle.std.proofs.lemmas.Bool.Decides.{nat_tests}
use Rattle.outside.specs.declared.name.Name.{Name}
use Rattle.outside.specs.Letters.{same_name}
use Rattle.outside.proofs.Names.{is_eq-name_cmp, name_cmp, same_name-is, same_name-refl}
use Rattle.peers.specs.Protocols.{stands_in}
use Rattle.schedule.specs.Flights.{without}
use Rattle.schedule.specs.Registers.{AreApart, is_picked, number_in, picked}
use Rattle.schedule.specs.Tallies.{mark_count, mark_place}

pub same-swap : (a b : Name) → same_name a b ≡ same_name b a
same-swap a b = by (same_name a b) refl (same_name b a) refl
  where
    by : (p : Bool) → same_name a b ≡ p → (q : Bool) → same_name b a ≡ q → p ≡ q
    by true e true f = refl
    by true e false f = absurd (false≢true (sym f ∙ ap (λ n. same_name b n) (same_name-is a b e) ∙ same_name-refl b))
    by false e true f = absurd (false≢true (sym e ∙ ap (λ n. same_name a n) (same_name-is b a f) ∙ same_name-refl a))
    by false e false f = refl

or-false : (a b : Bool) → (a || b) ≡ false → (a ≡ false) × (b ≡ false)
or-false true b e = absurd (false≢true (sym e))
or-false false b e = (refl, e)

-- a name that comes last has the last number
pub number-push : (ns : List Name) (x n : Name) → stands_in ns x ≡ false →
    number_in (ns ++ x ∷ []) n ≡ cond (same_name x n) (Some (length ns)) (number_in ns n)
number-push [] x n absent = ap (λ b. cond b (Some 0) None) (same-swap n x)
number-push (y ∷ ys) x n absent =
    ap (λ o. cond (same_name n y) (Some 0) (option_map (λ at. suc at) o)) (number-push ys x n parts.1)
    ∙ by (same_name n y) refl (same_name x n) refl
  where
    parts : (same_name x y ≡ false) × (stands_in ys x ≡ false)
    parts = or-false (same_name x y) (stands_in ys x) absent

    by : (p : Bool) → same_name n y ≡ p → (q : Bool) → same_name x n ≡ q →
        cond p (Some 0) (option_map (λ at. suc at) (cond q (Some (length ys)) (number_in ys n)))
        ≡ cond q (Some (suc (length ys))) (cond p (Some 0) (option_map (λ at. suc at) (number_in ys n)))
    by true e true f =
        absurd (false≢true (sym parts.0 ∙ ap (λ m. same_name m y) (same_name-is x n f) ∙ e))
    by true e false f = refl
    by false e true f = refl
    by false e false f = refl

-- what an ordered map has after the name was put in
pub number-inserted : (old found : Option ℕ) (ns items : List Name) (x n : Name) (at : ℕ) → found ≡ cond (is_eq (name_cmp x n)) (Some at) old →
    old ≡ number_in ns n → at ≡ length ns → stands_in ns x ≡ false → items ≡ ns ++ x ∷ [] → found ≡ number_in items n
number-inserted old found ns items x n at is was last absent all =
    is ∙ ap (λ b. cond b (Some at) old) (is_eq-name_cmp x n) ∙ ap (λ o. cond (same_name x n) (Some at) o) was
    ∙ ap (λ k. cond (same_name x n) (Some k) (number_in ns n)) last ∙ sym (number-push ns x n absent) ∙ ap (λ l. number_in l n) (sym all)

-- a name has a number where it stands in the list
pub number-stands : (ns : List Name) (n : Name) (at : ℕ) → number_in ns n ≡ Some at → (stands_in ns n ≡ true) × (at < length ns)
number-stands [] n at e = absurd (cc)
number-stands (y ∷ ys) n at e = by (same_name n y) refl e (number_in ys n) refl (number-stands ys n)
  where
    by : (p : Bool) → same_name n y ≡ p → cond p (Some 0) (option_map (λ k. suc k) (number_in ys n)) ≡ Some at →
        (o : Option ℕ) → number_in ys n ≡ o → ((k : ℕ) → number_in ys n ≡ Some k → (stands_in ys n ≡ true) × (k < length ys)) →
        ((p || stands_in ys n) ≡ true) × (at < length (y ∷ ys))
    by true s f o g rest = (refl, let zero-at : 0 ≡ at = cc in omega arith)
    by false s f None g rest = absurd (cc (ap (option_map (λ k. suc k)) g))
    by false s f (Some k) g rest =
        let is : suc k ≡ at = cc (ap (option_map (λ k. suc k)) g) in
        ((rest k g).0, let h = (rest k g).1 in omega arith)

pub none-stands : (ns : List Name) (n : Name) → number_in ns n ≡ None → stands_in ns n ≡ false
none-stands [] n e = refl
none-stands (y ∷ ys) n e = by (same_name n y) e (number_in ys n) refl (none-stands ys n)
  where
    by : (p : Bool) → cond p (Some 0) (option_map (λ k. suc k) (number_in ys n)) ≡ None → (o : Option ℕ) → number_in ys n ≡ o →
        (number_in ys n ≡ None → stands_in ys n ≡ false) → (p || stands_in ys n) ≡ false
    by true f o g rest = absurd (cc)
    by false f None g rest = rest g
    by false f (Some k) g rest = absurd (cc (ap (option_map (λ k. suc k)) g))

-- what does not stand in the list is not picked from it
pub not-picked : (ns : List Name) (ms : List ℕ) (n : Name) → stands_in ns n ≡ false → stands_in (picked ns ms) n ≡ false
not-picked [] ms n absent = refl
not-picked (y ∷ ys) [] n absent = refl
not-picked (y ∷ ys) (m ∷ ms) n absent = by (eqb m 0) (not-picked ys ms n parts.1)
  where
    parts : (same_name n y ≡ false) × (stands_in ys n ≡ false)
    parts = or-false (same_name n y) (stands_in ys n) absent

    by : (b : Bool) → stands_in (picked ys ms) n ≡ false → stands_in (cond b (picked ys ms) (y ∷ picked ys ms)) n ≡ false
    by true rest = rest
    by false rest = ap (λ b. b || stands_in (picked ys ms) n) parts.0 ∙ rest

is_picked-none : (o : Option ℕ) → is_picked [] o ≡ false
is_picked-none None = refl
is_picked-none (Some at) = refl

is_picked-next : (m : ℕ) (ms : List ℕ) (o : Option ℕ) → is_picked (m ∷ ms) (option_map (λ at. suc at) o) ≡ is_picked ms o
is_picked-next m ms None = refl
is_picked-next m ms (Some at) = refl

-- whether a name is picked says its mark
pub stands-picked : (ns : List Name) (ms : List ℕ) (n : Name) → AreApart ns → stands_in (picked ns ms) n ≡ is_picked ms (number_in ns n)
stands-picked [] ms n apart = refl
stands-picked (y ∷ ys) [] n apart = sym (is_picked-none (number_in (y ∷ ys) n))
stands-picked (y ∷ ys) (m ∷ ms) n apart = by (same_name n y) refl (eqb m 0) refl (stands-picked ys ms n apart.1)
  where
    here : same_name n y ≡ true → stands_in (picked ys ms) n ≡ false
    here s = not-picked ys ms n (ap (stands_in ys) (same_name-is n y s) ∙ apart.0)

    by : (p : Bool) → same_name n y ≡ p → (b : Bool) → eqb m 0 ≡ b → stands_in (picked ys ms) n ≡ is_picked ms (number_in ys n) →
        stands_in (cond b (picked ys ms) (y ∷ picked ys ms)) n ≡ is_picked (m ∷ ms) (cond p (Some 0) (option_map (λ at. suc at) (number_in ys n)))
    by true s true e rest = here s ∙ sym (ap not e)
    by true s false e rest = ap (λ p. p || stands_in (picked ys ms) n) s ∙ sym (ap not e)
    by false s true e rest = rest ∙ sym (is_picked-next m ms (number_in ys n))
    by false s false e rest = ap (λ p. p || stands_in (picked ys ms) n) s ∙ rest ∙ sym (is_picked-next m ms (number_in ys n))

without-absent : (ns : List Name) (n : Name) → stands_in ns n ≡ false → without n ns ≡ ns
without-absent [] n absent = refl
without-absent (y ∷ ys) n absent =
    let parts = or-false (same_name n y) (stands_in ys n) absent in
    ap (λ b. cond (not b) (y ∷ without n ys) (without n ys)) parts.0 ∙ ap (λ ns. y ∷ ns) (without-absent ys n parts.1)

-- without its mark a name is not picked
pub picked-cleared : (ns : List Name) (ms : List ℕ) (n : Name) (at : ℕ) → AreApart ns → number_in ns n ≡ Some at →
    picked ns (set ms at 0) ≡ without n (picked ns ms)
picked-cleared [] ms n at apart e = refl
picked-cleared (y ∷ ys) [] n at apart e = refl
picked-cleared (y ∷ ys) (m ∷ ms) n at apart e = by (same_name n y) refl e (number_in ys n) refl (λ k. picked-cleared ys ms n k apart.1)
  where
    same : (b : Bool) → same_name n y ≡ true → without n (cond b (picked ys ms) (y ∷ picked ys ms)) ≡ without n (picked ys ms)
    same true s = refl
    same false s = ap (λ b. cond (not b) (y ∷ without n (picked ys ms)) (without n (picked ys ms))) s

    other : (b : Bool) (ps : List Name) → same_name n y ≡ false → ps ≡ without n (picked ys ms) →
        cond b ps (y ∷ ps) ≡ without n (cond b (picked ys ms) (y ∷ picked ys ms))
    other true ps s e = e
    other false ps s e =
        ap (λ ns. y ∷ ns) e ∙ sym (ap (λ b. cond (not b) (y ∷ without n (picked ys ms)) (without n (picked ys ms))) s)

    by : (p : Bool) → same_name n y ≡ p → cond p (Some 0) (option_map (λ k. suc k) (number_in ys n)) ≡ Some at →
        (o : Option ℕ) → number_in ys n ≡ o → ((k : ℕ) → number_in ys n ≡ Some k → picked ys (set ms k 0) ≡ without n (picked ys ms)) →
        picked (y ∷ ys) (set (m ∷ ms) at 0) ≡ without n (cond (eqb m 0) (picked ys ms) (y ∷ picked ys ms))
    by true s f o g rest =
        let is : 0 ≡ at = cc in
        let absent = not-picked ys ms n (ap (stands_in ys) (same_name-is n y s) ∙ apart.0) in
        ap (λ k. picked (y ∷ ys) (set (m ∷ ms) k 0)) (sym is)
        ∙ sym (without-absent (picked ys ms) n absent) ∙ sym (same (eqb m 0) s)
    by false s f None g rest = absurd (cc (ap (option_map (λ k. suc k)) g))
    by false s f (Some k) g rest =
        let is : suc k ≡ at = cc (ap (option_map (λ k. suc k)) g) in
        ap (λ j. picked (y ∷ ys) (set (m ∷ ms) j 0)) (sym is)
        ∙ other (eqb m 0) (picked ys (set ms k 0)) s (rest k g)

-- and one less is picked
pub length-cleared : (ns : List Name) (ms : List ℕ) (at : ℕ) → at < length ns → eqb (get_or ms at 0) 0 ≡ false →
    length (picked ns (set ms at 0)) + 1 ≡ length (picked ns ms)
length-cleared [] ms at h mark = absurd (omega arith)
length-cleared (y ∷ ys) [] at h mark = absurd (cc)
length-cleared (y ∷ ys) (m ∷ ms) zero h mark =
    let more : suc (length (picked ys ms)) ≡ length (picked ys ms) + 1 = omega arith in
    sym (ap (λ b. length (cond b (picked ys ms) (y ∷ picked ys ms))) mark ∙ more)
length-cleared (y ∷ ys) (m ∷ ms) (suc at) h mark = by (eqb m 0) (length-cleared ys ms at (omega arith) mark)
  where
    by : (b : Bool) → length (picked ys (set ms at 0)) + 1 ≡ length (picked ys ms) →
        length (cond b (picked ys (set ms at 0)) (y ∷ picked ys (set ms at 0))) + 1 ≡ length (cond b (picked ys ms) (y ∷ picked ys ms))
    by true rest = rest
    by false rest = omega arith

-- the name with the mark that has k before it is name k of those that are picked
pub name-at : (ns : List Name) (ms : List ℕ) (k : ℕ) → k < length (picked ns ms) → slice_get ns (mark_place ms k) ≡ slice_get (picked ns ms) k
name-at [] ms k h = absurd (omega arith)
name-at (y ∷ ys) [] k h = absurd (omega arith)
name-at (y ∷ ys) (m ∷ ms) k h = by (eqb m 0) (eqb k 0) refl h (name-at ys ms k) (name-at ys ms (k - 1))
  where
    by : (b d : Bool) → eqb k 0 ≡ d → k < length (cond b (picked ys ms) (y ∷ picked ys ms)) →
        (k < length (picked ys ms) → slice_get ys (mark_place ms k) ≡ slice_get (picked ys ms) k) →
        (k - 1 < length (picked ys ms) → slice_get ys (mark_place ms (k - 1)) ≡ slice_get (picked ys ms) (k - 1)) →
        slice_get (y ∷ ys) (cond b (suc (mark_place ms k)) (cond d 0 (suc (mark_place ms (k - 1)))))
        ≡ slice_get (cond b (picked ys ms) (y ∷ picked ys ms)) k
    by true d e h here next = here h
    by false true e h here next =
        let none : 0 ≡ k = grind (arith, nat_tests) in
        ap (slice_get (y ∷ picked ys ms)) none
    by false false e h here next =
        let some : suc (k - 1) ≡ k = grind (arith, nat_tests) in
        next (omega arith) ∙ ap (slice_get (y ∷ picked ys ms)) some

pub count-picked : (ns : List Name) (ms : List ℕ) → length (picked ns ms) ≤ mark_count ms
count-picked [] ms = omega arith
count-picked (y ∷ ys) [] = omega arith
count-picked (y ∷ ys) (m ∷ ms) = by (eqb m 0) (count-picked ys ms)
  where
    by : (b : Bool) → length (picked ys ms) ≤ mark_count ms →
        length (cond b (picked ys ms) (y ∷ picked ys ms)) ≤ cond b (mark_count ms) (1 + mark_count ms)
    by true rest = rest
    by false rest = omega arith

pub length-picked : (ns : List Name) (ms : List ℕ) → length (picked ns ms) ≤ length ns
length-picked [] ms = omega arith
length-picked (y ∷ ys) [] = omega arith
length-picked (y ∷ ys) (m ∷ ms) = by (eqb m 0) (length-picked ys ms)
  where
    by : (b : Bool) → length (picked ys ms) ≤ length ys → length (cond b (picked ys ms) (y ∷ picked ys ms)) ≤ length (y ∷ ys)
    by true rest = omega arith
    by false rest = omega arith

pub mark-within : (ns : List Name) (ms : List ℕ) (k : ℕ) → k < length (picked ns ms) → mark_place ms k < length ns
mark-within [] ms k h = absurd (omega arith)
mark-within (y ∷ ys) [] k h = absurd (omega arith)
mark-within (y ∷ ys) (m ∷ ms) k h = by (eqb m 0) (eqb k 0) refl h (mark-within ys ms k) (mark-within ys ms (k - 1))
  where
    by : (b d : Bool) → eqb k 0 ≡ d → k < length (cond b (picked ys ms) (y ∷ picked ys ms)) →
        (k < length (picked ys ms) → mark_place ms k < length ys) →
        (k - 1 < length (picked ys ms) → mark_place ms (k - 1) < length ys) →
        cond b (suc (mark_place ms k)) (cond d 0 (suc (mark_place ms (k - 1)))) < length (y ∷ ys)
    by true d e h here next = let short = here h in omega arith
    by false true e h here next = omega arith
    by false false e h here next =
        let some : 0 < k = grind (arith, nat_tests) in
        let short = next (omega arith) in
        omega arith

pub picked-none : (ns : List Name) → picked ns [] ≡ []
picked-none [] = refl
picked-none (y ∷ ys) = refl

-- one name more
pub picked-step : (ns : List Name) (ms : List ℕ) (at : ℕ) (n : Name) → at < length ns →
    picked (drop at ns) (drop at ms)
    ≡ cond (not (eqb (get_or ms at 0) 0)) (get_or ns at n ∷ []) [] ++ picked (drop (at + 1) ns) (drop (at + 1) ms)
picked-step ns ms at n h = rw (add-one at) (step ns ms at h)
  where
    step : (ns : List Name) (ms : List ℕ) (at : ℕ) → at < length ns →
        picked (drop at ns) (drop at ms)
        ≡ cond (not (eqb (get_or ms at 0) 0)) (get_or ns at n ∷ []) [] ++ picked (drop (suc at) ns) (drop (suc at) ms)
    step [] ms at h = absurd (omega arith)
    step (y ∷ ys) [] zero h = sym (picked-none ys)
    step (y ∷ ys) [] (suc at) h =
        picked-none (drop at ys) ∙ sym (picked-none (drop (suc at) ys))
    step (y ∷ ys) (m ∷ ms) zero h = by (eqb m 0)
      where
        by : (b : Bool) → cond b (picked ys ms) (y ∷ picked ys ms) ≡ cond (not b) (y ∷ []) [] ++ picked ys ms
        by true = refl
        by false = refl
    step (y ∷ ys) (m ∷ ms) (suc at) h = step ys ms at (omega arith)

pub marked-step : (ns : List Name) (ms : List ℕ) (at : ℕ) (n : Name) (found more all : List Name) → at < length ns →
    more ≡ found ++ cond (not (eqb (get_or ms at 0) 0)) (get_or ns at n ∷ []) [] → found ++ picked (drop at ns) (drop at ms) ≡ all →
    more ++ picked (drop (at + 1) ns) (drop (at + 1) ms) ≡ all
marked-step ns ms at n found more all h e before =
    let rest = picked (drop (at + 1) ns) (drop (at + 1) ms) in
    ap (λ l. l ++ rest) e ∙ append_assoc found (cond (not (eqb (get_or ms at 0) 0)) (get_or ns at n ∷ []) []) rest
    ∙ ap (λ l. found ++ l) (sym (picked-step ns ms at n h)) ∙ before
