-- Levels of sums over marks.
use Rattle.std.proofs.Common.{◌≡◌, ◌∙◌, ℕ, zero, suc, ◌+◌, ◌-◌, ◌*◌, ◌/◌, ◌<◌, ◌≤◌, Bool, true, false, cond, eqb, ltb, List, [], ◌∷◌, ◌++◌, length, length-set, replicate, get_or, refl, sym, ap, subst, arith}
use Rattle.std.proofs.Math.ListN.{set}
use Rattle.std.proofs.lemmas.Bool.Decides.{nat_tests}
use Rattle.schedule.specs.Tallies.{AreMarks, CanLower, IsCounted, IsTower, base, descended, halved, located, lowered, mark_count, mark_place, place_of, rest_of, total}
use Rattle.schedule.proofs.Halves.{halved-at, halved-less, halved-some, in-pair, total-halved, IsInPair}

-- a level below levels over its pairs
pub tower-onto : (level : List ℕ) (levels : List (List ℕ)) → IsTower levels → base levels ≡ halved level → 0 < length level → IsTower (level ∷ levels)
tower-onto level [] tower lowest some = absurd (let h = halved-some level some in omega (arith, ap length lowest))
tower-onto level (above ∷ levels) tower lowest some = (lowest, tower)

pub tower-above : (level : List ℕ) (levels : List (List ℕ)) → IsTower (level ∷ levels) → IsTower levels
tower-above level [] tower = tt
tower-above level (above ∷ levels) tower = tower.1

pub counted-above : (level : List ℕ) (levels : List (List ℕ)) (k : ℕ) → IsTower (level ∷ levels) → k < total level → IsCounted levels k
counted-above level [] k tower h = tt
counted-above level (above ∷ levels) k tower h = omega (arith, ap total tower.0, total-halved level)

short-located : (level : List ℕ) (k : ℕ) → length level ≤ 2 → k < total level →
    (place_of (halved level) k ≡ 0) × (rest_of (halved level) k ≡ k)
short-located [] k short h = absurd (omega arith)
short-located (a ∷ []) k short h =
    let here : ltb k a ≡ true = grind (arith, nat_tests) in
    (rw here refl, rw here refl)
short-located (a ∷ b ∷ []) k short h =
    let here : ltb k (a + b) ≡ true = grind (arith, nat_tests) in
    (rw here refl, rw here refl)
short-located (a ∷ b ∷ c ∷ cs) k short h = absurd (omega arith)

-- what is located above is located in the pairs
pub located-above : (level : List ℕ) (levels : List (List ℕ)) (k : ℕ) → IsTower (level ∷ levels) → k < total level →
    (place_of (halved level) k ≡ (located levels k).0) × (rest_of (halved level) k ≡ (located levels k).1)
located-above level [] k tower h = short-located level k tower h
located-above level (above ∷ levels) k tower h = (ap (λ l. place_of l k) (sym tower.0), ap (λ l. rest_of l k) (sym tower.0))

pub can-lower : (level : List ℕ) (levels : List (List ℕ)) (at : ℕ) → IsTower (level ∷ levels) → at < length level → 1 ≤ get_or level at 0 →
    CanLower at (level ∷ levels)
can-lower level [] at tower h some = (h, some, tt)
can-lower level (above ∷ levels) at tower h some =
    let pair = halved-at level at h in (
      h,
      some,
      can-lower above levels (at / 2) tower.1 (omega (arith, pair.0, ap length tower.0))
          (omega (arith, pair.1, ap (λ l. get_or l (at / 2) 0) tower.0)),
    )

pub tower-lowered : (level : List ℕ) (levels : List (List ℕ)) (at : ℕ) → IsTower (level ∷ levels) → CanLower at (level ∷ levels) →
    IsTower (lowered at (level ∷ levels))
tower-lowered level [] at tower can = omega (arith, length-set level at (get_or level at 0 - 1))
tower-lowered level (above ∷ levels) at tower can = (
  ap (λ l. set l (at / 2) (get_or l (at / 2) 0 - 1)) tower.0 ∙ sym (halved-less level at can.0 can.1),
  tower-lowered above levels (at / 2) tower.1 can.2,
)

pub marks-at : (marks : List ℕ) (at : ℕ) → AreMarks marks → get_or marks at 0 ≤ 1
marks-at [] at are = omega arith
marks-at (m ∷ ms) zero are = are.0
marks-at (m ∷ ms) (suc at) are = marks-at ms at are.1

pub marks-cleared : (marks : List ℕ) (at : ℕ) → AreMarks marks → AreMarks (set marks at 0)
marks-cleared [] at are = tt
marks-cleared (m ∷ ms) zero are = (omega arith, are.1)
marks-cleared (m ∷ ms) (suc at) are = (are.0, marks-cleared ms at are.1)

marks-ones : (n : ℕ) → AreMarks (replicate n 1)
marks-ones zero = tt
marks-ones (suc n) = (omega arith, marks-ones n)

pub marks-longer : (marks : List ℕ) (n : ℕ) → AreMarks marks → AreMarks (marks ++ replicate n 1)
marks-longer [] n are = marks-ones n
marks-longer (m ∷ ms) n are = (are.0, marks-longer ms n are.1)

pub total-marks : (marks : List ℕ) → AreMarks marks → total marks ≤ length marks
total-marks [] are = omega arith
total-marks (m ∷ ms) are = let rest = total-marks ms are.1 in let one = are.0 in omega arith

pub count-marks : (marks : List ℕ) → AreMarks marks → mark_count marks ≡ total marks
count-marks [] are = refl
count-marks (m ∷ ms) are = by (eqb m 0) refl (count-marks ms are.1)
  where
    by : (b : Bool) → eqb m 0 ≡ b → mark_count ms ≡ total ms → cond b (mark_count ms) (1 + mark_count ms) ≡ m + total ms
    by true e rest = let one = are.0 in let none : m ≡ 0 = grind (arith, nat_tests) in omega arith
    by false e rest = let one = are.0 in let some : m ≡ 1 = grind (arith, nat_tests) in omega arith

one-more : (n : ℕ) → suc n ≡ 1 + n
one-more n = omega arith

-- the place of a mark is that of the thing that it counts
pub place-marks : (marks : List ℕ) (k : ℕ) → AreMarks marks → mark_place marks k ≡ place_of marks k
place-marks [] k are = refl
place-marks (m ∷ ms) k are = by (eqb m 0) refl (eqb k 0) refl (place-marks ms k are.1) (place-marks ms (k - 1) are.1)
  where
    by : (b : Bool) → eqb m 0 ≡ b → (d : Bool) → eqb k 0 ≡ d → mark_place ms k ≡ place_of ms k → mark_place ms (k - 1) ≡ place_of ms (k - 1) →
        cond b (suc (mark_place ms k)) (cond d 0 (suc (mark_place ms (k - 1)))) ≡ cond (ltb k m) 0 (1 + place_of ms (k - m))
    by true e d f rest next =
        let past : ltb k m ≡ false = grind (arith, nat_tests) in
        let none : m ≡ 0 = grind (arith, nat_tests) in
        let same : k - m ≡ k = omega arith in
        rw (past, same) (ap suc rest ∙ one-more (place_of ms k))
    by false e true f rest next =
        let here : ltb k m ≡ true = grind (arith, nat_tests) in
        rw here refl
    by false e false f rest next =
        let one = are.0 in
        let is : m ≡ 1 = grind (arith, nat_tests) in
        let past : ltb k m ≡ false = grind (arith, nat_tests) in
        let gone : k - m ≡ k - 1 = omega arith in
        rw (past, gone) (ap suc next ∙ one-more (place_of ms (k - 1)))

-- what stands at a place stands within the list
pub some-within : (l : List ℕ) (at : ℕ) → 1 ≤ get_or l at 0 → at < length l
some-within [] at h = absurd (omega arith)
some-within (x ∷ xs) zero h = omega arith
some-within (x ∷ xs) (suc at) h = let rest = some-within xs at h in omega arith

-- where a mark stands, it can be taken
pub mark-lowers : (levels : List (List ℕ)) (at : ℕ) → IsTower levels → eqb (get_or (base levels) at 0) 0 ≡ false → CanLower at levels
mark-lowers [] at tower mark = tt
mark-lowers (level ∷ levels) at tower mark =
    let some : 1 ≤ get_or level at 0 = grind (arith, nat_tests) in
    can-lower level levels at tower (some-within level at some) some

pub lowered-tower : (levels : List (List ℕ)) (at : ℕ) → IsTower levels → CanLower at levels → IsTower (lowered at levels)
lowered-tower [] at tower can = tt
lowered-tower (level ∷ levels) at tower can = tower-lowered level levels at tower can

-- without one, none is left at the place
pub lowered-base : (levels : List (List ℕ)) (at : ℕ) → AreMarks (base levels) → eqb (get_or (base levels) at 0) 0 ≡ false →
    base (lowered at levels) ≡ set (base levels) at 0
lowered-base [] at are mark = refl
lowered-base (level ∷ levels) at are mark =
    let one : get_or level at 0 ≤ 1 = marks-at level at are in
    let none : get_or level at 0 - 1 ≡ 0 = omega arith in
    ap (λ n. set level at n) none

pub counted-base : (levels : List (List ℕ)) (k : ℕ) → AreMarks (base levels) → k < mark_count (base levels) → IsCounted levels k
counted-base [] k are h = tt
counted-base (level ∷ levels) k are h = omega (arith, count-marks level are)

pub located-base : (levels : List (List ℕ)) (k : ℕ) → AreMarks (base levels) → k < mark_count (base levels) →
    (located levels k).0 ≡ mark_place (base levels) k
located-base [] k are h = absurd (omega arith)
located-base (level ∷ levels) k are h = sym (place-marks level k are)

-- the pair that is found above
pub pair-found : (level : List ℕ) (levels : List (List ℕ)) (k : ℕ) (found : ℕ × ℕ) → IsTower (level ∷ levels) → k < total level →
    found ≡ located levels k → IsInPair level k found.0 found.1
pair-found level levels k found tower h e =
    let above = located-above level levels k tower h in
    let P : ℕ → ℕ → Type 0 = λ pair rest. IsInPair level k pair rest in
    subst (λ pair. P pair found.1) (above.0 ∙ ap (λ f. f.0) (sym e))
    (subst (λ rest. P (place_of (halved level) k) rest) (above.1 ∙ ap (λ f. f.1) (sym e)) (in-pair level k h))

pub found-below : (level : List ℕ) (levels : List (List ℕ)) (k pair rest : ℕ) → IsInPair level k pair rest →
    located (level ∷ levels) k ≡ descended level (pair, rest)
found-below level levels k pair rest is =
    ap (λ p. (p, rest_of level k)) is.place ∙ ap (λ r. (cond (ltb rest left) (2 * pair) (2 * pair + 1), r)) is.rest_is
    ∙ both (ltb rest left)
  where
    left : ℕ
    left = get_or level (2 * pair) 0

    both : (b : Bool) → ◌≡◌ {A = ℕ × ℕ} (cond b (2 * pair) (2 * pair + 1), cond b rest (rest - left)) (cond b (2 * pair, rest) (2 * pair + 1, rest - left))
    both true = refl
    both false = refl
