-- Sums of pairs: how a number and a place in a list lie in the list of the sums of its pairs.
use Rattle.std.proofs.Common.{◌≡◌, ◌∙◌, ℕ, zero, suc, ◌+◌, ◌-◌, ◌*◌, ◌/◌, ◌<◌, ◌≤◌, Bool, true, false, cond, ltb, List, [], ◌∷◌, length, get_or, refl, ap, arith}
use Rattle.std.proofs.Math.ListN.{set}
use Rattle.std.proofs.lemmas.Bool.Decides.{nat_tests}
use Rattle.schedule.specs.Tallies.{halved, place_of, rest_of, total}

pub total-halved : (l : List ℕ) → total (halved l) ≡ total l
total-halved [] = refl
total-halved (a ∷ []) = refl
total-halved (a ∷ b ∷ cs) = let rest = total-halved cs in omega arith

pub length-halved : (l : List ℕ) → 2 * length (halved l) ≤ length l + 1
length-halved [] = omega arith
length-halved (a ∷ []) = omega arith
length-halved (a ∷ b ∷ cs) = let rest = length-halved cs in omega arith

pub halved-some : (l : List ℕ) → 0 < length l → 0 < length (halved l)
halved-some [] some = some
halved-some (a ∷ []) some = omega arith
halved-some (a ∷ b ∷ cs) some = omega arith

half-more : (n : ℕ) → suc (suc n) / 2 ≡ suc (n / 2)
half-more n = omega arith

-- a place lies in its pair, and counts no more than that
pub halved-at : (l : List ℕ) (at : ℕ) → at < length l → (at / 2 < length (halved l)) × (get_or l at 0 ≤ get_or (halved l) (at / 2) 0)
halved-at [] at h = absurd (omega arith)
halved-at (a ∷ []) zero h = (omega arith, omega arith)
halved-at (a ∷ []) (suc at) h = absurd (omega arith)
halved-at (a ∷ b ∷ cs) zero h = (omega arith, omega arith)
halved-at (a ∷ b ∷ cs) (suc zero) h = (omega arith, omega arith)
halved-at (a ∷ b ∷ cs) (suc (suc at)) h =
    let rest = halved-at cs at (omega arith) in
    rw (half-more at) (omega arith, rest.1)

-- one less at a place is one less at its pair
pub halved-less : (l : List ℕ) (at : ℕ) → at < length l → 1 ≤ get_or l at 0 →
    halved (set l at (get_or l at 0 - 1)) ≡ set (halved l) (at / 2) (get_or (halved l) (at / 2) 0 - 1)
halved-less [] at h some = absurd (omega arith)
halved-less (a ∷ []) zero h some = refl
halved-less (a ∷ []) (suc at) h some = absurd (omega arith)
halved-less (a ∷ b ∷ cs) zero h some = ap (λ n. n ∷ halved cs) (omega arith)
halved-less (a ∷ b ∷ cs) (suc zero) h some = ap (λ n. n ∷ halved cs) (omega arith)
halved-less (a ∷ b ∷ cs) (suc (suc at)) h some =
    rw (half-more at) (ap (λ ns. (a + b) ∷ ns) (halved-less cs at (omega arith) some))

-- where thing k lies, by the pair that counts it
pub record IsInPair (l : List ℕ) (k pair rest : ℕ) : Type 0 where
  pub within : 2 * pair < length l
  pub place : place_of l k ≡ cond (ltb rest (get_or l (2 * pair) 0)) (2 * pair) (2 * pair + 1)
  pub rest_is : rest_of l k ≡ cond (ltb rest (get_or l (2 * pair) 0)) rest (rest - get_or l (2 * pair) 0)

pub in-pair : (l : List ℕ) (k : ℕ) → k < total l → IsInPair l k (place_of (halved l) k) (rest_of (halved l) k)
in-pair [] k h = absurd (omega arith)
in-pair (a ∷ []) k h = one (ltb k a) refl
  where
    one : (b : Bool) → ltb k a ≡ b → IsInPair (a ∷ []) k (cond b 0 (1 + 0)) (cond b k (k - a))
    one true e = record { within = omega arith; place = rw e refl; rest_is = rw e refl }
    one false e = absurd (grind (arith, nat_tests))
in-pair (a ∷ b ∷ cs) k h = two (ltb k (a + b)) refl (in-pair cs (k - (a + b)))
  where
    two : (t : Bool) → ltb k (a + b) ≡ t →
        (k - (a + b) < total cs → IsInPair cs (k - (a + b)) (place_of (halved cs) (k - (a + b))) (rest_of (halved cs) (k - (a + b)))) →
        IsInPair (a ∷ b ∷ cs) k (cond t 0 (1 + place_of (halved cs) (k - (a + b)))) (cond t k (rest_of (halved cs) (k - (a + b))))
    two true e later = here (ltb k a) refl
      where
        here : (t : Bool) → ltb k a ≡ t → IsInPair (a ∷ b ∷ cs) k 0 k
        here true f = record { within = omega arith; place = rw f refl; rest_is = rw f refl }
        here false f =
            let second : ltb (k - a) b ≡ true = grind (arith, nat_tests) in
            record { within = omega arith; place = rw (f, second) refl; rest_is = rw (f, second) refl }
    two false e later =
        let first : ltb k a ≡ false = grind (arith, nat_tests) in
        let second : ltb (k - a) b ≡ false = grind (arith, nat_tests) in
        let p : ℕ = place_of (halved cs) (k - (a + b)) in
        let r : ℕ = rest_of (halved cs) (k - (a + b)) in
        let past : a + b ≤ k = grind (arith, nat_tests) in
        let more = later (omega arith) in
        let gone : k - a - b ≡ k - (a + b) = omega arith in
        let at : 2 * (1 + p) ≡ suc (suc (2 * p)) = omega arith in
        record {
          within = let w = more.within in omega arith;
          place =
              rw (first, second, gone, at) (ap (λ n. 1 + (1 + n)) more.place ∙ next (ltb r (get_or cs (2 * p) 0)) (2 * p));
          rest_is = rw (first, second, gone, at) more.rest_is;
        }
      where
        next : (t : Bool) (n : ℕ) → 1 + (1 + cond t n (n + 1)) ≡ cond t (suc (suc n)) (suc (suc n) + 1)
        next true n = omega arith
        next false n = omega arith
