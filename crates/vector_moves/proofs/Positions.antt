-- Runs of positions, and the indices at positions.
use Rattle.std.proofs.Common.{◌≡◌, ℕ, zero, suc, ◌+◌, ◌<◌, ◌≤◌, Bool, true, false, ◌||◌, eqb, List, [], ◌∷◌, map, refl, sym, ap, ◌∙◌, arith, length, get_or}
use Rattle.std.proofs.lemmas.Bool.{ne_eqb, eqb-false}
use Rattle.tables.specs.Indices.{stands, AreDistinct, AreBelow, count_from}
use Rattle.map_core.specs.Classes.{index_at, indices_at}
use Rattle.map_core.proofs.Places.{first_place}

pub below-count : (n k m : ℕ) → k + m ≤ n → AreBelow n (count_from k m)
below-count n k zero l = tt
below-count n k (suc m) l = (omega (arith, l), below-count n (k + 1) m (omega (arith, l)))

-- a list by its elements
pub count-list : {S : Type 0} (f : ℕ → S) (k : ℕ) (ns : List S) → ((i : ℕ) (d : S) → i < length ns → f (k + i) ≡ get_or ns i d) → map f (count_from k (length ns)) ≡ ns
count-list f k [] h = refl
count-list f k (v ∷ vs) h =
    let here : k ≡ k + 0 = omega arith in
    let first : f k ≡ v = ap f here ∙ h 0 v (omega arith) in
    let rest = count-list f (k + 1) vs (λ i d l. let next : k + 1 + i ≡ k + suc i = omega arith in ap f next ∙ h (suc i) d (omega (arith, l))) in
    λ t. first t ∷ rest t

pub all-indices : (xs : List ℕ) → indices_at xs (count_from 0 (length xs)) ≡ xs
all-indices xs = count-list (index_at xs) 0 xs (λ i d l. let same : 0 + i ≡ i = omega arith in ap (index_at xs) same ∙ default xs i 0 d l)
  where
    default : (ys : List ℕ) (i c d : ℕ) → i < length ys → get_or ys i c ≡ get_or ys i d
    default [] i c d l = absurd (omega (arith, l))
    default (y ∷ ys) zero c d l = refl
    default (y ∷ ys) (suc i) c d l = default ys i c d (omega (arith, l))

absent-indices : (ys : List ℕ) (t : ℕ) (ts : List ℕ) → AreDistinct ys → t < length ys → AreBelow (length ys) ts → stands t ts ≡ false → stands (index_at ys t) (indices_at ys ts) ≡ false
absent-indices ys t [] d low below h = refl
absent-indices ys t (a ∷ more) d low below h = by (eqb a t) refl (absent-indices ys t more d low below.1) h
  where
    by : (b : Bool) → eqb a t ≡ b → (stands t more ≡ false → stands (index_at ys t) (indices_at ys more) ≡ false) → (b || stands t more) ≡ false
        → (eqb (index_at ys a) (index_at ys t) || stands (index_at ys t) (indices_at ys more)) ≡ false
    by true e rest h = absurd (cc)
    by false e rest h =
        ap (λ b. b || stands (index_at ys t) (indices_at ys more))
        (ne_eqb (index_at ys a) (index_at ys t) (λ same. eqb-false a t e (sym (first_place ys a (index_at ys t) d below.0 same) ∙ first_place ys t (index_at ys t) d low refl)))
        ∙ rest h

pub distinct-indices : (ys tos : List ℕ) → AreDistinct ys → AreBelow (length ys) tos → AreDistinct tos → AreDistinct (indices_at ys tos)
distinct-indices ys [] d below once = tt
distinct-indices ys (t ∷ ts) d below once = (absent-indices ys t ts d below.0 below.1 once.0, distinct-indices ys ts d below.1 once.1)
