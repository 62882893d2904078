-- Indices at equal distances.
use Rattle.std.proofs.Common.{◌≡◌, ℕ, zero, suc, ◌+◌, ◌-◌, ◌*◌, ◌/◌, ◌<◌, ◌≤◌, true, false, ◌==◌, [], ◌∷◌, ◌++◌, length, get_or, Some, inl, inr, refl, sym, ap, ◌∙◌, arith}
use Rattle.std.specs.List.{range_with_len}
use Rattle.std.proofs.lemmas.Bool.{cases_Bool, eq-eqb, eqb-true, or_cases, or_from, or_left, or_right}
use Rattle.std.proofs.lemmas.Bool.Decides.{nat_tests}
use Rattle.std.proofs.lemmas.Option.{slice_get-get_or}
use Rattle.std.proofs.lemmas.Nat.{div-mul-add}
use Rattle.map_core.specs.Layouts.{stands, AreDistinct, local_index, global_index}
use Rattle.map_core.specs.Strides.{stride_list}
use Rattle.map_core.proofs.Places.{local_index-from}

pub length-stride : (a s n : ℕ) → length (stride_list a s n) ≡ n
length-stride a s zero = refl
length-stride a s (suc n) = ap suc (length-stride (a + s) s n)

pub get_or-stride : (a s n l : ℕ) → l < n → get_or (stride_list a s n) l 0 ≡ a + l * s
get_or-stride a s zero l h = absurd (omega arith)
get_or-stride a s (suc n) zero h = omega arith
get_or-stride a s (suc n) (suc l) h = let rest = get_or-stride (a + s) s n l (omega arith) in omega arith

pub global_index-stride : (a s n l : ℕ) → l < n → global_index (stride_list a s n) l ≡ Some (a + l * s)
global_index-stride a s n l h =
    let within : l < length (stride_list a s n) = let many = length-stride a s n in omega arith in
    slice_get-get_or (stride_list a s n) l 0 within ∙ ap Some (get_or-stride a s n l h)

-- what stands among them is some steps above the first
pub record IsStep (a s n g : ℕ) : Type 0 where
  pub place : ℕ
  pub within : place < n
  pub at : g ≡ a + place * s

pub step_of : (a s n g : ℕ) → stands g (stride_list a s n) ≡ true → IsStep a s n g
step_of a s zero g h = absurd (cc)
step_of a s (suc n) g h = elim (or_cases (a == g) (stands g (stride_list (a + s) s n)) h) [
  | inl here ↦ let same : a ≡ g = eqb-true a g here in record { place = 0; within = omega arith; at = omega arith }
  | inr there ↦
      let rest = step_of (a + s) s n g there in
      let within = rest.within in
      let at = rest.at in
      record { place = suc rest.place; within = omega arith; at = omega arith }
]

pub stands_stride : (a s n g k : ℕ) → k < n → g ≡ a + k * s → stands g (stride_list a s n) ≡ true
stands_stride a s zero g k h at = absurd (omega arith)
stands_stride a s (suc n) g zero h at = or_left (a == g) (stands g (stride_list (a + s) s n)) (eq-eqb a g (omega arith))
stands_stride a s (suc n) g (suc k) h at = or_right (a == g) (stands g (stride_list (a + s) s n)) (stands_stride (a + s) s n g k (omega arith) (omega arith))

-- what is before the first does not stand among them
pub before_stride : (a s n g : ℕ) → g < a → stands g (stride_list a s n) ≡ false
before_stride a s zero g h = refl
before_stride a s (suc n) g h = or_from (a == g) (stands g (stride_list (a + s) s n)) (grind (arith, nat_tests)) (before_stride (a + s) s n g (omega arith))

pub AreDistinct-stride : (a s n : ℕ) → 1 ≤ s → AreDistinct (stride_list a s n)
AreDistinct-stride a s zero rises = tt
AreDistinct-stride a s (suc n) rises = (before_stride (a + s) s n a (omega arith), AreDistinct-stride (a + s) s n rises)

-- steps of 1 are a run
pub stride-run : (a n : ℕ) → stride_list a 1 n ≡ range_with_len a n
stride-run a zero = refl
stride-run a (suc n) = ap (λ xs. a ∷ xs) (stride-run (a + 1) n)

-- one more index at the end
pub stride-push : (a s n : ℕ) → stride_list a s (suc n) ≡ stride_list a s n ++ (a + n * s) ∷ []
stride-push a s zero = ap (λ x. x ∷ []) (omega arith)
stride-push a s (suc n) = ap (λ xs. a ∷ xs) (stride-push (a + s) s n ∙ ap (λ x. stride_list (a + s) s n ++ x ∷ []) (omega arith))

-- the local index of what is k steps above the first
pub local_index-stride : (a s n g k : ℕ) → 1 ≤ s → k < n → g ≡ a + k * s → local_index (stride_list a s n) g ≡ Some k
local_index-stride a s n g k rises h at =
    local_index-from (stride_list a s n) g k (AreDistinct-stride a s n rises) (global_index-stride a s n k h ∙ ap Some (sym at))

-- an index that is no whole number of steps above the first, or past the last one, does not stand among them
pub absent_off : (a s n g : ℕ) → 1 ≤ s → a ≤ g → ((g - a) / s * s ≡ g - a → n ≤ (g - a) / s) → stands g (stride_list a s n) ≡ false
absent_off a s n g rises low off = elim (cases_Bool (stands g (stride_list a s n))) [
  | inl on ↦
      let step = step_of a s n g on in
      let within = step.within in
      let at : g - a ≡ step.place * s + 0 = let e = step.at in omega arith in
      let place : (g - a) / s ≡ step.place = ap (λ x. x / s) at ∙ div-mul-add step.place s 0 (omega arith) in
      let whole : (g - a) / s * s ≡ g - a = ap (λ x. x * s) place ∙ (omega arith) in
      let past = off whole in
      absurd (omega arith)
  | inr off ↦ off
]

-- two such lists are equal where they have the same count and, as far as that goes, the same first index and step
pub same_by_count : (a s b t n m : ℕ) → stride_list a s n ≡ stride_list b t m → n ≡ m
same_by_count a s b t n m e = sym (length-stride a s n) ∙ ap length e ∙ length-stride b t m

pub same_none : (a s b t n m : ℕ) → n ≡ m → n ≡ 0 → stride_list a s n ≡ stride_list b t m
same_none a s b t n m e none = let other : 0 ≡ m = omega arith in ap (stride_list a s) none ∙ ap (stride_list b t) other

pub same_one : (a s b t n m : ℕ) → n ≡ m → n ≡ 1 → a ≡ b → stride_list a s n ≡ stride_list b t m
same_one a s b t n m e one first = let other : 1 ≡ m = omega arith in ap (stride_list a s) one ∙ ap (λ x. x ∷ []) first ∙ ap (stride_list b t) other

pub same_steps : (a s b t n m : ℕ) → n ≡ m → a ≡ b → s ≡ t → stride_list a s n ≡ stride_list b t m
same_steps a s b t n m e first step = ap (λ x. stride_list x s n) first ∙ ap (λ x. stride_list b x n) step ∙ ap (stride_list b t) e

pub first_of_same : (a s b t n m : ℕ) → 1 ≤ n → stride_list a s n ≡ stride_list b t m → a ≡ b
first_of_same a s b t n m some e =
    let count = same_by_count a s b t n m e in
    let left = get_or-stride a s n 0 (omega arith) in
    let right = get_or-stride b t m 0 (omega arith) in
    let both = ap (λ xs. get_or xs 0 0) e in
    omega arith

pub step_of_same : (a s b t n m : ℕ) → 2 ≤ n → stride_list a s n ≡ stride_list b t m → s ≡ t
step_of_same a s b t n m some e =
    let count = same_by_count a s b t n m e in
    let first = first_of_same a s b t n m (omega arith) e in
    let left = get_or-stride a s n 1 (omega arith) in
    let right = get_or-stride b t m 1 (omega arith) in
    let both = ap (λ xs. get_or xs 1 0) e in
    omega arith
