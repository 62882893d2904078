-- Weighed numbers are a commutative semiring, and `top` is commutative and associative.
use Rattle.std.proofs.Common.{◌≡◌, ◌+◌, ◌*◌, ◌==◌, ◌≤◌, ◌<◌, ℕ, ℤ, pos, ◌+ℤ◌, ◌*ℤ◌, Bool, true, false, cond, nat_le, unsigned_abs, arith, refl, sym, ap, ◌∙◌, inl, inr, ◌⊎◌, zero, suc, if◌then◌else◌, mul-le-mul, max}
use Rattle.std.proofs.lemmas.Bool.{and_parts}
use Rattle.std.proofs.lemmas.Bool.Decides.{nat_tests}
use Rattle.std.proofs.lemmas.Int.{ints, unsigned_abs-mul}
use Rattle.scalar_laws.specs.Number.{Number, over, number, made, max_weight, plus, times, top, zero_number, one_number, is_weighed, is_number}
use Rattle.scalar_laws.specs.Integers.{mul_comm, mul_assoc, mul_distrib, abs_sum, add_comm, add_assoc}

-- a number within the limit is made as it stands, and one above is Over
pub made_low : (v : ℤ) (w : ℕ) → w ≤ max_weight → made v w ≡ number v w
made_low v w l = let t : nat_le w max_weight ≡ true = grind (arith, nat_tests) in rw t

pub made_high : (v : ℤ) (w : ℕ) → max_weight < w → made v w ≡ over
made_high v w l = let t : nat_le w max_weight ≡ false = grind (arith, nat_tests) in rw t

-- ---- sums

pub plus_comm : (a b : Number) → plus a b ≡ plus b a
plus_comm over over = refl
plus_comm over (number x y) = refl
plus_comm (number v w) over = refl
plus_comm (number v w) (number x y) = λ i. made (add_comm v x i) (add_swap w y i)
  where
    add_swap : (m n : ℕ) → m + n ≡ n + m
    add_swap m n = omega arith

plus_over : (a : Number) → plus a over ≡ over
plus_over over = refl
plus_over (number v w) = refl

plus_made_left : (v : ℤ) (w : ℕ) (x : ℤ) (y : ℕ) → plus (made v w) (number x y) ≡ made (v +ℤ x) (w + y)
plus_made_left v w x y = by (nat_le w max_weight) refl
  where
    by : (b : Bool) → nat_le w max_weight ≡ b → plus (cond b (number v w) over) (number x y) ≡ made (v +ℤ x) (w + y)
    by true e = refl
    by false e = sym (made_high (v +ℤ x) (w + y) (grind (arith, nat_tests)))

plus_made_right : (v : ℤ) (w : ℕ) (x : ℤ) (y : ℕ) → plus (number v w) (made x y) ≡ made (v +ℤ x) (w + y)
plus_made_right v w x y = by (nat_le y max_weight) refl
  where
    by : (b : Bool) → nat_le y max_weight ≡ b → plus (number v w) (cond b (number x y) over) ≡ made (v +ℤ x) (w + y)
    by true e = refl
    by false e = sym (made_high (v +ℤ x) (w + y) (grind (arith, nat_tests)))

pub plus_assoc : (a b c : Number) → plus (plus a b) c ≡ plus a (plus b c)
plus_assoc over b c = refl
plus_assoc (number v w) over c = refl
plus_assoc (number v w) (number x y) over = plus_over (made (v +ℤ x) (w + y))
plus_assoc (number v w) (number x y) (number z t) =
    plus_made_left (v +ℤ x) (w + y) z t
    ∙ (λ i. made (add_assoc v x z i) (swap w y t i))
    ∙ sym (plus_made_right v w (x +ℤ z) (y + t))
  where
    swap : (m n k : ℕ) → (m + n) + k ≡ m + (n + k)
    swap m n k = omega arith

-- what is known of a number
pub weight_parts : (v : ℤ) (w : ℕ) → is_weighed v w ≡ true → (unsigned_abs v ≤ w) × (w ≤ max_weight)
weight_parts v w h =
    let p = and_parts (nat_le (unsigned_abs v) w) (nat_le w max_weight) h in
    let a : nat_le (unsigned_abs v) w ≡ true = p.0 in
    let b : nat_le w max_weight ≡ true = p.1 in
    (grind (arith, nat_tests), grind (arith, nat_tests))

pub plus_zero : (a : Number) → is_number a ≡ true → plus zero_number a ≡ a
plus_zero over h = refl
plus_zero (number v w) h =
    let p = weight_parts v w h in
    (λ i. made (add_zero v i) (zero_plus w i)) ∙ made_low v w p.1
  where
    add_zero : (z : ℤ) → pos 0 +ℤ z ≡ z
    add_zero z = omega (arith, ints)

    zero_plus : (n : ℕ) → 0 + n ≡ n
    zero_plus n = omega arith

-- ---- products

-- products with nought
zero_mul : (z : ℤ) → pos 0 *ℤ z ≡ pos 0
zero_mul z = omega (arith, ints)

mul_zero : (z : ℤ) → z *ℤ pos 0 ≡ pos 0
mul_zero z = omega (arith, ints)

zero_nat : (n : ℕ) → 0 * n ≡ 0
zero_nat n = omega arith

nat_zero : (n : ℕ) → n * 0 ≡ 0
nat_zero n = omega arith

-- Over times a number of this weight
abbrev over_times : ℕ → Number
over_times y = if y == 0 then zero_number else over

over_zero : (y : ℕ) → y ≡ 0 → over_times y ≡ zero_number
over_zero y e = let t : (y == 0) ≡ true = grind (arith, nat_tests) in rw t

over_some : (y : ℕ) → 0 < y → over_times y ≡ over
over_some y l = let t : (y == 0) ≡ false = grind (arith, nat_tests) in rw t

some_or_zero : (y : ℕ) → (y ≡ 0) ⊎ (0 < y)
some_or_zero zero = inl refl
some_or_zero (suc y) = inr (omega arith)

zero_value : (x : ℤ) → unsigned_abs x ≤ 0 → x ≡ pos 0
zero_value x h = grind (arith, ints)

product_grows : (w y : ℕ) → 0 < y → w ≤ w * y
product_grows w (suc y) l = omega arith
product_grows w zero l = absurd (omega arith)

pub abs_product : (v x : ℤ) (w y : ℕ) → unsigned_abs v ≤ w → unsigned_abs x ≤ y → unsigned_abs (v *ℤ x) ≤ w * y
abs_product v x w y a b = rw unsigned_abs-mul (mul-le-mul a b)

nat_comm : (m n : ℕ) → m * n ≡ n * m
nat_comm m n = omega arith

pub times_comm : (a b : Number) → times a b ≡ times b a
times_comm over over = refl
times_comm over (number x y) = refl
times_comm (number v w) over = refl
times_comm (number v w) (number x y) = λ i. made (mul_comm v x i) (nat_comm w y i)

-- a product of a number with what is made
times_made : (v : ℤ) (w : ℕ) (x : ℤ) (y : ℕ) → unsigned_abs x ≤ y → times (made v w) (number x y) ≡ made (v *ℤ x) (w * y)
times_made v w x y within = by (nat_le w max_weight) refl
  where
    by : (b : Bool) → nat_le w max_weight ≡ b → times (cond b (number v w) over) (number x y) ≡ made (v *ℤ x) (w * y)
    by true e = refl
    by false e =
        elim (some_or_zero y) [
          | inl none ↦
              let x_zero : x ≡ pos 0 = zero_value x (omega arith) in
              over_zero y none ∙ sym (λ i. made ((ap (λ t. v *ℤ t) x_zero ∙ mul_zero v) i) ((ap (λ t. w * t) none ∙ nat_zero w) i))
          | inr some ↦
              let grows : w ≤ w * y = product_grows w y some in
              let high : max_weight < w = grind (arith, nat_tests) in
              over_some y some ∙ sym (made_high (v *ℤ x) (w * y) (omega arith))
        ]

-- Over times what is made
over_made : (x : ℤ) (y : ℕ) → times over (made x y) ≡ over_times y
over_made x y = by (nat_le y max_weight) refl
  where
    by : (b : Bool) → nat_le y max_weight ≡ b → times over (cond b (number x y) over) ≡ over_times y
    by true e = refl
    by false e = let some : 0 < y = grind (arith, nat_tests) in sym (over_some y some)

-- a product of what is made is made of the products
pub times_made_both : (v x : ℤ) (w y : ℕ) → unsigned_abs v ≤ w → unsigned_abs x ≤ y → times (made v w) (made x y) ≡ made (v *ℤ x) (w * y)
times_made_both v x w y within_w within_y = by (nat_le y max_weight) refl
  where
    by : (b : Bool) → nat_le y max_weight ≡ b → times (made v w) (cond b (number x y) over) ≡ made (v *ℤ x) (w * y)
    by true e = times_made v w x y within_y
    by false e =
        times_comm (made v w) over ∙ over_made v w
        ∙ elim (some_or_zero w) [
          | inl none ↦
              let v_zero : v ≡ pos 0 = zero_value v (omega arith) in
              over_zero w none ∙ sym (λ i. made ((ap (λ t. t *ℤ x) v_zero ∙ zero_mul x) i) ((ap (λ t. t * y) none ∙ zero_nat y) i))
          | inr some ↦
              let grows : y ≤ y * w = product_grows y w some in
              let high : max_weight < y = grind (arith, nat_tests) in
              over_some w some ∙ sym (made_high (v *ℤ x) (w * y) (omega arith))
        ]

over_times_number : (w : ℕ) (z : ℤ) (t : ℕ) → unsigned_abs z ≤ t → times (over_times w) (number z t) ≡ over_times (w * t)
over_times_number w z t within =
    elim (some_or_zero w) [
      | inl none ↦
          ap (λ n. times n (number z t)) (over_zero w none)
          ∙ (λ i. made (zero_mul z i) (zero_nat t i))
          ∙ sym (over_zero (w * t) (ap (λ n. n * t) none ∙ zero_nat t))
      | inr some ↦
          ap (λ n. times n (number z t)) (over_some w some)
          ∙ elim (some_or_zero t) [
            | inl none ↦ over_zero t none ∙ sym (over_zero (w * t) (ap (λ n. w * n) none ∙ nat_zero w))
            | inr more ↦ over_some t more ∙ sym (over_some (w * t) (let grows : w ≤ w * t = product_grows w t more in omega arith))
          ]
    ]

over_times_over : (w : ℕ) → times (over_times w) over ≡ over_times w
over_times_over w = by (w == 0)
  where
    by : (b : Bool) → times (cond b zero_number over) over ≡ cond b zero_number over
    by true = refl
    by false = refl

pub times_assoc : (a b c : Number) → is_number a ≡ true → is_number b ≡ true → is_number c ≡ true → times (times a b) c ≡ times a (times b c)
times_assoc over over over ha hb hc = refl
times_assoc over over (number z t) ha hb hc = sym (times_comm over (over_times t) ∙ over_times_over t)
times_assoc over (number x y) over ha hb hc = times_comm (over_times y) over
times_assoc over (number x y) (number z t) ha hb hc =
    over_times_number y z t (weight_parts z t hc).0 ∙ sym (over_made (x *ℤ z) (y * t))
times_assoc (number v w) over over ha hb hc = over_times_over w
times_assoc (number v w) over (number z t) ha hb hc =
    over_times_number w z t (weight_parts z t hc).0
    ∙ ap over_times (nat_comm w t)
    ∙ sym (times_comm (number v w) (over_times t) ∙ over_times_number t v w (weight_parts v w ha).0)
times_assoc (number v w) (number x y) over ha hb hc =
    times_comm (made (v *ℤ x) (w * y)) over ∙ over_made (v *ℤ x) (w * y)
    ∙ ap over_times (nat_comm w y)
    ∙ sym (times_comm (number v w) (over_times y) ∙ over_times_number y v w (weight_parts v w ha).0)
times_assoc (number v w) (number x y) (number z t) ha hb hc =
    times_made (v *ℤ x) (w * y) z t (weight_parts z t hc).0
    ∙ (λ i. made (whole i) (nat_whole i))
    ∙ sym (times_comm (number v w) (made (x *ℤ z) (y * t)) ∙ times_made (x *ℤ z) (y * t) v w (weight_parts v w ha).0)
  where
    whole : (v *ℤ x) *ℤ z ≡ (x *ℤ z) *ℤ v
    whole = mul_assoc v x z ∙ mul_comm v (x *ℤ z)

    nat_whole : (w * y) * t ≡ (y * t) * w
    nat_whole = omega arith

pub times_zero : (a : Number) → is_number a ≡ true → times zero_number a ≡ zero_number
times_zero over h = refl
times_zero (number v w) h = (λ i. made (zero_mul v i) (zero_nat w i))

pub times_one : (a : Number) → is_number a ≡ true → times one_number a ≡ a
times_one over h = refl
times_one (number v w) h = (λ i. made (one_mul v i) (one_nat w i)) ∙ made_low v w (weight_parts v w h).1
  where
    one_mul : (z : ℤ) → pos 1 *ℤ z ≡ z
    one_mul z = omega (arith, ints)

    one_nat : (n : ℕ) → 1 * n ≡ n
    one_nat n = omega arith

pub plus_made : (v : ℤ) (w : ℕ) (x : ℤ) (y : ℕ) → plus (made v w) (made x y) ≡ made (v +ℤ x) (w + y)
plus_made v w x y = by (nat_le w max_weight) refl
  where
    by : (b : Bool) → nat_le w max_weight ≡ b → plus (cond b (number v w) over) (made x y) ≡ made (v +ℤ x) (w + y)
    by true e = plus_made_right v w x y
    by false e = sym (made_high (v +ℤ x) (w + y) (grind (arith, nat_tests)))

over_sum : (y t : ℕ) → over_times (y + t) ≡ plus (over_times y) (over_times t)
over_sum zero zero = refl
over_sum zero (suc t) = over_some (zero + suc t) (omega arith) ∙ sym (ap (plus zero_number) (over_some (suc t) (omega arith)))
over_sum (suc y) t = over_some (suc y + t) (omega arith) ∙ sym (ap (λ n. plus n (over_times t)) (over_some (suc y) (omega arith)))

-- a factor against Over and another number
over_spread : (v : ℤ) (w : ℕ) (c : Number) → is_weighed v w ≡ true → is_number c ≡ true → over_times w ≡ plus (over_times w) (times (number v w) c)
over_spread v w c ha hc =
    elim (some_or_zero w) [
      | inr some ↦ over_some w some ∙ sym (ap (λ n. plus n (times (number v w) c)) (over_some w some))
      | inl none ↦
          let v_zero : v ≡ pos 0 = zero_value v (let p = (weight_parts v w ha).0 in omega arith) in
          over_zero w none
          ∙ sym (ap (λ n. plus n (times (number v w) c)) (over_zero w none)
          ∙ ap (plus zero_number) ((λ i. times (number (v_zero i) (none i)) c) ∙ times_zero c hc))
    ]

pub distributes : (a b c : Number) → is_number a ≡ true → is_number b ≡ true → is_number c ≡ true → times a (plus b c) ≡ plus (times a b) (times a c)
distributes over over c ha hb hc = refl
distributes over (number x y) over ha hb hc = sym (plus_over (over_times y))
distributes over (number x y) (number z t) ha hb hc = over_made (x +ℤ z) (y + t) ∙ over_sum y t
distributes (number v w) over c ha hb hc = over_spread v w c ha hc
distributes (number v w) (number x y) over ha hb hc = over_spread v w (number x y) ha hb ∙ plus_comm (over_times w) (made (v *ℤ x) (w * y))
distributes (number v w) (number x y) (number z t) ha hb hc =
    times_comm (number v w) (made (x +ℤ z) (y + t)) ∙ times_made (x +ℤ z) (y + t) v w (weight_parts v w ha).0
    ∙ (λ i. made (spread i) (nat_spread i))
    ∙ sym (plus_made (v *ℤ x) (w * y) (v *ℤ z) (w * t))
  where
    spread : (x +ℤ z) *ℤ v ≡ (v *ℤ x) +ℤ (v *ℤ z)
    spread = mul_comm (x +ℤ z) v ∙ mul_distrib v x z

    nat_spread : (y + t) * w ≡ (w * y) + (w * t)
    nat_spread = omega arith

-- ---- sums and products are numbers

is_made : (v : ℤ) (w : ℕ) → unsigned_abs v ≤ w → is_number (made v w) ≡ true
is_made v w within = by (nat_le w max_weight) refl
  where
    by : (b : Bool) → nat_le w max_weight ≡ b → is_number (cond b (number v w) over) ≡ true
    by true e = let t : nat_le (unsigned_abs v) w ≡ true = grind (arith, nat_tests) in rw (t, e)
    by false e = refl

pub is_number-plus : (a b : Number) → is_number a ≡ true → is_number b ≡ true → is_number (plus a b) ≡ true
is_number-plus over b ha hb = refl
is_number-plus (number v w) over ha hb = refl
is_number-plus (number v w) (number x y) ha hb =
    is_made (v +ℤ x) (w + y) (omega (arith, abs_sum v x, (weight_parts v w ha).0, (weight_parts x y hb).0))

is_over_times : (y : ℕ) → is_number (over_times y) ≡ true
is_over_times y = by (y == 0)
  where
    by : (b : Bool) → is_number (cond b zero_number over) ≡ true
    by true = refl
    by false = refl

pub is_number-times : (a b : Number) → is_number a ≡ true → is_number b ≡ true → is_number (times a b) ≡ true
is_number-times over over ha hb = refl
is_number-times over (number x y) ha hb = is_over_times y
is_number-times (number v w) over ha hb = is_over_times w
is_number-times (number v w) (number x y) ha hb =
    is_made (v *ℤ x) (w * y) (abs_product v x w y (weight_parts v w ha).0 (weight_parts x y hb).0)

-- ---- top

pub top_comm : (a b : Number) → top a b ≡ top b a
top_comm over over = refl
top_comm over (number x y) = refl
top_comm (number v w) over = refl
top_comm (number v w) (number x y) = λ i. number (pos (max_comm (unsigned_abs v) (unsigned_abs x) i)) (max_comm w y i)
  where
    max_comm : (m n : ℕ) → max m n ≡ max n m
    max_comm m n = omega arith

pub top_assoc : (a b c : Number) → top (top a b) c ≡ top a (top b c)
top_assoc over b c = refl
top_assoc (number v w) over c = refl
top_assoc (number v w) (number x y) over = refl
top_assoc (number v w) (number x y) (number z t) =
    λ i. number (pos (max_assoc (unsigned_abs v) (unsigned_abs x) (unsigned_abs z) i)) (max_assoc w y t i)
  where
    max_assoc : (m n k : ℕ) → max (max m n) k ≡ max m (max n k)
    max_assoc m n k = omega arith

pub is_number-top : (a b : Number) → is_number a ≡ true → is_number b ≡ true → is_number (top a b) ≡ true
is_number-top over b ha hb = refl
is_number-top (number v w) over ha hb = refl
is_number-top (number v w) (number x y) ha hb =
    let p = weight_parts v w ha in
    let q = weight_parts x y hb in
    let within : nat_le (max (unsigned_abs v) (unsigned_abs x)) (max w y) ≡ true = grind (arith, nat_tests) in
    let low : nat_le (max w y) max_weight ≡ true = grind (arith, nat_tests) in
    rw (within, low)
