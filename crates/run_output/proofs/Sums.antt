-- The sum of the values of cells, one after the other.
use Rattle.std.proofs.Common.{◌≡◌, ◌+◌, ◌<◌, ◌&&◌, ℕ, ℤ, Bool, true, false, cond, nat_le, unsigned_abs, suc, List, [], ◌∷◌, ◌++◌, length, take, get_or, refl, sym, ap, ◌∙◌, arith, add-one}
use Rattle.std.proofs.Math.Seq.{take-suc}
use Rattle.std.proofs.lemmas.Bool.Decides.{nat_tests}
use Rattle.scalar_laws.specs.Number.{Number, number, over, made, max_weight, new_number, num, plus, zero_number}
use Rattle.scalar_laws.specs.NumberLaws.{is_number-plus, made_high, plus_assoc, plus_comm}
use Rattle.scalar_laws.specs.declared.weighed.Weighed.{Weighed}
use Rattle.scalar_laws.specs.Weighed.{num_of, weighed_semiring}
use Rattle.scalar_laws.specs.WeighedLaws.{is_number-num_of, num_of-stored}
use Rattle.mm_text.specs.declared.shown.Shown.{Shown}
use Rattle.run_output.specs.Summaries.{cell_sum}

-- one cell more
sum-more : (cells : List Shown) (c : Shown) → cell_sum (cells ++ c ∷ []) ≡ plus (cell_sum cells) (num c.value)
sum-more [] c = plus_comm (num c.value) zero_number
sum-more (x ∷ xs) c = ap (plus (num x.value)) (sum-more xs c) ∙ sym (plus_assoc (num x.value) (cell_sum xs) (num c.value))

-- a value is added with its magnitude, also one that is too great to be a number
plus-new : (a : Number) (v : ℤ) → plus a (new_number v (unsigned_abs v)) ≡ plus a (num v)
plus-new over v = refl
plus-new (number u w) v = by (nat_le (unsigned_abs v) max_weight) refl
  where
    self : nat_le (unsigned_abs v) (unsigned_abs v) ≡ true
    self = grind (arith, nat_tests)

    by : (b : Bool) → nat_le (unsigned_abs v) max_weight ≡ b → plus (number u w) (new_number v (unsigned_abs v)) ≡ plus (number u w) (num v)
    by true e = rw (self, e) refl
    by false e = rw (self, e) (sym (made_high _ (w + unsigned_abs v) (grind (arith, nat_tests))))

pub sum-next : (cells : List Shown) (i : ℕ) (d : Shown) (w : ℕ) (a b c : Weighed) → i < length cells → num_of a ≡ cell_sum (take i cells)
    → w ≡ unsigned_abs (get_or cells i d).value → num_of b ≡ new_number (get_or cells i d).value w → c ≡ weighed_semiring.plus a b
    → num_of c ≡ cell_sum (take (i + 1) cells)
sum-next cells i d w a b c low before weight new is =
    let next : take (i + 1) cells ≡ take i cells ++ get_or cells i d ∷ [] = rw add-one (take-suc cells i d low) in
    ap num_of is
    ∙ num_of-stored (plus (num_of a) (num_of b)) (is_number-plus (num_of a) (num_of b) (is_number-num_of a) (is_number-num_of b))
    ∙ ap (λ x. plus x (num_of b)) before
    ∙ ap (plus (cell_sum (take i cells))) (new ∙ ap (new_number (get_or cells i d).value) weight)
    ∙ plus-new (cell_sum (take i cells)) (get_or cells i d).value
    ∙ sym (sum-more (take i cells) (get_or cells i d))
    ∙ ap cell_sum (sym next)
