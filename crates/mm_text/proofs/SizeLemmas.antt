-- Sizes that are cut off, and their limits.
use Rattle.std.proofs.Common.{◌≡◌, ℕ, zero, suc, ◌-◌, ◌*◌, ◌^◌, ◌<◌, ◌≤◌, min, Option, Some, None, option_map, ap, sym, ◌∙◌, arith, inl, inr}
use Rattle.std.proofs.Math.Nat.{mul_comm, mul-suc, mul-zero}
use Rattle.std.proofs.lemmas.Bool.{cases_lt}
use Rattle.std.proofs.lemmas.Bool.Decides.{nat_tests}
use Rattle.mm_text.specs.declared.fault.MmFault.TheVariants.{BadSize}
use Rattle.mm_text.specs.declared.file_data.Mirror.{Mirror}
use Rattle.mm_text.specs.declared.profile.Profile.{Profile}
use Rattle.mm_text.specs.declared.reading.banner.Banner.{Banner}
use Rattle.mm_text.specs.declared.reading.sizes.Sizes.{Sizes}
use Rattle.mm_text.specs.Cut.{cut, cut_sizes}
use Rattle.mm_text.specs.Limits.{most_cols, most_rows}
use Rattle.mm_text.specs.Outcomes.{◌>>=◌, or_fault}
use Rattle.mm_text.specs.Sizes.{array_sizes, sizes_limited}

mul_cut_over : (k m n : ℕ) → k < m → min (k * n) k ≡ min (m * n) k
mul_cut_over k m zero h = ap (λ p. min p k) (mul-zero k ∙ sym (mul-zero m))
mul_cut_over k m (suc n) h = omega (arith, mul-suc k n, mul-suc m n)

mul_cut_left : (k m n : ℕ) → min (min m k * n) k ≡ min (m * n) k
mul_cut_left k m n = elim (cases_lt k m) [
  | inl over ↦
      let same : min m k ≡ k = omega arith in
      ap (λ x. min (x * n) k) same ∙ mul_cut_over k m n over
  | inr within ↦
      let same : min m k ≡ m = omega arith in
      ap (λ x. min (x * n) k) same
]

-- a product of numbers that are cut off is cut off as their product
pub mul_cut : (k m n : ℕ) → min (min m k * min n k) k ≡ min (m * n) k
mul_cut k m n =
    mul_cut_left k m (min n k) ∙ ap (λ x. min x k) (mul_comm m (min n k)) ∙ mul_cut_left k n m ∙ ap (λ x. min x k) (mul_comm n m)

pub array_cut : (rows cols : Option ℕ) (r c : ℕ) → Some r ≡ option_map cut rows → Some c ≡ option_map cut cols
    → Some (record { rows = r; cols = c; count = cut (r * c) }) ≡ option_map cut_sizes (array_sizes rows cols)
array_cut (Some m) (Some n) r c hr hc =
    let er : r ≡ cut m = cc in
    let ec : c ≡ cut n = cc in
    ap (λ x. Some (record { rows = x; cols = c; count = cut (x * c) })) er
    ∙ ap (λ x. Some (record { rows = cut m; cols = x; count = cut (cut m * x) })) ec
    ∙ ap (λ x. Some (record { rows = cut m; cols = cut n; count = x })) (mul_cut (2 ^ 64 - 1) m n)
array_cut None cols r c hr hc = absurd (cc)
array_cut (Some m) None r c hr hc = absurd (cc)

-- a size that is cut off above the limits is above them as it was
limited_cut : (m : Mirror) (profile : Profile) (s : Sizes) → profile.rows ≤ most_rows → profile.cols ≤ most_cols →
    profile.entries < 2 ^ 32 → sizes_limited m profile (cut_sizes s) ≡ sizes_limited m profile s
limited_cut m profile s rows cols entries = grind (arith, nat_tests)

pub sizes_cut : (banner : Banner) (profile : Profile) (o : Option Sizes) (s : Sizes) → Some s ≡ option_map cut_sizes o →
    profile.rows ≤ most_rows → profile.cols ≤ most_cols → profile.entries < 2 ^ 32 →
    sizes_limited banner.mirror profile s ≡ (or_fault BadSize o >>= sizes_limited banner.mirror profile)
sizes_cut banner profile None s e rows cols entries = absurd (cc)
sizes_cut banner profile (Some t) s e rows cols entries =
    let same : s ≡ cut_sizes t = cc in
    ap (sizes_limited banner.mirror profile) same ∙ limited_cut banner.mirror profile t rows cols entries
