-- Products of what the ranks have add up to the product of the whole: where each row is one rank's, and where a matrix is
-- the sum of the ranks' parts.
use Rattle.std.proofs.Common.{◌≡◌, ℕ, zero, suc, ◌<◌, ◌⊎◌, inl, inr, Bool, true, false, cond, eqb, Option, Some, None, refl, sym, ap, ap₂, ◌∙◌}
use Rattle.scalar_laws.specs.Semiring.{Semiring, IsSemiring}
use Rattle.tables.specs.Sums.{total_below, if_there, both_or_one}
use Rattle.tables.specs.Tables.{Table, only_rows}
use Rattle.tables.proofs.Sums.{places-IsJoining, total_below-swap, total_below-ext, total_below-unit}
use Rattle.tables.proofs.Ranks.{total_below-owner}
use Rattle.model_defs.specs.Operations.{product, transpose, times_there}

module _ {S : Type 0} {R : Semiring S} (L : IsSemiring R) where
  times-none : (a : Option S) → times_there R a None ≡ None
  times-none None = refl
  times-none (Some v) = refl

  times-comm : (a b : Option S) → times_there R a b ≡ times_there R b a
  times-comm None None = refl
  times-comm None (Some b) = refl
  times-comm (Some a) None = refl
  times-comm (Some a) (Some b) = ap Some (L.times_comm a b)

  -- a product with a sum is the sum of the products, where all that can be there is
  times-both : (a b x : Option S) → times_there R (both_or_one R.plus a b) x ≡ both_or_one R.plus (times_there R a x) (times_there R b x)
  times-both None b x = refl
  times-both (Some a) None None = refl
  times-both (Some a) None (Some x) = refl
  times-both (Some a) (Some b) None = refl
  times-both (Some a) (Some b) (Some x) = ap Some (L.times_comm (R.plus a b) x ∙ L.times_plus x a b ∙ ap₂ R.plus (L.times_comm x a) (L.times_comm x b))

  times-total : (n : ℕ) (f : ℕ → Option S) (x : Option S) → times_there R (total_below (if_there R.plus) n f) x ≡ total_below (if_there R.plus) n (λ q. times_there R (f q) x)
  times-total zero f x = refl
  times-total (suc n) f x = times-both (total_below (if_there R.plus) n f) (f n) x ∙ ap (λ z. both_or_one R.plus z (times_there R (f n) x)) (times-total n f x)

  -- parts of a matrix: the products of the parts add up to the product of their sum
  pub product-parts : (P n : ℕ) (parts : ℕ → Table S) (x : Table S) (i j : ℕ)
      → total_below (if_there R.plus) P (λ q. product R n (parts q) x i j) ≡ product R n (λ i k. total_below (if_there R.plus) P (λ q. parts q i k)) x i j
  product-parts P n parts x i j =
      total_below-swap (places-IsJoining L) P n (λ q k. times_there R (parts q i k) (x k j))
      ∙ total_below-ext (places-IsJoining L) n _ _ (λ k l. sym (times-total P (λ q. parts q i k) (x k j)))

  -- owned rows of a and x: the transposed products of the ranks add up to the transposed product
  pub product-owned : (P n : ℕ) (owns : ℕ → ℕ → Bool) (a x : Table S)
      → ((k : ℕ) → ((q : ℕ) × (q < P) × ((p : ℕ) → owns p k ≡ eqb q p)) ⊎ ((i : ℕ) → a k i ≡ None)) → (i j : ℕ)
      → total_below (if_there R.plus) P (λ q. product R n (transpose (only_rows (owns q) a)) (only_rows (owns q) x) i j) ≡ product R n (transpose a) x i j
  product-owned P n owns a x h i j =
      total_below-swap (places-IsJoining L) P n (λ q k. times_there R (cond (owns q k) (a k i) None) (cond (owns q k) (x k j) None))
      ∙ total_below-ext (places-IsJoining L) n _ _ (λ k l. (λ t. total_below (if_there R.plus) P (λ q. both (owns q k) (a k i) (x k j) t)) ∙ one k (h k))
    where
      both : (b : Bool) (u v : Option S) → times_there R (cond b u None) (cond b v None) ≡ cond b (times_there R u v) None
      both true u v = refl
      both false u v = refl

      none : (b : Bool) → let absent : Option S = None in cond b absent None ≡ absent
      none true = refl
      none false = refl

      one : (k : ℕ) → ((q : ℕ) × (q < P) × ((p : ℕ) → owns p k ≡ eqb q p)) ⊎ ((i : ℕ) → a k i ≡ None) → total_below (if_there R.plus) P (λ q. cond (owns q k) (times_there R (a k i) (x k j)) None) ≡ times_there R (a k i) (x k j)
      one k (inl o) = total_below-owner (places-IsJoining L) P o.0 (λ q. owns q k) (times_there R (a k i) (x k j)) o.1 o.2
      one k (inr e) =
          (λ t. total_below (if_there R.plus) P (λ q. cond (owns q k) (times_there R (e i t) (x k j)) None))
          ∙ (λ t. total_below (if_there R.plus) P (λ q. none (owns q k) t))
          ∙ total_below-unit (places-IsJoining L) P
          ∙ sym (ap (λ u. times_there R u (x k j)) (e i))
