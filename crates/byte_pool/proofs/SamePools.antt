-- Pools of the same sizes and leases.
use Rattle.std.proofs.Common.{◌≡◌, ℕ, suc, ◌==◌, Bool, true, false, if◌then◌else◌, List, [], ◌∷◌, None, Some, refl, sym, ap, ◌∙◌, eqb-true, get_or, drop}
use Rattle.byte_pool.specs.Blocks.{BlockState}
use Rattle.byte_pool.specs.Leases.{Leases, leases, sizes, with_lease, without_lease}

pub same_pools : (a b : List BlockState) → sizes a ≡ sizes b → leases a ≡ leases b → a ≡ b
same_pools [] [] s l = refl
same_pools [] (y ∷ ys) s l = absurd (cc)
same_pools (x ∷ xs) [] s l = absurd (cc)
same_pools (x ∷ xs) (y ∷ ys) s l =
    let size : x.size ≡ y.size = ap (λ ns. get_or ns 0 0) s in
    let rest : sizes xs ≡ sizes ys = ap (drop 1) s in
    let first : x.lent ≡ y.lent = ap (λ (f : Leases). f 0) l in
    let others : leases xs ≡ leases ys = (λ t i. l t (suc i)) in
    λ i. record { size = size i; lent = first i } ∷ same_pools xs ys rest others i

-- a lease that was made and ended
ended : (before : Leases) (lease : ℕ) (bytes : List ℕ) → before lease ≡ None → without_lease (with_lease before lease bytes) lease ≡ before
ended before lease bytes free = λ t i. at i (i == lease) refl t
  where
    at : (i : ℕ) (b : Bool) → (i == lease) ≡ b → (if b then None else (if b then Some bytes else before i)) ≡ before i
    at i true e = sym free ∙ ap before (sym (eqb-true i lease e))
    at i false e = refl

pub given_back : (before lent after : List BlockState) (lease : ℕ) (bytes : List ℕ) → leases before lease ≡ None
    → leases lent ≡ with_lease (leases before) lease bytes → sizes lent ≡ sizes before
    → leases after ≡ without_lease (leases lent) lease → sizes after ≡ sizes lent → after ≡ before
given_back before lent after lease bytes free l s m t =
    same_pools after before (t ∙ s) (m ∙ ap (λ f. without_lease f lease) l ∙ ended (leases before) lease bytes free)
