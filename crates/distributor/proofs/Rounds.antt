-- Blocks of a pool that are lent and given back.
use Rattle.std.proofs.Common.{◌≡◌, ℕ, suc, ◌+◌, ◌≤◌, Bool, true, false, cond, ◌&&◌, eqb, leb, List, [], ◌∷◌, Option, Some, None, refl, sym, ap, ◌∙◌, arith, length, get_or, drop}
use Rattle.std.specs.Prelude.{count_by}
use Rattle.std.proofs.lemmas.Bool.{eqb-true, eq-eqb, le-leb}
use Rattle.std.proofs.lemmas.List.Sums.{sum_by-cons}
use Rattle.byte_pool.specs.Blocks.{BlockState, has_room}
use Rattle.byte_pool.specs.Leases.{leases, sizes, with_lease, without_lease}
use Rattle.distributor.specs.Rounds.{lent_with, lent_whole, AreWhole, blocks_of, leases_of}
use Rattle.distributor.proofs.Combined.{list_all-parts}

-- a pool is known by its leases and sizes
pub same-pool : (xs ys : List BlockState) → leases xs ≡ leases ys → sizes xs ≡ sizes ys → xs ≡ ys
same-pool [] [] l s = refl
same-pool [] (b ∷ ys) l s = absurd (let e = ap length s in omega (arith, e))
same-pool (a ∷ xs) [] l s = absurd (let e = ap length s in omega (arith, e))
same-pool (a ∷ xs) (b ∷ ys) l s =
    let rest = same-pool xs ys (λ t i. l t (suc i)) (ap (drop 1) s) in
    let size : a.size ≡ b.size = ap (λ zs. get_or zs 0 0) s in
    λ t. record { size = size t; lent = l t 0 } ∷ rest t

pub free-again : (pool lent after : List BlockState) (i : ℕ) (bytes : List ℕ) → leases pool i ≡ None
    → leases lent ≡ with_lease (leases pool) i bytes → sizes lent ≡ sizes pool
    → leases after ≡ without_lease (leases lent) i → sizes after ≡ sizes lent → after ≡ pool
free-again pool lent after i bytes none l s m r =
    same-pool after pool (m ∙ ap (λ live. without_lease live i) l ∙ (λ t j. back j (eqb j i) refl t)) (r ∙ s)
  where
    back : (j : ℕ) (b : Bool) → eqb j i ≡ b → cond b None (cond b (Some bytes) (leases pool j)) ≡ leases pool j
    back j true e = sym (ap (leases pool) (eqb-true j i e) ∙ none)
    back j false e = refl

count_by-cons : {X : Type 0} (p : X → Bool) (x : X) (xs : List X) → count_by p (x ∷ xs) ≡ cond (p x) 1 0 + count_by p xs
count_by-cons p x xs = sum_by-cons (λ x. cond (p x) 1 0) x xs

abbrev as_number : Bool → ℕ
as_number b = cond b 1 0

-- a block of the size is free, or its lease has the length
one-block : (size len : ℕ) (lent : Option (List ℕ)) → lent_whole size lent ≡ true
    → cond (eqb size len) 1 0 ≤ cond (has_room len (record { size = size; lent = lent })) 1 0 + cond (lent_with len lent) 1 0
one-block size len None w = by (eqb size len) refl
  where
    by : (b : Bool) → eqb size len ≡ b → cond b 1 0 ≤ cond (leb len size) 1 0 + 0
    by false e = omega arith
    by true e = let l : len ≤ size = omega (arith, eqb-true size len e) in let t = ap as_number (le-leb len size l) in omega (arith, t)
one-block size len (Some bytes) w = by (eqb size len) refl
  where
    by : (b : Bool) → eqb size len ≡ b → cond b 1 0 ≤ 0 + cond (eqb (length bytes) len) 1 0
    by false e = omega arith
    by true e = let t = ap as_number (eq-eqb (length bytes) len (eqb-true (length bytes) size w ∙ eqb-true size len e)) in omega (arith, t)

pub room-or-lease : (pool : List BlockState) (len : ℕ) → AreWhole pool → blocks_of len pool ≤ count_by (has_room len) pool + leases_of len pool
room-or-lease [] len w = omega arith
room-or-lease (b ∷ bs) len w =
    let parts = list_all-parts (λ (b : BlockState). lent_whole b.size b.lent) (b ∷ []) bs w in
    let here = (list_all-head parts.0) in
    omega (arith, room-or-lease bs len parts.1, one-block b.size len b.lent here, count_by-cons (λ (b : BlockState). eqb b.size len) b bs, count_by-cons (has_room len) b bs, count_by-cons (λ (b : BlockState). lent_with len b.lent) b bs)
  where
    list_all-head : lent_whole b.size b.lent && true ≡ true → lent_whole b.size b.lent ≡ true
    list_all-head h = by (lent_whole b.size b.lent) h
      where
        by : (c : Bool) → c && true ≡ true → c ≡ true
        by true e = refl
        by false e = e
