-- As many blocks are lent as there are letters to be sent.
use Rattle.std.proofs.Common.{◌≡◌, ℕ, zero, suc, ◌+◌, ◌==◌, ◌||◌, Bool, true, false, cond, if◌then◌else◌, List, [], ◌∷◌, Option, None, Some, refl, sym, ap, ◌∙◌, length, arith}
use Rattle.std.specs.Prelude.{IsSome, is_some, count_by}
use Rattle.std.proofs.lemmas.Bool.Decides.{nat_tests}
use Rattle.std.proofs.lemmas.List.Sums.{sum_by-cons}
use Rattle.byte_pool.specs.Blocks.{BlockState, free_block}
use Rattle.byte_pool.specs.Leases.{leases, without_lease}
use Rattle.rank_phases.specs.Outboxes.{AreKept, has_lease}
use Rattle.rank_phases.specs.declared.outbox.Post.{Post}
use Rattle.rank_phases.proofs.Outboxes.{AreKept-rest}

-- how many blocks are lent
abbrev pub lent_count : List BlockState → ℕ
lent_count blocks = count_by (λ b. is_some b.lent) blocks

lent_count-cons : (b : BlockState) (bs : List BlockState) → lent_count (b ∷ bs) ≡ cond (is_some b.lent) 1 0 + lent_count bs
lent_count-cons b bs = sum_by-cons (λ x. cond (is_some x.lent) 1 0) b bs

none_lent : (bs : List BlockState) → ((i : ℕ) → IsSome (leases bs i) → ⊥) → lent_count bs ≡ 0
none_lent [] none = refl
none_lent (b ∷ bs) none =
    let whole = lent_count-cons b bs in
    let nothing : cond {A = ℕ} (is_some b.lent) 1 0 ≡ 0 = ap (λ t. cond t 1 0) (free (is_some b.lent) refl) in
    let rest = none_lent bs (λ i some. none (suc i) some) in
    omega (arith, whole, nothing, rest)
  where
    free : (t : Bool) → is_some b.lent ≡ t → is_some b.lent ≡ false
    free true e = absurd (none 0 e)
    free false e = e

-- the blocks with that of one lease made free
abbrev freed : List BlockState → ℕ → List BlockState
freed [] i = []
freed (b ∷ bs) zero = free_block b.size ∷ bs
freed (b ∷ bs) (suc i) = b ∷ freed bs i

same_both : (o : Option (List ℕ)) (t : Bool) → o ≡ (if t then o else o)
same_both o true = refl
same_both o false = refl

freed-at : (bs : List BlockState) (i j : ℕ) → leases (freed bs i) j ≡ without_lease (leases bs) i j
freed-at [] i j = same_both None (j == i)
freed-at (b ∷ bs) zero zero = refl
freed-at (b ∷ bs) zero (suc j) = ap (λ t. if t then None else leases bs j) (sym (behind j))
  where
    behind : (k : ℕ) → (suc k == zero) ≡ false
    behind k = grind (arith, nat_tests)
freed-at (b ∷ bs) (suc i) zero = ap (λ t. if t then None else b.lent) (sym (before i))
  where
    before : (k : ℕ) → (zero == suc k) ≡ false
    before k = grind (arith, nat_tests)
freed-at (b ∷ bs) (suc i) (suc j) = freed-at bs i j ∙ ap (λ t. if t then None else leases bs j) (sym (both i j))
  where
    both : (k l : ℕ) → (suc l == suc k) ≡ (l == k)
    both k l = grind (arith, nat_tests)

freed-leases : (bs : List BlockState) (i : ℕ) → leases (freed bs i) ≡ without_lease (leases bs) i
freed-leases bs i = λ t j. freed-at bs i j t

freed-count : (bs : List BlockState) (i : ℕ) → IsSome (leases bs i) → lent_count bs ≡ suc (lent_count (freed bs i))
freed-count [] i some = absurd (cc)
freed-count (b ∷ bs) zero some =
    let whole = lent_count-cons b bs in
    let rest = lent_count-cons (free_block b.size) bs in
    let one : cond {A = ℕ} (is_some b.lent) 1 0 ≡ 1 = ap (λ t. cond t 1 0) some in
    omega (arith, whole, rest, one)
freed-count (b ∷ bs) (suc i) some =
    let whole = lent_count-cons b bs in
    let rest = lent_count-cons b (freed bs i) in
    let less = freed-count bs i some in
    omega (arith, whole, rest, less)

-- each post has a live lease of its own, and no other is live
pub lent-posts : (bs : List BlockState) (posts : List Post) → AreKept (leases bs) posts → lent_count bs ≡ length posts
lent-posts bs [] kept = none_lent bs (λ i some. impossible (kept.no_other i some))
  where
    impossible : false ≡ true → ⊥
    impossible e = absurd (cc)
lent-posts bs (p ∷ ps) kept =
    freed-count bs p.lease kept.lent.0
    ∙ ap (λ n. suc n) (lent-posts (freed bs p.lease) ps (AreKept-rest (leases bs) (leases (freed bs p.lease)) p ps (freed-leases bs p.lease) kept))
