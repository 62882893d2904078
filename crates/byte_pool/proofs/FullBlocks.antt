-- Leases that have the length of their blocks.
use Rattle.std.proofs.Common.{◌≡◌, ℕ, zero, suc, ◌+◌, ◌<◌, ◌≤◌, ◌==◌, ◌&&◌, Bool, true, false, cond, if◌then◌else◌, List, [], ◌∷◌, ◌++◌, None, Some, refl, sym, ap, ◌∙◌, length, arith, eq-eqb, eqb-true}
use Rattle.std.specs.Prelude.{Option, count_by, slice_get, nat_le, is_none, replicate}
use Rattle.std.proofs.lemmas.Bool.{and_parts, le-leb, leb-true}
use Rattle.std.proofs.lemmas.Option.{same_Some}
use Rattle.std.proofs.lemmas.List.Sums.{sum_by-cons}
use Rattle.byte_pool.specs.Blocks.{BlockState, free_block, has_room}
use Rattle.byte_pool.specs.Laws.{AreFull, is_full, is_lent_of}
use Rattle.byte_pool.specs.Leases.{IsLeastRoom, leases, sizes, with_lease, without_lease}

both : (a b : Bool) → a ≡ true → b ≡ true → (a && b) ≡ true
both a b p q = λ i. p i && q i

-- By places

pub full-at : (bs : List BlockState) → AreFull bs → (i s : ℕ) → slice_get (sizes bs) i ≡ Some s → is_full s (leases bs i) ≡ true
full-at [] h i s e = absurd (cc)
full-at (b ∷ bs) h zero s e = ap (λ n. is_full n b.lent) (sym (same_Some _ _ e)) ∙ (and_parts (is_full b.size b.lent) _ h).0
full-at (b ∷ bs) h (suc i) s e = full-at bs (and_parts (is_full b.size b.lent) _ h).1 i s e

pub at-full : (bs : List BlockState) → ((i s : ℕ) → slice_get (sizes bs) i ≡ Some s → is_full s (leases bs i) ≡ true) → AreFull bs
at-full [] h = refl
at-full (b ∷ bs) h = both (is_full b.size b.lent) _ (h 0 b.size refl) (at-full bs (λ i s e. h (suc i) s e))

size-at : (bs : List BlockState) (i : ℕ) (b : BlockState) → slice_get bs i ≡ Some b → slice_get (sizes bs) i ≡ Some b.size
size-at [] i b e = absurd (cc)
size-at (c ∷ cs) zero b e = ap (λ (x : BlockState). Some x.size) (same_Some _ _ e)
size-at (c ∷ cs) (suc i) b e = size-at cs i b e

-- A free block of a length

pub record FreeOf (len : ℕ) (bs : List BlockState) : Type 0 where
  pub place : ℕ
  pub block : BlockState
  pub at : slice_get bs place ≡ Some block
  pub free : block.lent ≡ None
  pub size : block.size ≡ len

behind : (len : ℕ) (c : BlockState) (cs : List BlockState) → FreeOf len cs → FreeOf len (c ∷ cs)
behind len c cs f = record { place = suc f.place; block = f.block; at = f.at; free = f.free; size = f.size }

count-cons : (p : BlockState → Bool) (c : BlockState) (cs : List BlockState) → count_by p (c ∷ cs) ≡ cond (p c) 1 0 + count_by p cs
count-cons p c cs = sum_by-cons (λ x. cond (p x) 1 0) c cs

-- a block that is not free, or of another size, has no more to do with the counts than with the leases
covered : (len size : ℕ) (lent : Option (List ℕ)) → is_full size lent ≡ true → (lent ≡ None → size ≡ len → ⊥) → cond (size == len) 1 0 ≤ cond (is_lent_of len lent) 1 0
covered len size None h off = by (size == len) refl
  where
    by : (t : Bool) → (size == len) ≡ t → cond t 1 0 ≤ 0
    by true e = absurd (off refl (eqb-true size len e))
    by false e = omega arith
covered len size (Some bytes) h off =
    let same : length bytes ≡ size = eqb-true (length bytes) size h in
    let e : cond {A = ℕ} (size == len) 1 0 ≡ cond {A = ℕ} (length bytes == len) 1 0 = ap (λ n. cond {A = ℕ} (n == len) 1 0) (sym same) in
    omega (arith, e)

fewer : (len : ℕ) (c : BlockState) (cs : List BlockState) → AreFull (c ∷ cs)
    → count_by (λ b. is_lent_of len b.lent) (c ∷ cs) < count_by (λ b. b.size == len) (c ∷ cs) → (c.lent ≡ None → c.size ≡ len → ⊥)
    → count_by (λ b. is_lent_of len b.lent) cs < count_by (λ b. b.size == len) cs
fewer len c cs h l off =
    let lent = count-cons (λ b. is_lent_of len b.lent) c cs in
    let sized = count-cons (λ b. b.size == len) c cs in
    let most = covered len c.size c.lent (and_parts (is_full c.size c.lent) _ h).0 off in
    omega arith

-- it is the first block, or stands behind it
free_from : (len : ℕ) (c : BlockState) (cs : List BlockState) → AreFull (c ∷ cs)
    → count_by (λ b. is_lent_of len b.lent) (c ∷ cs) < count_by (λ b. b.size == len) (c ∷ cs)
    → (count_by (λ b. is_lent_of len b.lent) cs < count_by (λ b. b.size == len) cs → FreeOf len cs)
    → (o : Option (List ℕ)) → c.lent ≡ o → (t : Bool) → (c.size == len) ≡ t → FreeOf len (c ∷ cs)
free_from len c cs h l more None free true e = record { place = 0; block = c; at = refl; free = free; size = eqb-true c.size len e }
free_from len c cs h l more None free false e = behind len c cs (more (fewer len c cs h l (λ o s. (let yes = eq-eqb c.size len s in absurd (cc)))))
free_from len c cs h l more (Some bytes) lent t e = behind len c cs (more (fewer len c cs h l (λ o s. absurd (cc))))

pub free-of : (len : ℕ) (bs : List BlockState) → AreFull bs → count_by (λ b. is_lent_of len b.lent) bs < count_by (λ b. b.size == len) bs → FreeOf len bs
free-of len [] h l = absurd (omega arith)
free-of len (c ∷ cs) h l =
    free_from len c cs h l (λ k. free-of len cs (and_parts (is_full c.size c.lent) _ h).1 k) c.lent refl (c.size == len) refl

counted : (p : BlockState → Bool) (bs : List BlockState) (i : ℕ) (b : BlockState) → slice_get bs i ≡ Some b → p b ≡ true → 1 ≤ count_by p bs
counted p [] i b e t = absurd (cc)
counted p (c ∷ cs) zero b e t =
    let here : cond {A = ℕ} (p c) 1 0 ≡ 1 = ap (λ x. cond {A = ℕ} (p x) 1 0) (same_Some _ _ e) ∙ ap (λ v. cond {A = ℕ} v 1 0) t in
    let all = count-cons p c cs in
    omega arith
counted p (c ∷ cs) (suc i) b e t =
    let more = counted p cs i b e t in
    let all = count-cons p c cs in
    omega arith

has-room : (len : ℕ) (b : BlockState) → b.lent ≡ None → b.size ≡ len → has_room len b ≡ true
has-room len b free size = both (is_none b.lent) (nat_le len b.size) (ap is_none free) (le-leb len b.size (omega arith))

pub room-of : (len : ℕ) (bs : List BlockState) → FreeOf len bs → 1 ≤ count_by (has_room len) bs
room-of len bs f = counted (has_room len) bs f.place f.block f.at (has-room len f.block f.free f.size)

-- the least room has this length
pub least-size : (len : ℕ) (bs : List BlockState) (lease : ℕ) (f : FreeOf len bs) (l : IsLeastRoom len bs lease) → l.block.size ≡ len
least-size len bs lease f l =
    let most = l.least f.place f.block f.at (has-room len f.block f.free f.size) in
    let least = leb-true len l.block.size (and_parts (is_none l.block.lent) (nat_le len l.block.size) l.room).1 in
    let same = f.size in
    omega arith

pub lent-full : (len : ℕ) (bs after : List BlockState) (lease : ℕ) (bytes : List ℕ) → AreFull bs → FreeOf len bs → IsLeastRoom len bs lease → length bytes ≡ len
    → leases after ≡ with_lease (leases bs) lease bytes → sizes after ≡ sizes bs → AreFull after
lent-full len bs after lease bytes h f l long m s = at-full after (λ i n e. at i n e (i == lease) refl)
  where
    at : (i n : ℕ) → slice_get (sizes after) i ≡ Some n → (t : Bool) → (i == lease) ≡ t → is_full n (leases after i) ≡ true
    at i n e true same =
        let here : slice_get (sizes bs) i ≡ Some l.block.size = ap (slice_get (sizes bs)) (eqb-true i lease same) ∙ size-at bs lease l.block l.at in
        let size : n ≡ len = same_Some _ _ (sym e ∙ ap (λ ns. slice_get ns i) s ∙ here) ∙ least-size len bs lease f l in
        ap (is_full n) ((λ t. m t i) ∙ ap (λ b. if b then Some bytes else leases bs i) same) ∙ eq-eqb (length bytes) n (long ∙ sym size)
    at i n e false other =
        ap (is_full n) ((λ t. m t i) ∙ ap (λ b. if b then Some bytes else leases bs i) other) ∙ full-at bs h i n (sym (ap (λ ns. slice_get ns i) s) ∙ e)

pub freed-full : (bs after : List BlockState) (lease : ℕ) → AreFull bs → leases after ≡ without_lease (leases bs) lease → sizes after ≡ sizes bs → AreFull after
freed-full bs after lease h m s = at-full after (λ i n e. at i n e (i == lease) refl)
  where
    at : (i n : ℕ) → slice_get (sizes after) i ≡ Some n → (t : Bool) → (i == lease) ≡ t → is_full n (leases after i) ≡ true
    at i n e true same = ap (is_full n) ((λ t. m t i) ∙ ap (λ b. if b then None else leases bs i) same)
    at i n e false other =
        ap (is_full n) ((λ t. m t i) ∙ ap (λ b. if b then None else leases bs i) other) ∙ full-at bs h i n (sym (ap (λ ns. slice_get ns i) s) ∙ e)

pub more-full : (bs : List BlockState) (size count : ℕ) → AreFull bs → AreFull (bs ++ replicate count (free_block size))
more-full [] size zero h = refl
more-full [] size (suc count) h = more-full [] size count h
more-full (b ∷ bs) size count h =
    let t = and_parts (is_full b.size b.lent) _ h in both (is_full b.size b.lent) _ t.0 (more-full bs size count t.1)
