-- Blocks of a pool, and their leases.
use Rattle.std.proofs.Common.{◌≡◌, ℕ, zero, suc, ◌+◌, ◌<◌, ◌≤◌, ◌==◌, Bool, true, false, cond, if◌then◌else◌, List, [], ◌∷◌, ◌++◌, None, Some, refl, sym, ap, ◌∙◌, subst, length, get_or, set, take, drop, arith}
use Rattle.std.specs.Prelude.{IsSome, Option, is_none, nat_le, count_by, slice_get, option_map, replicate}
use Rattle.std.specs.List.{refill}
use Rattle.std.proofs.lemmas.Bool.{and_parts, eq-eqb}
use Rattle.std.proofs.lemmas.Bool.Decides.{nat_tests}
use Rattle.std.proofs.lemmas.List.Sums.{sum_by-cons}
use Rattle.std.proofs.lemmas.List.{take_at}
use Rattle.byte_pool.specs.Blocks.{BlockState, free_block, has_room, written}
use Rattle.byte_pool.specs.Leases.{IsLeastRoom, Leases, leases, sizes, with_lease, without_lease, with_written}

same_suc : (i j : ℕ) → (suc j == suc i) ≡ (j == i)
same_suc i j = grind (arith, nat_tests)

zero_suc : (j : ℕ) → (suc j == zero) ≡ false
zero_suc j = grind (arith, nat_tests)

suc_zero : (i : ℕ) → (zero == suc i) ≡ false
suc_zero i = grind (arith, nat_tests)

-- a lease is of a block
pub leases-within : (bs : List BlockState) (i : ℕ) → IsSome (leases bs i) → i < length bs
leases-within [] i h = absurd (cc)
leases-within (b ∷ bs) zero h = omega arith
leases-within (b ∷ bs) (suc i) h = let more = leases-within bs i h in omega arith

pub leases-at : (bs : List BlockState) (i : ℕ) (d : BlockState) → i < length bs → leases bs i ≡ (get_or bs i d).lent
leases-at [] i d l = absurd (omega arith)
leases-at (b ∷ bs) zero d l = refl
leases-at (b ∷ bs) (suc i) d l = leases-at bs i d (omega arith)

set_at : (bs : List BlockState) (i : ℕ) (b : BlockState) → i < length bs → (j : ℕ) → leases (set bs i b) j ≡ (if j == i then b.lent else leases bs j)
set_at [] i b l j = absurd (omega arith)
set_at (c ∷ cs) zero b l zero = refl
set_at (c ∷ cs) zero b l (suc j) = ap (λ t. if t then b.lent else leases cs j) (sym (zero_suc j))
set_at (c ∷ cs) (suc i) b l zero = ap (λ t. if t then b.lent else c.lent) (sym (suc_zero i))
set_at (c ∷ cs) (suc i) b l (suc j) = set_at cs i b (omega arith) j ∙ ap (λ t. if t then b.lent else leases cs j) (sym (same_suc i j))

-- one block was changed
pub leases-set : (bs : List BlockState) (i : ℕ) (b : BlockState) → i < length bs → leases (set bs i b) ≡ (λ j. if j == i then b.lent else leases bs j)
leases-set bs i b l = λ t j. set_at bs i b l j t

pub sizes-set : (bs : List BlockState) (i : ℕ) (b d : BlockState) → i < length bs → b.size ≡ (get_or bs i d).size → sizes (set bs i b) ≡ sizes bs
sizes-set [] i b d l e = absurd (omega arith)
sizes-set (c ∷ cs) zero b d l e = ap (λ s. s ∷ sizes cs) e
sizes-set (c ∷ cs) (suc i) b d l e = ap (λ ss. c.size ∷ ss) (sizes-set cs i b d (omega arith) e)

-- Blocks that are free

past : (i : ℕ) (size k : ℕ) → leases (replicate k (free_block size)) i ≡ None
past i size zero = refl
past zero size (suc k) = refl
past (suc i) size (suc k) = past i size k

more_at : (bs : List BlockState) (size k i : ℕ) → leases (bs ++ replicate k (free_block size)) i ≡ leases bs i
more_at [] size k i = past i size k
more_at (b ∷ bs) size k zero = refl
more_at (b ∷ bs) size k (suc i) = more_at bs size k i

-- free blocks were made
pub leases-more : (bs : List BlockState) (size k : ℕ) → leases (bs ++ replicate k (free_block size)) ≡ leases bs
leases-more bs size k = λ t i. more_at bs size k i t

-- no block has room
pub no_room : (len : ℕ) (bs : List BlockState) → ((i : ℕ) (d : BlockState) → i < length bs → has_room len (get_or bs i d) ≡ false) → count_by (has_room len) bs ≡ 0
no_room len [] none = refl
no_room len (b ∷ bs) none =
    let more = no_room len bs (λ i d l. none (suc i) d (omega arith)) in
    let first : 0 < suc (length bs) = omega arith in
    let here : cond (has_room len b) 1 0 ≡ 0 = ap (λ t. cond t 1 0) (none 0 b first) in
    sum_by-cons (λ (x : BlockState). cond (has_room len x) 1 0) b bs ∙ (λ i. here i + more i)

-- The least room

pub state-at : (bs : List BlockState) (j : ℕ) (b d : BlockState) → slice_get bs j ≡ Some b → (j < length bs) × (get_or bs j d ≡ b)
state-at [] j b d e = absurd (cc)
state-at (c ∷ cs) zero b d e = (omega arith, cc)
state-at (c ∷ cs) (suc j) b d e = let more = state-at cs j b d e in let below = more.0 in (omega arith, more.1)

pub at-state : (bs : List BlockState) (j : ℕ) (d : BlockState) → j < length bs → slice_get bs j ≡ Some (get_or bs j d)
at-state [] j d l = absurd (omega arith)
at-state (c ∷ cs) zero d l = refl
at-state (c ∷ cs) (suc j) d l = at-state cs j d (omega arith)

pub least_is : (len : ℕ) (bs : List BlockState) (i : ℕ) (d : BlockState) → i < length bs → has_room len (get_or bs i d) ≡ true
    → ((k : ℕ) (d : BlockState) → k < length bs → has_room len (get_or bs k d) ≡ true → (get_or bs i d).size ≤ (get_or bs k d).size)
    → ((k : ℕ) (d : BlockState) → k < i → has_room len (get_or bs k d) ≡ true → (get_or bs i d).size < (get_or bs k d).size)
    → IsLeastRoom len bs i
least_is len bs i d within fits least first = record {
  block = get_or bs i d;
  at = at-state bs i d within;
  room = fits;
  least = λ j b e room. let s = state-at bs j b d e in
      subst (λ (c : BlockState). (get_or bs i d).size ≤ c.size) s.1 (least j d s.0 (ap (has_room len) s.1 ∙ room));
  first = λ j b before e room. let s = state-at bs j b d e in
      subst (λ (c : BlockState). (get_or bs i d).size < c.size) s.1 (first j d before (ap (has_room len) s.1 ∙ room));
}

-- A block that is reached by its lease, in a pool that is seen as `now`

pub within : (bs now : List BlockState) (i lease : ℕ) → bs ≡ now → i ≡ lease → IsSome (leases now lease) → i < length bs
within bs now i lease view is live =
    let there : lease < length now = leases-within now lease live in
    let long : length bs ≡ length now = ap length view in
    omega arith

pub lease-of : (bs now : List BlockState) (i lease : ℕ) (b : BlockState) → bs ≡ now → i ≡ lease → i < length bs → b ≡ get_or bs i b → leases now lease ≡ b.lent
lease-of bs now i lease b view is l at =
    (λ t. leases (sym view t) (sym is t)) ∙ leases-at bs i b l ∙ ap (λ (c : BlockState). c.lent) (sym at)

pub leases-freed : (bs now : List BlockState) (i lease : ℕ) (b : BlockState) → bs ≡ now → i ≡ lease → i < length bs → b.lent ≡ None → leases (set bs i b) ≡ without_lease (leases now) lease
leases-freed bs now i lease b view is l e =
    leases-set bs i b l ∙ (λ t j. if j == is t then e t else leases (view t) j)

pub leases-lent : (bs now : List BlockState) (i lease : ℕ) (b : BlockState) (bytes : List ℕ) → bs ≡ now → i ≡ lease → i < length bs → b.lent ≡ Some bytes → leases (set bs i b) ≡ with_lease (leases now) lease bytes
leases-lent bs now i lease b bytes view is l e =
    leases-set bs i b l ∙ (λ t j. if j == is t then e t else leases (view t) j)

pub sizes-kept : (bs now : List BlockState) (i : ℕ) (b old : BlockState) → bs ≡ now → i < length bs → old ≡ get_or bs i old → b.size ≡ old.size → sizes (set bs i b) ≡ sizes now
sizes-kept bs now i b old view l at e =
    sizes-set bs i b old l (e ∙ ap (λ (c : BlockState). c.size) at) ∙ ap sizes view

-- Bytes that were written

set-written : (bs : List BlockState) (i : ℕ) (bytes : List ℕ) (d : BlockState) → i < length bs → set bs i (written (get_or bs i d) bytes) ≡ with_written bs i bytes
set-written [] i bytes d l = absurd (omega arith)
set-written (b ∷ bs) zero bytes d l = refl
set-written (b ∷ bs) (suc i) bytes d l = ap (λ cs. b ∷ cs) (set-written bs i bytes d (omega arith))

pub is_written : (bs now : List BlockState) (i lease : ℕ) (b : BlockState) (bytes : List ℕ) → bs ≡ now → i ≡ lease → i < length bs → b ≡ get_or bs i b → set bs i (written b bytes) ≡ with_written now lease bytes
is_written bs now i lease b bytes view is l at =
    ap (λ (c : BlockState). set bs i (written c bytes)) at ∙ set-written bs i bytes b l ∙ (λ t. with_written (view t) (is t) bytes)

-- what was written is read, and no other lease and no size changed
pub leases-written : (bs : List BlockState) (i : ℕ) (old bytes : List ℕ) → leases bs i ≡ Some old → length bytes ≡ length old → leases (with_written bs i bytes) ≡ with_lease (leases bs) i bytes
leases-written bs i old bytes e long = λ t j. at bs i e j t
  where
    whole : (b : BlockState) → b.lent ≡ Some old → (written b bytes).lent ≡ Some bytes
    whole b e = ap (option_map (λ old. refill (length old) old bytes)) e ∙ ap Some (sym (ap (λ n. take n (bytes ++ drop (length bytes) old)) long) ∙ take_at bytes (drop (length bytes) old) (length bytes) refl)

    at : (bs : List BlockState) (i : ℕ) → leases bs i ≡ Some old → (j : ℕ) → leases (with_written bs i bytes) j ≡ (if j == i then Some bytes else leases bs j)
    at [] i e j = absurd (cc)
    at (b ∷ bs) zero e zero = whole b e
    at (b ∷ bs) zero e (suc j) = ap (λ t. if t then Some bytes else leases bs j) (sym (zero_suc j))
    at (b ∷ bs) (suc i) e zero = ap (λ t. if t then Some bytes else b.lent) (sym (suc_zero i))
    at (b ∷ bs) (suc i) e (suc j) = at bs i e j ∙ ap (λ t. if t then Some bytes else leases bs j) (sym (same_suc i j))

pub sizes-written : (bs : List BlockState) (i : ℕ) (bytes : List ℕ) → sizes (with_written bs i bytes) ≡ sizes bs
sizes-written [] i bytes = refl
sizes-written (b ∷ bs) zero bytes = refl
sizes-written (b ∷ bs) (suc i) bytes = ap (λ ss. b.size ∷ ss) (sizes-written bs i bytes)

-- bytes written over others
pub with_lease-twice : (live : Leases) (i : ℕ) (a b : List ℕ) → with_lease (with_lease live i a) i b ≡ with_lease live i b
with_lease-twice live i a b = λ t j. at j (j == i) t
  where
    at : (j : ℕ) (t : Bool) → (if t then Some b else (if t then Some a else live j)) ≡ (if t then Some b else live j)
    at j true = refl
    at j false = refl

pub with_lease-same : (live : Leases) (i : ℕ) (a : List ℕ) → with_lease live i a i ≡ Some a
with_lease-same live i a = ap (λ t. if t then Some a else live i) (eq-eqb i i refl)

-- a block with room is free
pub free-lent : (len : ℕ) (b : BlockState) → has_room len b ≡ true → b.lent ≡ None
free-lent len b e = none_of b.lent (and_parts (is_none b.lent) (nat_le len b.size) e).0
  where
    none_of : (o : Option (List ℕ)) → is_none o ≡ true → o ≡ None
    none_of None e = refl
    none_of (Some bytes) e = absurd (cc)

-- a number that is no block's has no lease
pub leases-beyond : (bs now : List BlockState) (i lease : ℕ) → bs ≡ now → i ≡ lease → length bs ≤ i → leases now lease ≡ None
leases-beyond bs now i lease view is l = (λ t. leases (sym view t) (sym is t)) ∙ none_past bs i l
  where
    none_past : (bs : List BlockState) (i : ℕ) → length bs ≤ i → leases bs i ≡ None
    none_past [] i l = refl
    none_past (b ∷ bs) zero l = absurd (omega arith)
    none_past (b ∷ bs) (suc i) l = none_past bs i (omega arith)
