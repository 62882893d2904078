-- Room for the letters that blocks were reserved for.
use Rattle.std.proofs.Common.{◌≡◌, ℕ, zero, suc, ◌+◌, ◌<◌, ◌≤◌, Bool, true, cond, leb, List, [], ◌∷◌, ◌++◌, map, Result, Ok, Err, refl, ap, ◌∙◌, arith, length, get_or}
use Rattle.std.specs.Prelude.{count_by, OnOk}
use Rattle.std.proofs.lemmas.Bool.{le-leb}
use Rattle.std.proofs.lemmas.List.Sums.{sum_by-cons}
use Rattle.byte_pool.specs.Blocks.{BlockState, free_block, has_room}
use Rattle.distributor.specs.Transfers.{nums_length, letter_lengths}

count-more : (p : BlockState → Bool) (b : BlockState) (bs : List BlockState) → 1 ≤ count_by p bs → 1 ≤ count_by p (b ∷ bs)
count-more p b bs l = omega (arith, l, sum_by-cons (λ c. cond (p c) 1 0) b bs)

count-first : (p : BlockState → Bool) (b : BlockState) (bs : List BlockState) → p b ≡ true → 1 ≤ count_by p (b ∷ bs)
count-first p b bs e = let one : cond (p b) 1 0 ≡ 1 = ap {B = ℕ} (λ c. cond c 1 0) e in omega (arith, one, sum_by-cons (λ c. cond (p c) 1 0) b bs)

first-room : (width : ℕ) (lists : List (List ℕ)) (q : ℕ) → 1 ≤ length (get_or lists q [])
    → 1 ≤ count_by (has_room (nums_length (length (get_or lists q [])) width)) (map free_block (letter_lengths width lists))
first-room width [] q some = absurd (omega (arith, some))
first-room width ([] ∷ ls) zero some = absurd (omega (arith, some))
first-room width ((x ∷ xs) ∷ ls) zero some =
    let len = nums_length (length (x ∷ xs)) width in
    count-first (has_room len) (free_block len) (map free_block (letter_lengths width ls)) (le-leb len len (omega arith))
first-room width ([] ∷ ls) (suc q) some = first-room width ls q some
first-room width ((x ∷ xs) ∷ ls) (suc q) some =
    count-more (has_room (nums_length (length (get_or ls q [])) width)) (free_block (nums_length (length (x ∷ xs)) width)) (map free_block (letter_lengths width ls)) (first-room width ls q some)

room-reserved : (width : ℕ) (lists : List (List ℕ)) (q : ℕ) (old : List BlockState) → 1 ≤ length (get_or lists q [])
    → 1 ≤ count_by (has_room (nums_length (length (get_or lists q [])) width)) (old ++ map free_block (letter_lengths width lists))
room-reserved width lists q [] some = first-room width lists q some
room-reserved width lists q (b ∷ bs) some =
    count-more (has_room (nums_length (length (get_or lists q [])) width)) b (bs ++ map free_block (letter_lengths width lists)) (room-reserved width lists q bs some)

-- each letter of a transfer finds room, where the blocks were reserved
pub letters-find-room : {T E : Type 0} (width columns : ℕ) (lists : List (List ℕ)) (old new : List BlockState) (r : Result T E) → width ≡ columns
    → OnOk r (new ≡ old ++ map free_block (letter_lengths width lists))
    → OnOk r ((q : ℕ) → 1 ≤ length (get_or lists q []) → 1 ≤ count_by (has_room (nums_length (length (get_or lists q [])) columns)) new)
letters-find-room width columns lists old new (Err e) same h = h
letters-find-room width columns lists old new (Ok t) same h = λ q some.
    let made = room-reserved width lists q old some in
    let here = ap (count_by (has_room (nums_length (length (get_or lists q [])) width))) h in
    let there = ap (λ w. count_by (has_room (nums_length (length (get_or lists q [])) w)) new) same in
    omega (arith, made, here, there)
