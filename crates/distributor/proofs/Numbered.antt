-- Entries that each have the same count of numbers.
use Rattle.std.proofs.Common.{◌≡◌, ℕ, zero, suc, ◌+◌, ◌*◌, ◌<◌, ◌≤◌, List, [], ◌∷◌, Some, refl, sym, ap, ◌∙◌, arith, length, get_or, take, drop}
use Rattle.std.specs.Prelude.{slice_get}
use Rattle.std.specs.List.{zip}
use Rattle.std.specs.List.Sorted.{IsStrictlyIncreasing}
use Rattle.std.proofs.lemmas.Slice.Zip.{length-zip, firsts-zip}
use Rattle.tables.specs.Indices.{count_from}
use Rattle.std.proofs.lemmas.List.{length-map}
use Rattle.distributor.specs.Entries.{Entry, entry_at, numbered, columns_of, placed, cells_for}
use Rattle.distributor.proofs.Combined.{slice_get-zip}

pub length-count_from : (n k : ℕ) → length (count_from n k) ≡ k
length-count_from n zero = refl
length-count_from n (suc k) = ap suc (length-count_from (n + 1) k)

pub slice_get-count_from : (n k i : ℕ) → i < k → slice_get (count_from n k) i ≡ Some (n + i)
slice_get-count_from n zero i l = absurd (omega arith)
slice_get-count_from n (suc k) zero l = let e : n ≡ n + 0 = omega arith in ap Some e
slice_get-count_from n (suc k) (suc i) l = slice_get-count_from (n + 1) k i (omega arith) ∙ (let e : n + 1 + i ≡ n + suc i = omega arith in ap Some e)

pub get_or-count_from : (n k i d : ℕ) → i < k → get_or (count_from n k) i d ≡ n + i
get_or-count_from n zero i d l = absurd (omega arith)
get_or-count_from n (suc k) zero d l = omega arith
get_or-count_from n (suc k) (suc i) d l = get_or-count_from (n + 1) k i d (omega arith) ∙ omega arith

pub increasing-count_from : (n k : ℕ) → IsStrictlyIncreasing (count_from n k)
increasing-count_from n k i l =
    let size = length-count_from n k in
    let within : i + 1 < k = omega (arith, size) in
    omega (arith, get_or-count_from n k i 0 (omega arith), get_or-count_from n k (i + 1) 0 within)

module _ {S : Type 0} where
  drop-nil : (i : ℕ) → drop {A = S} i [] ≡ []
  drop-nil zero = refl
  drop-nil (suc i) = refl

  pub drop-drop : (m n : ℕ) (xs : List S) → drop n (drop m xs) ≡ drop (m + n) xs
  drop-drop zero n xs = let e : n ≡ 0 + n = omega arith in ap (λ k. drop k xs) e
  drop-drop (suc m) n [] = drop-nil n ∙ sym (drop-nil (suc m + n))
  drop-drop (suc m) n (x ∷ xs) = drop-drop m n xs ∙ (let e : suc (m + n) ≡ suc m + n = omega arith in ap (λ k. drop k (x ∷ xs)) e)

  pub slice_get-drop : (m i : ℕ) (xs : List S) → slice_get (drop m xs) i ≡ slice_get xs (m + i)
  slice_get-drop zero i xs = let e : i ≡ 0 + i = omega arith in ap (slice_get xs) e
  slice_get-drop (suc m) i [] = refl
  slice_get-drop (suc m) i (x ∷ xs) = slice_get-drop m i xs ∙ (let e : suc (m + i) ≡ suc m + i = omega arith in ap (slice_get (x ∷ xs)) e)

  pub slice_get-take : (n i : ℕ) (xs : List S) → i < n → slice_get (take n xs) i ≡ slice_get xs i
  slice_get-take zero i xs l = absurd (omega arith)
  slice_get-take (suc n) i [] l = refl
  slice_get-take (suc n) zero (x ∷ xs) l = refl
  slice_get-take (suc n) (suc i) (x ∷ xs) l = slice_get-take n i xs (omega arith)

  pub length-drop_most : (m n : ℕ) (xs : List S) → m + n ≤ length xs → n ≤ length (drop m xs)
  length-drop_most zero n xs l = omega arith
  length-drop_most (suc m) n [] l = absurd (omega arith)
  length-drop_most (suc m) n (x ∷ xs) l = length-drop_most m n xs (omega arith)

  pub length-take_most : (n : ℕ) (xs : List S) → n ≤ length xs → length (take n xs) ≡ n
  length-take_most zero xs l = refl
  length-take_most (suc n) [] l = absurd (omega arith)
  length-take_most (suc n) (x ∷ xs) l = ap suc (length-take_most n xs (omega arith))

  pub length-take_few : (n : ℕ) (xs : List S) → length (take n xs) ≤ n
  length-take_few zero xs = omega arith
  length-take_few (suc n) [] = omega arith
  length-take_few (suc n) (x ∷ xs) = omega (arith, length-take_few n xs)

  pub length-numbered : (width : ℕ) (gids : List ℕ) (numbers : List S) → length (numbered width gids numbers) ≡ length gids
  length-numbered width [] numbers = refl
  length-numbered width (g ∷ gs) numbers = ap suc (length-numbered width gs (drop width numbers))

  -- one of the entries
  abbrev pub numbered_entry : ℕ → ℕ → ℕ → List S → Entry S
  numbered_entry width gid at numbers = record { gid = gid; cells = zip (count_from 0 width) (take width (drop (at * width) numbers)) }

  pub entry_at-numbered : (width : ℕ) (gids : List ℕ) (numbers : List S) (at : ℕ) → at < length gids
      → entry_at (numbered width gids numbers) at ≡ numbered_entry width (get_or gids at 0) at numbers
  entry_at-numbered width [] numbers at l = absurd (omega arith)
  entry_at-numbered width (g ∷ gs) numbers zero l =
      let e : 0 ≡ 0 * width = omega arith in
      ap (λ k. record { gid = g; cells = zip (count_from 0 width) (take width (drop k numbers)) }) e
  entry_at-numbered width (g ∷ gs) numbers (suc at) l =
      entry_at-numbered width gs (drop width numbers) at (omega arith)
      ∙ ap (λ z. record { gid = get_or gs at 0; cells = zip (count_from 0 width) (take width z) })
      (drop-drop width (at * width) numbers ∙ (let e : width + at * width ≡ suc at * width = omega arith in ap (λ k. drop k numbers) e))

  -- its cells
  pub length-cells : (width gid at : ℕ) (numbers : List S) → at * width + width ≤ length numbers → length (numbered_entry width gid at numbers).cells ≡ width
  length-cells width gid at numbers l =
      let here = length-zip (count_from 0 width) (take width (drop (at * width) numbers)) in
      let ks = length-count_from 0 width in
      let vs = length-take_most width (drop (at * width) numbers) (length-drop_most (at * width) width numbers l) in
      grind (arith, here, ks, vs)

  pub few-cells : (width gid at : ℕ) (numbers : List S) → length (numbered_entry width gid at numbers).cells ≤ width
  few-cells width gid at numbers =
      let here = length-zip (count_from 0 width) (take width (drop (at * width) numbers)) in
      let ks = length-count_from 0 width in
      grind (arith, here, ks)

  pub columns-numbered : (width gid at : ℕ) (numbers : List S) → at * width + width ≤ length numbers → columns_of (numbered_entry width gid at numbers) ≡ count_from 0 width
  columns-numbered width gid at numbers l =
      firsts-zip (count_from 0 width) (take width (drop (at * width) numbers))
      (length-take_most width (drop (at * width) numbers) (length-drop_most (at * width) width numbers l) ∙ sym (length-count_from 0 width))

  pub cell-numbered : (width gid at col : ℕ) (numbers : List S) (v : S) → col < width → slice_get numbers (at * width + col) ≡ Some v
      → slice_get (numbered_entry width gid at numbers).cells col ≡ Some (col, v)
  cell-numbered width gid at col numbers v l e =
      slice_get-zip (count_from 0 width) (take width (drop (at * width) numbers)) col _ _
      (slice_get-count_from 0 width col l ∙ (let z : 0 + col ≡ col = omega arith in ap Some z))
      (slice_get-take width col (drop (at * width) numbers) l ∙ slice_get-drop (at * width) col numbers ∙ e)

  pub length-numbered-cells : (to width gid at : ℕ) (numbers : List S) → length (cells_for to (numbered_entry width gid at numbers)) ≤ width
  length-numbered-cells to width gid at numbers =
      omega (arith, length-map (numbered_entry width gid at numbers).cells (placed to), few-cells width gid at numbers)
