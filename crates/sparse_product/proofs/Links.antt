-- Rows in one list, and the cells that links stand for.
use Rattle.std.proofs.Common.{◌≡◌, ℕ, zero, suc, ◌+◌, ◌-◌, ◌<◌, ◌≤◌, Bool, true, false, ◌||◌, eqb, List, [], ◌∷◌, ◌++◌, length, map, get_or, take, drop, Some, refl, sym, ap, subst, ◌∙◌, arith, length-drop}
use Rattle.std.specs.Prelude.{slice_get}
use Rattle.std.specs.List.{concat, zip}
use Rattle.std.proofs.lemmas.Bool.{eq-eqb}
use Rattle.std.proofs.lemmas.Option.{get_or_from_slice_get, slice_get_read}
use Rattle.tables.specs.Indices.{stands, AreBelow}
use Rattle.tables.proofs.Counting.{stands-append}
use Rattle.distributor.specs.Entries.{entry_at}
use Rattle.distributor.proofs.Numbered.{slice_get-drop}
use Rattle.crs_graph.specs.Packed.{slices, IsPacked}
use Rattle.crs_graph.proofs.AllColumns.{stands-ascending}
use Rattle.crs_graph.proofs.Packed.{bounded, length-slices}
use Rattle.crs_matrix.specs.Rows.{all_columns, columns_in, entries_of, row_entries, RowCells, IsRowCells}
use Rattle.crs_matrix.proofs.Clauses.{entry-of}
use Rattle.sparse_product.specs.Rows.{AreLinks}

module _ {A : Type 0} where
  slice_get-take : (n i : ℕ) (xs : List A) → i < n → slice_get (take n xs) i ≡ slice_get xs i
  slice_get-take zero i xs l = absurd (omega arith)
  slice_get-take (suc n) i [] l = refl
  slice_get-take (suc n) zero (x ∷ xs) l = refl
  slice_get-take (suc n) (suc i) (x ∷ xs) l = slice_get-take n i xs (omega arith)

  length_take : (n : ℕ) (xs : List A) → n ≤ length xs → length (take n xs) ≡ n
  length_take zero xs l = refl
  length_take (suc n) [] l = absurd (omega arith)
  length_take (suc n) (x ∷ xs) l = ap suc (length_take n xs (omega arith))

  -- a row between its offsets
  pub row-length : (os : List ℕ) (xs : List A) (k : ℕ) → IsPacked os xs → k < length (slices os xs)
      → get_or os (k + 1) 0 - get_or os k 0 ≡ length (get_or (slices os xs) k [])
  row-length os xs k kept low =
      let at = bounded os xs k kept (omega (arith, length-slices os xs kept)) in
      let from = at.ordered in
      let to = at.within in
      sym (ap length (sym at.row) ∙ length_take (get_or os (k + 1) 0 - get_or os k 0) (drop (get_or os k 0) xs) (omega (arith, length-drop (get_or os k 0) xs)))

  pub row-ordered : (os : List ℕ) (xs : List A) (k : ℕ) → IsPacked os xs → k < length (slices os xs) → get_or os k 0 ≤ get_or os (k + 1) 0
  row-ordered os xs k kept low = (bounded os xs k kept (omega (arith, length-slices os xs kept))).ordered

  pub row-last : (os : List ℕ) (xs : List A) (k : ℕ) → IsPacked os xs → k < length (slices os xs) → k + 1 < length os
  row-last os xs k kept low = omega (arith, length-slices os xs kept)

  pub row-within : (os : List ℕ) (xs : List A) (k at : ℕ) → IsPacked os xs → k < length (slices os xs) → at < length (get_or (slices os xs) k []) → get_or os k 0 + at < length xs
  row-within os xs k at kept low inside =
      let b = bounded os xs k kept (omega (arith, length-slices os xs kept)) in
      let from = b.ordered in
      let to = b.within in
      omega (arith, row-length os xs k kept low)

  pub row-link : (os : List ℕ) (xs : List A) (k at : ℕ) → IsPacked os xs → k < length (slices os xs) → at < length (get_or (slices os xs) k [])
      → slice_get (get_or (slices os xs) k []) at ≡ slice_get xs (get_or os k 0 + at)
  row-link os xs k at kept low inside =
      let b = bounded os xs k kept (omega (arith, length-slices os xs kept)) in
      ap (λ ys. slice_get ys at) (sym b.row)
      ∙ slice_get-take (get_or os (k + 1) 0 - get_or os k 0) at (drop (get_or os k 0) xs) (omega (arith, row-length os xs k kept low))
      ∙ slice_get-drop (get_or os k 0) at xs

-- an element with another default
pub at_zero : (xs : List ℕ) (k x : ℕ) → k < length xs → x ≡ get_or xs k x → x ≡ get_or xs k 0
at_zero xs k x low e = sym (get_or_from_slice_get xs k x 0 (slice_get_read xs (length xs) k x refl low e))

-- ---- links

module _ {S : Type 0} where
  pub AreLinks-at : (n : ℕ) (ls : List (ℕ × S)) (i : ℕ) (l : ℕ × S) → AreLinks n ls → slice_get ls i ≡ Some l → l.0 < n
  AreLinks-at n [] i l h e = absurd (cc)
  AreLinks-at n (x ∷ ls) zero l h e = let same : x ≡ l = cc in subst (λ y. y.0 < n) same h.0
  AreLinks-at n (x ∷ ls) (suc i) l h e = AreLinks-at n ls i l h.1 e

  pub AreLinks-push : (n : ℕ) (ls : List (ℕ × S)) (l : ℕ × S) → AreLinks n ls → l.0 < n → AreLinks n (ls ++ l ∷ [])
  AreLinks-push n [] l h low = (low, tt)
  AreLinks-push n (x ∷ ls) l h low = (h.0, AreLinks-push n ls l h.1 low)

  pub take_push : (n : ℕ) (xs : List S) (x : S) → slice_get xs n ≡ Some x → take (n + 1) xs ≡ take n xs ++ x ∷ []
  take_push n [] x e = absurd (cc)
  take_push zero (y ∷ ys) x e = let same : y ≡ x = cc in ap (λ z. z ∷ []) same
  take_push (suc n) (y ∷ ys) x e =
      let next : suc n + 1 ≡ suc (n + 1) = omega arith in
      ap (λ k. take k (y ∷ ys)) next ∙ ap (λ zs. y ∷ zs) (take_push n ys x e)

  -- a cell of a row has one of the columns
  pub stands-columns : (cs : List (ℕ × S)) (i : ℕ) (c : ℕ × S) → slice_get cs i ≡ Some c → stands c.0 (map (λ c. c.0) cs) ≡ true
  stands-columns [] i c e = absurd (cc)
  stands-columns (x ∷ cs) zero c e = let same : x ≡ c = cc in ap (λ b. b || stands c.0 (map (λ c. c.0) cs)) (eq-eqb x.0 c.0 (ap (λ y. y.0) same))
  stands-columns (x ∷ cs) (suc i) c e = ap (λ b. eqb x.0 c.0 || b) (stands-columns cs i c e) ∙ always (eqb x.0 c.0)
    where
      always : (b : Bool) → (b || true) ≡ true
      always true = refl
      always false = refl

  stands-rows : (rows : List (List (ℕ × S))) (k col : ℕ) → stands col (columns_in (get_or rows k [])) ≡ true → stands col (concat (map columns_in rows)) ≡ true
  stands-rows [] k col e = e
  stands-rows (r ∷ rs) zero col e = stands-append col (columns_in r) (concat (map columns_in rs)) ∙ ap (λ b. b || stands col (concat (map columns_in rs))) e
  stands-rows (r ∷ rs) (suc k) col e = stands-append col (columns_in r) (concat (map columns_in rs)) ∙ ap (λ b. stands col (columns_in r) || b) (stands-rows rs k col e) ∙ always (stands col (columns_in r))
    where
      always : (b : Bool) → (b || true) ≡ true
      always true = refl
      always false = refl

  pub column-there : (a : RowCells S) (k i : ℕ) (c : ℕ × S) → slice_get (get_or a.cells k []) i ≡ Some c → stands c.0 (all_columns a) ≡ true
  column-there a k i c e = stands-ascending (concat (map columns_in a.cells)) c.0 ∙ stands-rows a.cells k c.0 (stands-columns (get_or a.cells k []) i c e)

  pub row-entry : (a : RowCells S) (k : ℕ) → IsRowCells a → k < length a.rows → (entry_at (row_entries a) k).cells ≡ get_or a.cells k []
  row-entry a k is low = ap (λ n. n.cells) (entry-of a.rows a.cells k is.each low)

  entries_length : (rows : List ℕ) (cells : List (List (ℕ × S))) → length cells ≡ length rows → length (entries_of rows cells) ≡ length rows
  entries_length [] cells e = refl
  entries_length (r ∷ rs) [] e = absurd (omega arith)
  entries_length (r ∷ rs) (c ∷ cs) e = ap suc (entries_length rs cs (omega arith))

  pub entries-known : (a : RowCells S) (k : ℕ) → IsRowCells a → k < length a.rows → k < length (row_entries a)
  entries-known a k is low = let many = entries_length a.rows a.cells is.each in omega arith

  pub AreLinks-rows : (n : ℕ) (rows : List (List (ℕ × S))) (row : List (ℕ × S)) → ((m : ℕ) → AreLinks n (get_or rows m [])) → AreLinks n row → (m : ℕ) → AreLinks n (get_or (rows ++ row ∷ []) m [])
  AreLinks-rows n [] row h r zero = r
  AreLinks-rows n [] row h r (suc m) = tt
  AreLinks-rows n (q ∷ rows) row h r zero = h 0
  AreLinks-rows n (q ∷ rows) row h r (suc m) = AreLinks-rows n rows row (λ k. h (suc k)) r m

  pub slice_get-zip : (ks : List ℕ) (fs : List S) (i : ℕ) (f : S) → i < length ks → i < length fs → f ≡ get_or fs i f → slice_get (zip ks fs) i ≡ Some (get_or ks i 0, f)
  slice_get-zip [] fs i f l m e = absurd (omega arith)
  slice_get-zip (k ∷ ks) [] i f l m e = absurd (omega arith)
  slice_get-zip (k ∷ ks) (x ∷ fs) zero f l m e = ap (λ y. Some (k, y)) (sym e)
  slice_get-zip (k ∷ ks) (x ∷ fs) (suc i) f l m e = slice_get-zip ks fs i f (omega arith) (omega arith) e

  pub length_zip : (ks : List ℕ) (fs : List S) → length fs ≡ length ks → length (zip ks fs) ≡ length ks
  length_zip [] fs e = refl
  length_zip (k ∷ ks) [] e = absurd (omega arith)
  length_zip (k ∷ ks) (f ∷ fs) e = ap suc (length_zip ks fs (omega arith))

pub below-at : (n : ℕ) (xs : List ℕ) (i : ℕ) → AreBelow n xs → i < length xs → get_or xs i 0 < n
below-at n [] i h l = absurd (omega arith)
below-at n (x ∷ xs) zero h l = h.0
below-at n (x ∷ xs) (suc i) h l = below-at n xs i h.1 (omega arith)
