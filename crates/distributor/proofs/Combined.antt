-- Cells that come for a table, one after the other, and the entries that they belong to.
use Rattle.std.proofs.Common.{◌≡◌, ℕ, zero, suc, ◌+◌, ◌<◌, ◌≤◌, append_assoc, append-nil, Bool, true, false, ◌&&◌, List, [], ◌∷◌, ◌++◌, map, None, Some, refl, sym, ap, ◌∙◌, arith, length, take, drop, add-one}
use Rattle.std.specs.Prelude.{slice_get, Result, Ok, Err, OnErr}
use Rattle.std.specs.List.{list_all, zip}
use Rattle.std.proofs.lemmas.List.{take-append-drop}
use Rattle.std.proofs.lemmas.List.Sums.{fold-append}
use Rattle.std.proofs.lemmas.Option.{slice_get-map}
use Rattle.std.proofs.lemmas.Grind.{flat_map-append}
use Rattle.std.specs.Option.{option_map}
use Rattle.scalar_laws.specs.Semiring.{Semiring}
use Rattle.tables.specs.declared.Cell.{Cell}
use Rattle.tables.specs.Tables.{Table}
use Rattle.tables.specs.Indices.{count_from}
use Rattle.combine_modes.specs.declared.mode.Mode.{Mode}
use Rattle.distributor.specs.Entries.{Entry, entry_at, placed, cells_for, with_cell, with_cells}
use Rattle.distributor.specs.Transfers.{same_moves, moved_cells, IsPartOf}

-- ---- lists

pub on_err : {T E P : Type 0} (r : Result T E) → P → OnErr r P
on_err (Ok x) p = tt
on_err (Err e) p = p

both : (a b : Bool) → a && b ≡ true → (a ≡ true) × (b ≡ true)
both true b e = (refl, e)
both false b e = absurd (cc)

module _ {X : Type 0} where
  -- a list around one of its elements
  pub around : (xs : List X) (i : ℕ) (x : X) → slice_get xs i ≡ Some x → (xs ≡ take i xs ++ x ∷ drop (suc i) xs) × (take (suc i) xs ≡ take i xs ++ x ∷ [])
  around [] i x e = absurd (let bad : None ≡ Some x = e in cc)
  around (y ∷ ys) zero x e = let same : y ≡ x = cc in ((λ t. same t ∷ ys), (λ t. same t ∷ []))
  around (y ∷ ys) (suc i) x e = let rest = around ys i x e in (ap (λ z. y ∷ z) rest.0, ap (λ z. y ∷ z) rest.1)

  pub take_more : (xs : List X) (i : ℕ) (x : X) → slice_get xs i ≡ Some x → take (i + 1) xs ≡ take i xs ++ x ∷ []
  take_more xs i x e = ap (λ n. take n xs) (add-one i) ∙ (around xs i x e).1

  pub take_whole : (xs : List X) (i : ℕ) → length xs ≤ i → take i xs ≡ xs
  take_whole [] zero l = refl
  take_whole [] (suc i) l = refl
  take_whole (x ∷ xs) zero l = absurd (omega arith)
  take_whole (x ∷ xs) (suc i) l = ap (λ z. x ∷ z) (take_whole xs i (omega arith))

  module _ (p : X → Bool) where
    pub list_all-slice_get : (xs : List X) (i : ℕ) (x : X) → list_all p xs ≡ true → slice_get xs i ≡ Some x → p x ≡ true
    list_all-slice_get [] i x h e = absurd (let bad : None ≡ Some x = e in cc)
    list_all-slice_get (y ∷ ys) zero x h e = let same : y ≡ x = cc in ap p (sym same) ∙ (both (p y) (list_all p ys) h).0
    list_all-slice_get (y ∷ ys) (suc i) x h e = list_all-slice_get ys i x (both (p y) (list_all p ys) h).1 e

    pub list_all-parts : (xs ys : List X) → list_all p (xs ++ ys) ≡ true → (list_all p xs ≡ true) × (list_all p ys ≡ true)
    list_all-parts [] ys h = (refl, h)
    list_all-parts (x ∷ xs) ys h =
        let here = both (p x) (list_all p (xs ++ ys)) h in
        let rest = list_all-parts xs ys here.1 in
        (ap (λ b. b && list_all p xs) here.0 ∙ rest.0, rest.1)

pub slice_get-zip : {A B : Type 0} (xs : List A) (ys : List B) (i : ℕ) (a : A) (b : B) → slice_get xs i ≡ Some a → slice_get ys i ≡ Some b → slice_get (zip xs ys) i ≡ Some (a, b)
slice_get-zip [] ys i a b e f = absurd (let bad : None ≡ Some a = e in cc)
slice_get-zip (x ∷ xs) [] i a b e f = absurd (let bad : None ≡ Some b = f in cc)
slice_get-zip (x ∷ xs) (y ∷ ys) zero a b e f = let s : x ≡ a = cc in let t : y ≡ b = cc in λ k. Some (s k, t k)
slice_get-zip (x ∷ xs) (y ∷ ys) (suc i) a b e f = slice_get-zip xs ys i a b e f

abbrev pub beside : ℕ → ℕ × ℕ
beside i = (i, i)

slice_get-same : (n k i : ℕ) → i < k → slice_get (map beside (count_from n k)) i ≡ Some (beside (n + i))
slice_get-same n zero i l = absurd (omega arith)
slice_get-same n (suc k) zero l = let e : n ≡ n + 0 = omega arith in λ t. Some (beside (e t))
slice_get-same n (suc k) (suc i) l = slice_get-same (n + 1) k i (omega arith) ∙ (let e : n + 1 + i ≡ n + suc i = omega arith in λ t. Some (beside (e t)))

pub slice_get-same_moves : (n i : ℕ) → i < n → slice_get (same_moves n) i ≡ Some (beside i)
slice_get-same_moves n i l = slice_get-same 0 n i l ∙ (let e : 0 + i ≡ i = omega arith in λ t. Some (beside (e t)))

pub length-same_moves : (n : ℕ) → length (same_moves n) ≡ n
length-same_moves n = from 0 n
  where
    from : (m k : ℕ) → length (map beside (count_from m k)) ≡ k
    from m zero = refl
    from m (suc k) = ap suc (from (m + 1) k)

-- ---- cells of an entry, and of entries that are moved

module _ {S : Type 0} where
  pub cell-at : (lid : ℕ) (e : Entry S) (at : ℕ) (cell : ℕ × S) → slice_get e.cells at ≡ Some cell → slice_get (cells_for lid e) at ≡ Some (placed lid cell)
  cell-at lid e at cell f = slice_get-map (placed lid) e.cells at ∙ ap (option_map (placed lid)) f

  pub cell-taken : (takes : ℕ → ℕ → Bool) (lid : ℕ) (e : Entry S) (at : ℕ) (cell : ℕ × S)
      → list_all (λ c. takes c.row c.col) (cells_for lid e) ≡ true → slice_get e.cells at ≡ Some cell → takes lid cell.0 ≡ true
  cell-taken takes lid e at cell h f =
      list_all-slice_get (λ c. takes c.row c.col) (cells_for lid e) at (placed lid cell) h (cell-at lid e at cell f)

  -- one more move of an entry
  moved-more : (entries : List (Entry S)) (moves : List (ℕ × ℕ)) (move : ℕ × ℕ) → moved_cells entries (moves ++ move ∷ []) ≡ moved_cells entries moves ++ cells_for move.1 (entry_at entries move.0)
  moved-more entries moves move = flat_map-append (λ m. cells_for m.1 (entry_at entries m.0)) moves (move ∷ []) ∙ ap (λ z. moved_cells entries moves ++ z) (append-nil _)

  pub moved-around : (entries : List (Entry S)) (moves : List (ℕ × ℕ)) (i : ℕ) (move : ℕ × ℕ) → slice_get moves i ≡ Some move
      → moved_cells entries moves ≡ moved_cells entries (take i moves) ++ (cells_for move.1 (entry_at entries move.0) ++ moved_cells entries (drop (suc i) moves))
  moved-around entries moves i move e =
      ap (moved_cells entries) (around moves i move e).0
      ∙ flat_map-append (λ m. cells_for m.1 (entry_at entries m.0)) (take i moves) (move ∷ drop (suc i) moves)

  pub entry-taken : (takes : ℕ → ℕ → Bool) (entries : List (Entry S)) (moves : List (ℕ × ℕ)) (i : ℕ) (move : ℕ × ℕ) → slice_get moves i ≡ Some move
      → list_all (λ c. takes c.row c.col) (moved_cells entries moves) ≡ true
      → list_all (λ c. takes c.row c.col) (cells_for move.1 (entry_at entries move.0)) ≡ true
  entry-taken takes entries moves i move e h =
      let whole = ap (list_all (λ c. takes c.row c.col)) (sym (moved-around entries moves i move e)) ∙ h in
      let later = (list_all-parts (λ c. takes c.row c.col) (moved_cells entries (take i moves)) _ whole).1 in
      (list_all-parts (λ c. takes c.row c.col) (cells_for move.1 (entry_at entries move.0)) _ later).0

  module _ (R : Semiring S) (mode : Mode) (fixed : Bool) (old : Table S) where
    after-append : (xs ys : List (Cell S)) → with_cells R mode fixed old (xs ++ ys) ≡ with_cells R mode fixed (with_cells R mode fixed old xs) ys
    after-append xs ys = fold-append (λ t cell. with_cell R mode fixed t cell.row cell.col cell.value) old xs ys

    -- one more cell of an entry
    pub entry-more : (lid : ℕ) (e : Entry S) (at : ℕ) (cell : ℕ × S) (now new : Table S) → slice_get e.cells at ≡ Some cell
        → now ≡ with_cells R mode fixed old (take at (cells_for lid e)) → new ≡ with_cell R mode fixed now lid cell.0 cell.1
        → new ≡ with_cells R mode fixed old (take (at + 1) (cells_for lid e))
    entry-more lid e at cell now new f h g =
        g
        ∙ ap (λ t. with_cell R mode fixed t lid cell.0 cell.1) h
        ∙ sym (after-append (take at (cells_for lid e)) (placed lid cell ∷ []))
        ∙ ap (with_cells R mode fixed old) (sym (take_more (cells_for lid e) at (placed lid cell) (cell-at lid e at cell f)))

    -- the cells that came are a first part
    pub part-at : (cells : List (Cell S)) (at : ℕ) (now new : Table S) → now ≡ with_cells R mode fixed old (take at cells) → new ≡ now → IsPartOf R mode fixed old cells new
    part-at cells at now new h g = record { done = take at cells; rest = drop at cells; cells_are = sym (take-append-drop at cells); table = g ∙ h }

    -- one more entry
    pub moves-more : (entries : List (Entry S)) (moves : List (ℕ × ℕ)) (i : ℕ) (move : ℕ × ℕ) (now new : Table S) → slice_get moves i ≡ Some move
        → now ≡ with_cells R mode fixed old (moved_cells entries (take i moves))
        → new ≡ with_cells R mode fixed now (cells_for move.1 (entry_at entries move.0))
        → new ≡ with_cells R mode fixed old (moved_cells entries (take (i + 1) moves))
    moves-more entries moves i move now new e h g =
        g
        ∙ ap (λ t. with_cells R mode fixed t (cells_for move.1 (entry_at entries move.0))) h
        ∙ sym (after-append (moved_cells entries (take i moves)) (cells_for move.1 (entry_at entries move.0)))
        ∙ ap (with_cells R mode fixed old) (sym (ap (moved_cells entries) (take_more moves i move e) ∙ moved-more entries (take i moves) move))

    -- after some cells a first part of further ones came, and still further ones are left
    pub part-between : (before cells later : List (Cell S)) (now new : Table S) → now ≡ with_cells R mode fixed old before → IsPartOf R mode fixed now cells new
        → IsPartOf R mode fixed old (before ++ (cells ++ later)) new
    part-between before cells later now new h p =
        record {
          done = before ++ p.done;
          rest = p.rest ++ later;
          cells_are = ap (λ z. before ++ (z ++ later)) p.cells_are ∙ ap (λ z. before ++ z) (append_assoc p.done p.rest later) ∙ sym (append_assoc before p.done (p.rest ++ later));
          table = p.table ∙ ap (λ t. with_cells R mode fixed t p.done) h ∙ sym (after-append before p.done);
        }

    pub moves-part : (entries : List (Entry S)) (moves : List (ℕ × ℕ)) (i : ℕ) (move : ℕ × ℕ) (now new : Table S) → slice_get moves i ≡ Some move
        → now ≡ with_cells R mode fixed old (moved_cells entries (take i moves))
        → IsPartOf R mode fixed now (cells_for move.1 (entry_at entries move.0)) new
        → IsPartOf R mode fixed old (moved_cells entries moves) new
    moves-part entries moves i move now new e h p =
        let q = part-between (moved_cells entries (take i moves)) (cells_for move.1 (entry_at entries move.0)) (moved_cells entries (drop (suc i) moves)) now new h p in
        record { done = q.done; rest = q.rest; cells_are = moved-around entries moves i move e ∙ q.cells_are; table = q.table }

    pub moves-all : (entries : List (Entry S)) (moves : List (ℕ × ℕ)) (i : ℕ) (now : Table S) → length moves ≤ i
        → now ≡ with_cells R mode fixed old (moved_cells entries (take i moves)) → now ≡ with_cells R mode fixed old (moved_cells entries moves)
    moves-all entries moves i now l h = h ∙ ap (λ z. with_cells R mode fixed old (moved_cells entries z)) (take_whole moves i l)

    -- first these cells, then those
    pub part-first : (xs ys : List (Cell S)) (new : Table S) → IsPartOf R mode fixed old xs new → IsPartOf R mode fixed old (xs ++ ys) new
    part-first xs ys new p =
        record { done = p.done; rest = p.rest ++ ys; cells_are = ap (λ z. z ++ ys) p.cells_are ∙ append_assoc p.done p.rest ys; table = p.table }

    pub part-second : (xs ys : List (Cell S)) (now new : Table S) → now ≡ with_cells R mode fixed old xs → IsPartOf R mode fixed now ys new → IsPartOf R mode fixed old (xs ++ ys) new
    part-second xs ys now new h p =
        record { done = xs ++ p.done; rest = p.rest; cells_are = ap (λ z. xs ++ z) p.cells_are ∙ sym (append_assoc xs p.done p.rest); table = p.table ∙ ap (λ t. with_cells R mode fixed t p.done) h ∙ sym (after-append xs p.done) }

    pub moved-both : (entries : List (Entry S)) (ms ns : List (ℕ × ℕ)) → moved_cells entries (ms ++ ns) ≡ moved_cells entries ms ++ moved_cells entries ns
    moved-both entries ms ns = flat_map-append (λ m. cells_for m.1 (entry_at entries m.0)) ms ns

    pub cells-both : (entries : List (Entry S)) (ms ns : List (ℕ × ℕ)) (now new : Table S)
        → now ≡ with_cells R mode fixed old (moved_cells entries ms) → new ≡ with_cells R mode fixed now (moved_cells entries ns)
        → new ≡ with_cells R mode fixed old (moved_cells entries (ms ++ ns))
    cells-both entries ms ns now new h g =
        g
        ∙ ap (λ t. with_cells R mode fixed t (moved_cells entries ns)) h
        ∙ sym (after-append (moved_cells entries ms) (moved_cells entries ns))
        ∙ ap (with_cells R mode fixed old) (sym (moved-both entries ms ns))

    pub moves-first : (entries : List (Entry S)) (ms ns : List (ℕ × ℕ)) (new : Table S)
        → IsPartOf R mode fixed old (moved_cells entries ms) new → IsPartOf R mode fixed old (moved_cells entries (ms ++ ns)) new
    moves-first entries ms ns new p =
        let q = part-first (moved_cells entries ms) (moved_cells entries ns) new p in
        record { done = q.done; rest = q.rest; cells_are = moved-both entries ms ns ∙ q.cells_are; table = q.table }

    pub moves-second : (entries : List (Entry S)) (ms ns : List (ℕ × ℕ)) (now new : Table S) → now ≡ with_cells R mode fixed old (moved_cells entries ms)
        → IsPartOf R mode fixed now (moved_cells entries ns) new → IsPartOf R mode fixed old (moved_cells entries (ms ++ ns)) new
    moves-second entries ms ns now new h p =
        let q = part-second (moved_cells entries ms) (moved_cells entries ns) now new h p in
        record { done = q.done; rest = q.rest; cells_are = moved-both entries ms ns ∙ q.cells_are; table = q.table }

    pub part-of-same : (xs ys : List (Cell S)) (new : Table S) → xs ≡ ys → IsPartOf R mode fixed old ys new → IsPartOf R mode fixed old xs new
    part-of-same xs ys new e p = record { done = p.done; rest = p.rest; cells_are = e ∙ p.cells_are; table = p.table }
