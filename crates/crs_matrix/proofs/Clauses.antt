-- What the calls of a matrix under construction say of its model, from what they did to its fields.
use Rattle.std.proofs.Common.{◌≡◌, ℕ, zero, suc, ◌+◌, ◌<◌, ◌≤◌, Bool, true, false, cond, eqb, ◌&&◌, List, [], ◌∷◌, ◌++◌, length, map, get_or, set, Option, Some, None, refl, sym, ap, subst, ◌∙◌, arith, length-append}
use Rattle.std.specs.Prelude.{slice_get}
use Rattle.std.specs.List.{insert}
use Rattle.std.specs.List.Sorted.{IsStrictlyIncreasing}
use Rattle.std.proofs.lemmas.Bool.{and_parts, eqb-true, eq-eqb}
use Rattle.std.proofs.lemmas.Option.{slice_get_read}
use Rattle.scalar_laws.specs.Semiring.{Semiring, IsSemiring}
use Rattle.tables.specs.Sums.{both_or_one}
use Rattle.tables.specs.Tables.{with_place}
use Rattle.map_core.specs.Layouts.{local_index}
use Rattle.map_core.proofs.Places.{global_index-from}
use Rattle.combine_modes.specs.declared.mode.Mode.{Mode}
use Rattle.combine_modes.specs.declared.mode.Mode.TheVariants.{Add}
use Rattle.combine_modes.specs.Modes.{after_one}
use Rattle.distributor.specs.Entries.{entry_at, columns_of, with_cell}
use Rattle.crs_graph.specs.Ascending.{IsAscending}
use Rattle.crs_graph.proofs.Ascending.{above_at, ascending_tail}
use Rattle.crs_matrix.specs.declared.places.Place.{Place}
use Rattle.crs_matrix.specs.Rows.{columns_in, entries_of, local_table, number_in, row_entries, row_table, RowCells}
use Rattle.crs_matrix.specs.Stored.{cells_at, columns_at, no_place, stored, AreWithin, IsGap, IsStored}
use Rattle.crs_matrix.proofs.RowPlaces.{gap-none, place_at, within-at}
use Rattle.crs_matrix.proofs.Numbers.{cell-at, changed-number, columns-cells_at, kept_number, kept-number, kept-row, length-cells_at, made-number, read}
use Rattle.std.proofs.lemmas.List.{length-map}
use Rattle.crs_matrix.proofs.Kept.{row-values, IsStored-make}

module _ {S : Type 0} (R : Semiring S) where
  -- ---- a number is combined with a place

  module _ (rows : List ℕ) (places : List (List Place)) (values : List S) (is : IsStored rows places (length values)) where
    pub change-clause : (now : RowCells S) (lid col at : ℕ) (mode : Mode) (old new value : S) → stored rows places values ≡ now
        → place_at (get_or places lid []) col ≡ Some at → at < length values → old ≡ get_or values at old → Some new ≡ after_one R mode false (Some old) (Some value)
        → local_table (stored rows places (set values at new)) ≡ with_cell R mode false (local_table now) lid col value
    change-clause now lid col at mode old new value e here low read_is sum =
        subst (λ n. local_table (stored rows places (set values at new)) ≡ with_cell R mode false (local_table n) lid col value) e
        (λ t l j. each l j t)
      where
        before : kept_number places values lid col ≡ Some old
        before = kept-number places values lid col (row-values rows places (length values) is lid)
            ∙ ap (read values) here ∙ slice_get_read values (length values) at old refl low read_is

        each : (l j : ℕ) → kept_number places (set values at new) l j
            ≡ cond (eqb lid l && eqb col j) (after_one R mode false (kept_number places values lid col) (Some value)) (kept_number places values l j)
        each l j = changed-number places values is.owner is.placed lid col at new here l j
            ∙ ap (λ o. cond (eqb lid l && eqb col j) o (kept_number places values l j)) (sum ∙ ap (λ o. after_one R mode false o (Some value)) (sym before))

    absent : (lid i col : ℕ) → IsGap (get_or places lid []) i col → kept_number places values lid col ≡ None
    absent lid i col gap = kept-number places values lid col (row-values rows places (length values) is lid) ∙ ap (read values) (gap-none (get_or places lid []) i col gap)

    pub none-clause : (now : RowCells S) (lid i col : ℕ) (mode : Mode) (value : S) → stored rows places values ≡ now
        → IsGap (get_or places lid []) i col → None ≡ after_one R mode false None (Some value)
        → local_table now ≡ with_cell R mode false (local_table now) lid col value
    none-clause now lid i col mode value e gap sum =
        subst (λ n. local_table n ≡ with_cell R mode false (local_table n) lid col value) e
        (λ t l j. (go l j (eqb lid l && eqb col j) refl ∙ ap (λ o. cond (eqb lid l && eqb col j) o (kept_number places values l j)) (sum ∙ ap (λ o. after_one R mode false o (Some value)) (sym (absent lid i col gap)))) t)
      where
        go : (l j : ℕ) (b : Bool) → (eqb lid l && eqb col j) ≡ b → kept_number places values l j ≡ cond b None (kept_number places values l j)
        go l j true t =
            let parts = and_parts (eqb lid l) (eqb col j) t in
            let row : lid ≡ l = eqb-true lid l parts.0 in
            let column : col ≡ j = eqb-true col j parts.1 in
            sym (λ k. kept_number places values (row k) (column k)) ∙ absent lid i col gap
        go l j false t = refl

    pub make-clause : (now : RowCells S) (lid i col : ℕ) (mode : Mode) (number value : S) (made : List (List Place)) (longer : List S) → stored rows places values ≡ now
        → lid < length places → i ≤ length (get_or places lid []) → IsGap (get_or places lid []) i col
        → Some number ≡ after_one R mode false None (Some value)
        → made ≡ set places lid (insert (get_or places lid []) i (record { col = col; at = length values })) → longer ≡ values ++ number ∷ []
        → local_table (stored rows made longer) ≡ with_cell R mode false (local_table now) lid col value
    make-clause now lid i col mode number value made longer e low le gap sum made_is longer_is =
        (λ t. local_table (stored rows (made_is t) (longer_is t)))
        ∙ subst (λ n. local_table (stored rows new_places new_values) ≡ with_cell R mode false (local_table n) lid col value) e (λ t l j. each l j t)
      where
        place : Place
        place = record { col = col; at = length values }

        new_places : List (List Place)
        new_places = set places lid (insert (get_or places lid []) i place)

        new_values : List S
        new_values = values ++ number ∷ []

        one_more : length values + 1 ≡ length (values ++ number ∷ [])
        one_more = omega (arith, length-append values (number ∷ []))

        kept : IsStored rows new_places (length values + 1)
        kept = IsStored-make rows places (length values) lid i place is low le refl gap

        each : (l j : ℕ) → kept_number new_places new_values l j
            ≡ cond (eqb lid l && eqb col j) (after_one R mode false (kept_number places values lid col) (Some value)) (kept_number places values l j)
        each l j =
            made-number places values is.owner is.placed lid i col place number low le refl refl (λ k lt. gap.below k lt) (length values + 1) one_more (omega arith)
            (λ k. row-values rows new_places (length values + 1) kept k) l j
            ∙ ap (λ o. cond (eqb lid l && eqb col j) o (kept_number places values l j)) (sum ∙ ap (λ o. after_one R mode false o (Some value)) (sym (absent lid i col gap)))

-- ---- by global indices

-- a table by local indices with one place changed is the table by global indices with this place changed
module _ {S : Type 0} (R : Semiring S) (L : IsSemiring R) where
  added : (old : Option S) (value : S) → after_one R Add false old (Some value) ≡ both_or_one R.plus old (Some value)
  added old value = ap (λ v. both_or_one R.plus old (Some v)) (L.plus_comm value R.nought ∙ L.plus_nought value)

  same_local : (xs : List ℕ) (a b l : ℕ) → local_index xs a ≡ Some l → local_index xs b ≡ Some l → a ≡ b
  same_local xs a b l e f =
      let one : Some a ≡ Some b = sym (global_index-from xs a l e) ∙ global_index-from xs b l f in
      cc

  pub insert-clause : (old new : RowCells S) (row lid col : ℕ) (value : S) → local_index old.rows row ≡ Some lid → new.rows ≡ old.rows
      → local_table new ≡ with_cell R Add false (local_table old) lid col value
      → row_table new ≡ with_place (row_table old) row col (both_or_one R.plus (row_table old row col) (Some value))
  insert-clause old new row lid col value here same step = λ t i j. each i j t
    where
      before : row_table old row col ≡ local_table old lid col
      before = ap (λ o. number_in old o col) here

      go : (i j : ℕ) (o : Option ℕ) → local_index old.rows i ≡ o → number_in new o j ≡ cond (eqb row i && eqb col j) (both_or_one R.plus (row_table old row col) (Some value)) (number_in old o j)
      go i j None e = apart (eqb row i) refl
        where
          apart : (b : Bool) → eqb row i ≡ b → None ≡ cond (b && eqb col j) (both_or_one R.plus (row_table old row col) (Some value)) None
          apart true t =
              let one : row ≡ i = eqb-true row i t in
              let clash : Some lid ≡ None = sym here ∙ ap (local_index old.rows) one ∙ e in
              absurd (cc)
          apart false t = refl
      go i j (Some l) e =
          (λ t. step t l j)
          ∙ ap (λ o. cond (eqb lid l && eqb col j) o (local_table old l j)) (added (local_table old lid col) value ∙ ap (λ o. both_or_one R.plus o (Some value)) (sym before))
          ∙ ap (λ b. cond (b && eqb col j) (both_or_one R.plus (row_table old row col) (Some value)) (local_table old l j)) (rows_alike (eqb lid l) (eqb row i) refl refl)
        where
          rows_alike : (a b : Bool) → eqb lid l ≡ a → eqb row i ≡ b → a ≡ b
          rows_alike true true p q = refl
          rows_alike false false p q = refl
          rows_alike true false p q =
              let one : lid ≡ l = eqb-true lid l p in
              let two : row ≡ i = same_local old.rows row i l (here ∙ ap Some one) e in
              sym (sym q ∙ eq-eqb row i two)
          rows_alike false true p q =
              let one : row ≡ i = eqb-true row i q in
              let two : Some lid ≡ Some l = sym here ∙ ap (local_index old.rows) one ∙ e in
              let three : lid ≡ l = cc in
              sym p ∙ eq-eqb lid l three

      each : (i j : ℕ) → row_table new i j ≡ cond (eqb row i && eqb col j) (both_or_one R.plus (row_table old row col) (Some value)) (row_table old i j)
      each i j = ap (λ xs. number_in new (local_index xs i) j) same ∙ go i j (local_index old.rows i) refl

-- ---- entries

module _ {S : Type 0} where
  pub entry-of : (rows : List ℕ) (cells : List (List (ℕ × S))) (l : ℕ) → length cells ≡ length rows → l < length rows
      → entry_at (entries_of rows cells) l ≡ record { gid = get_or rows l 0; cells = get_or cells l [] }
  entry-of [] cells l e low = absurd (omega arith)
  entry-of (g ∷ gs) [] l e low = absurd (omega arith)
  entry-of (g ∷ gs) (c ∷ cs) zero e low = refl
  entry-of (g ∷ gs) (c ∷ cs) (suc l) e low = entry-of gs cs l (omega arith) (omega arith)

  pub length-entries : (rows : List ℕ) (cells : List (List (ℕ × S))) → length (entries_of rows cells) ≤ length rows
  length-entries [] cells = omega arith
  length-entries (g ∷ gs) [] = omega arith
  length-entries (g ∷ gs) (c ∷ cs) = omega (arith, length-entries gs cs)

  pub known-row : (a : RowCells S) (lid : ℕ) → lid < length (row_entries a) → lid < length a.rows
  known-row a lid known = omega (arith, length-entries a.rows a.cells)

pub increasing : (xs : List ℕ) → IsAscending xs → (k m : ℕ) → m ≡ suc k → m < length xs → get_or xs k 0 < get_or xs m 0
increasing [] h k m e l = absurd (omega arith)
increasing (x ∷ xs) h k zero e l = absurd (omega arith)
increasing (x ∷ xs) h zero (suc m) e l = above_at x xs h m (omega arith)
increasing (x ∷ xs) h (suc k) (suc m) e l = increasing xs (ascending_tail x xs h) k m (omega arith) (omega arith)

pub IsStrictlyIncreasing-ascending : (xs : List ℕ) → IsAscending xs → IsStrictlyIncreasing xs
IsStrictlyIncreasing-ascending xs h = λ k l. increasing xs h k (k + 1) (omega arith) l

module _ {S : Type 0} (rows : List ℕ) (places : List (List Place)) (values : List S) (is : IsStored rows places (length values)) (now : RowCells S) (e : stored rows places values ≡ now) where
  pub stored-known : (lid : ℕ) → lid < length (row_entries now) → lid < length rows
  stored-known lid known = let same : length rows ≡ length now.rows = ap (λ n. length n.rows) e in omega (arith, known-row now lid known)

  pub stored-entry : (lid : ℕ) → lid < length (row_entries now)
      → entry_at (row_entries now) lid ≡ record { gid = get_or rows lid 0; cells = cells_at values (get_or places lid []) }
  stored-entry lid known =
      let P : RowCells S → Type 0 = λ n. entry_at (row_entries n) lid ≡ record { gid = get_or rows lid 0; cells = cells_at values (get_or places lid []) } in
      subst P e
      (entry-of rows (map (cells_at values) places) lid (length-map places (cells_at values) ∙ is.each) (stored-known lid known)
      ∙ ap (λ cs. record { gid = get_or rows lid 0; cells = cs }) (kept-row places values lid))

  pub count-clause : (lid : ℕ) → lid < length (row_entries now) → length (entry_at (row_entries now) lid).cells ≡ length (get_or places lid [])
  count-clause lid known = ap (λ n. length n.cells) (stored-entry lid known) ∙ length-cells_at values (get_or places lid []) (row-values rows places (length values) is lid)

  pub ascending-clause : (lid : ℕ) → lid < length (row_entries now) → IsStrictlyIncreasing (columns_of (entry_at (row_entries now) lid))
  ascending-clause lid known =
      let P : List ℕ → Type 0 = IsStrictlyIncreasing in
      subst P (sym (ap columns_of (stored-entry lid known) ∙ columns-cells_at values (get_or places lid []) (row-values rows places (length values) is lid)))
      (IsStrictlyIncreasing-ascending (columns_at (get_or places lid [])) (is.ascend lid))

  pub cell-clause : (lid at : ℕ) (ps : List Place) (v : S) → lid < length (row_entries now) → get_or places lid [] ≡ ps → at < length ps → v ≡ get_or values (get_or ps at no_place).at v
      → slice_get (entry_at (row_entries now) lid).cells at ≡ Some ((get_or ps at no_place).col, v)
  cell-clause lid at ps v known row low read_is =
      let named = subst (AreWithin (length values)) row (row-values rows places (length values) is lid) in
      ap (λ n. slice_get n.cells at) (stored-entry lid known)
      ∙ ap (λ qs. slice_get (cells_at values qs) at) row
      ∙ cell-at values ps named at v low (slice_get_read values (length values) (get_or ps at no_place).at v refl (within-at (length values) ps named at low) read_is)

-- the columns of all rows
pub columns-kept : {S : Type 0} (values : List S) (places : List (List Place)) → ((l : ℕ) → AreWithin (length values) (get_or places l [])) → map columns_in (map (cells_at values) places) ≡ map columns_at places
columns-kept values [] h = refl
columns-kept values (ps ∷ pss) h = λ t. columns-cells_at values ps (h 0) t ∷ columns-kept values pss (λ l. h (suc l)) t
