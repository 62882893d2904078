-- What holds of the fields of a matrix under construction.
use Rattle.std.proofs.Common.{◌≡◌, ℕ, zero, suc, ◌+◌, ◌<◌, ◌≤◌, true, false, cond, List, [], ◌∷◌, ◌++◌, length, map, get_or, set, Some, Result, Ok, Err, OnErr, rules, refl, sym, ap, subst, ◌∙◌, arith, length-set, length-append, inl, inr, get_or-set_same, get_or-set_other}
use Rattle.std.specs.Prelude.{is_some}
use Rattle.std.specs.List.{insert}
use Rattle.std.proofs.lemmas.Bool.{cases_eq, eq-eqb}
use Rattle.std.proofs.lemmas.List.{get_or-map, length-map, map-set, set-get_or}
use Rattle.smallvec.specs.SmallVec.{SmallVec}
use Rattle.scalar_laws.specs.Semiring.{Semiring}
use Rattle.combine_modes.specs.declared.mode.Mode.{Mode}
use Rattle.combine_modes.specs.declared.mode.Mode.TheVariants.{Insert, Replace, Add, AbsMax, Zero}
use Rattle.combine_modes.specs.Modes.{after_one}
use Rattle.crs_graph.specs.Ascending.{IsAscending}
use Rattle.crs_matrix.specs.declared.places.Place.{Place}
use Rattle.crs_matrix.specs.Rows.{columns_in, IsRowCells}
use Rattle.crs_matrix.specs.Stored.{cells_at, columns_at, places_of, stored, AreWithin, ArePlaced, IsGap, IsStored}
use Rattle.crs_matrix.proofs.RowPlaces.{ArePlaced-within, ascending-insert, owner_with, placed-insert, placed-more}
use Rattle.crs_matrix.proofs.Numbers.{cells_at-push, columns-cells_at, kept-row}

-- a place that is there stays
pub after_one-there : {S : Type 0} (R : Semiring S) (mode : Mode) (old value : S) → is_some (after_one R mode false (Some old) (Some value)) ≡ true
after_one-there R Insert old value = refl
after_one-there R Replace old value = refl
after_one-there R Add old value = refl
after_one-there R AbsMax old value = refl
after_one-there R Zero old value = refl

-- ---- no places

pub IsStored-empty : (rows : List ℕ) → IsStored rows (map (λ _. []) rows) 0
IsStored-empty rows = record { each = length-map rows (λ _. []); ascend = none rows; owner = λ _. (0, 0); placed = nothing rows }
  where
    none : (xs : List ℕ) (l : ℕ) → IsAscending (columns_at (get_or (map (λ _. []) xs) l []))
    none [] l = tt
    none (x ∷ xs) zero = tt
    none (x ∷ xs) (suc l) = none xs l

    nothing : (xs : List ℕ) (l : ℕ) → ArePlaced (λ _. (0, 0)) 0 l (get_or (map (λ _. []) xs) l [])
    nothing xs l = at xs l
      where
        at : (ys : List ℕ) (k : ℕ) → ArePlaced (λ _. (0, 0)) 0 l (get_or (map (λ _. []) ys) k [])
        at [] k = tt
        at (y ∷ ys) zero = tt
        at (y ∷ ys) (suc k) = at ys k

pub cells-empty : {S : Type 0} (vs : List S) (rows : List ℕ) → map (cells_at vs) (map (λ _. []) rows) ≡ map (λ _. []) rows
cells-empty vs [] = refl
cells-empty vs (r ∷ rs) = ap (λ cs. [] ∷ cs) (cells-empty vs rs)

-- ---- rows in their vectors

pub row-at : (vs : List (SmallVec Place)) (l : ℕ) (v : SmallVec Place) → l < length vs → get_or (places_of vs) l [] ≡ (get_or vs l v).items
row-at vs l v within = get_or-map (λ v. v.items) vs l v [] within

pub row-set : (vs : List (SmallVec Place)) (l : ℕ) (w : SmallVec Place) → places_of (set vs l w) ≡ set (places_of vs) l w.items
row-set vs l w = map-set (λ v. v.items) vs l w

pub row-same : (vs : List (SmallVec Place)) (l : ℕ) (v w : SmallVec Place) → l < length vs → w.items ≡ (get_or vs l v).items → places_of (set vs l w) ≡ places_of vs
row-same vs l v w within same = row-set vs l w ∙ ap (set (places_of vs) l) (same ∙ sym (row-at vs l v within)) ∙ set-get_or (places_of vs) l []

pub row-within : (rows : List ℕ) (vs : List (SmallVec Place)) (count l : ℕ) → IsStored rows (places_of vs) count → l < length rows → l < length vs
row-within rows vs count l is low = let kept = length-map vs (λ v. v.items) in let many = is.each in omega arith

-- ---- the model

pub rows-are : {S : Type 0} (rows : List ℕ) (places : List (List Place)) (values : List S) → IsStored rows places (length values) → IsRowCells (stored rows places values)
rows-are rows places values is = record {
  each = length-map places (cells_at values) ∙ is.each;
  ascend = λ l. subst IsAscending
      (sym (ap columns_in (kept-row places values l)
      ∙ columns-cells_at values (get_or places l []) (ArePlaced-within is.owner (length values) l (get_or places l []) (is.placed l))))
      (is.ascend l);
}

pub row-values : (rows : List ℕ) (places : List (List Place)) (count : ℕ) → IsStored rows places count → (l : ℕ) → AreWithin count (get_or places l [])
row-values rows places count is l = ArePlaced-within is.owner count l (get_or places l []) (is.placed l)

-- ---- a number more

pub stored-push : {S : Type 0} (rows : List ℕ) (places : List (List Place)) (values : List S) (v : S) → IsStored rows places (length values)
    → map (cells_at (values ++ v ∷ [])) places ≡ map (cells_at values) places
stored-push rows places values v is = go places (λ l. row-values rows places (length values) is l)
  where
    go : (ps : List (List Place)) → ((l : ℕ) → AreWithin (length values) (get_or ps l [])) → map (cells_at (values ++ v ∷ [])) ps ≡ map (cells_at values) ps
    go [] h = refl
    go (p ∷ ps) h = λ t. cells_at-push values v p (h 0) t ∷ go ps (λ l. h (suc l)) t

-- the new place of row `lid`, at index i, has the number `count`
pub IsStored-make : (rows : List ℕ) (places : List (List Place)) (count lid i : ℕ) (e : Place) → IsStored rows places count → lid < length places
    → i ≤ length (get_or places lid []) → e.at ≡ count → IsGap (get_or places lid []) i e.col
    → IsStored rows (set places lid (insert (get_or places lid []) i e)) (count + 1)
IsStored-make rows places count lid i e is low le next gap = record {
  each = length-set places lid (insert (get_or places lid []) i e) ∙ is.each;
  ascend = λ l. go (λ ps. IsAscending (columns_at ps)) l (is.ascend l) (λ same. ascending-insert (get_or places lid []) i e (is.ascend lid) le gap);
  owner = owner_with is.owner count (lid, e.col);
  placed = λ l. go (ArePlaced (owner_with is.owner count (lid, e.col)) (count + 1) l) l
      (placed-more is.owner count l (lid, e.col) (get_or places l []) (is.placed l))
      (λ same. let P : ℕ → Type 0 = λ k. ArePlaced (owner_with is.owner count (lid, e.col)) (count + 1) k (insert (get_or places lid []) i e) in
      subst P same
      (placed-insert (owner_with is.owner count (lid, e.col)) (count + 1) lid (get_or places lid []) i e le
      (placed-more is.owner count lid (lid, e.col) (get_or places lid []) (is.placed lid)) (omega arith)
      (ap (λ b. cond b (lid, e.col) (is.owner e.at)) (eq-eqb count e.at (sym next)))));
}
  where
    go : (P : List Place → Type 0) (l : ℕ) → P (get_or places l []) → (lid ≡ l → P (insert (get_or places lid []) i e)) → P (get_or (set places lid (insert (get_or places lid []) i e)) l [])
    go P l old new = elim (cases_eq lid l) [
      | inl same ↦ subst P (sym (ap (λ k. get_or (set places lid (insert (get_or places lid []) i e)) k []) (sym same) ∙ get_or-set_same places lid (insert (get_or places lid []) i e) [] low)) (new same)
      | inr other ↦ subst P (sym (get_or-set_other places lid l (insert (get_or places lid []) i e) [] (λ d. other (sym d)))) old
    ]

-- a row that was read from its vector
pub row-is : (rows : List ℕ) (vs : List (SmallVec Place)) (count lid : ℕ) → IsStored rows (places_of vs) count → lid < length rows
    → (v : SmallVec Place) (ps : List Place) → v ≡ get_or vs lid v → ps ≡ v.items → get_or (places_of vs) lid [] ≡ ps
row-is rows vs count lid is low v ps read_is items_are = row-at vs lid v (row-within rows vs count lid is low) ∙ ap (λ w. w.items) (sym read_is) ∙ sym items_are

pub row-low : (rows : List ℕ) (vs : List (SmallVec Place)) (count lid : ℕ) → IsStored rows (places_of vs) count → lid < length rows → lid < length (places_of vs)
row-low rows vs count lid is low = let many = is.each in omega arith

-- a row whose vector got a new place with the next number
module _ {S : Type 0} (rows : List ℕ) (vs : List (SmallVec Place)) (values : List S) (lid i col : ℕ) where
  pub made-places : IsStored rows (places_of vs) (length values) → lid < length rows → (old new : SmallVec Place)
      → old ≡ get_or vs lid old → new.items ≡ insert old.items i (record { col = col; at = length values })
      → places_of (set vs lid new) ≡ set (places_of vs) lid (insert (get_or (places_of vs) lid []) i (record { col = col; at = length values }))
  made-places is low old new read_is items_are =
      row-set vs lid new
      ∙ ap (set (places_of vs) lid) (items_are ∙ ap (λ ps. insert ps i (record { col = col; at = length values })) (sym (row-is rows vs (length values) lid is low old old.items read_is refl)))

pub made-stored : {S : Type 0} (rows : List ℕ) (vs : List (SmallVec Place)) (values : List S) (lid i col : ℕ) (number : S) → IsStored rows (places_of vs) (length values) → lid < length rows
    → (old new : SmallVec Place) (longer : List S) → i ≤ length (get_or (places_of vs) lid []) → IsGap (get_or (places_of vs) lid []) i col
    → old ≡ get_or vs lid old → new.items ≡ insert old.items i (record { col = col; at = length values }) → longer ≡ values ++ number ∷ []
    → IsStored rows (places_of (set vs lid new)) (length longer)
made-stored rows vs values lid i col number is low old new longer le gap read_is items_are longer_is =
    subst (λ ps. IsStored rows ps (length longer)) (sym (made-places rows vs values lid i col is low old new read_is items_are))
    (subst (IsStored rows (set (places_of vs) lid (insert (get_or (places_of vs) lid []) i (record { col = col; at = length values })))) count
    (IsStored-make rows (places_of vs) (length values) lid i (record { col = col; at = length values }) is (row-low rows vs (length values) lid is low) le refl gap))
  where
    count : length values + 1 ≡ length longer
    count = omega (arith, length-append values (number ∷ []), ap length longer_is)

pub on_err : {T E : Type 0} (r : Result T E) (P : Type 0) → P → OnErr r P
on_err (Ok x) P p = search rules
on_err (Err e) P p = p
