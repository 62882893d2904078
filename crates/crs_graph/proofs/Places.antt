-- A fill is a set of places.
use Rattle.std.proofs.Common.{◌≡◌, ℕ, ◌<◌, true, false, ◌||◌, ◌&&◌, ◌==◌, List, [], length, get_or, slice_set, Option, Some, None, is_some, inl, inr, refl, sym, ap, ◌∙◌, arith, get_or-set_same, get_or-set_other}
use Rattle.std.proofs.lemmas.Bool.{cases_eq, eq-eqb, ne_eqb}
use Rattle.std.proofs.lemmas.Option.{slice_get_within}
use Rattle.map_core.specs.Layouts.{local_index, stands}
use Rattle.map_core.proofs.Places.{global_index-from}
use Rattle.crs_graph.specs.Ascending.{with_index}
use Rattle.crs_graph.specs.Fills.{has_local, has_place, row_columns, with_local, with_place, Fill, IsFill}
use Rattle.crs_graph.proofs.Ascending.{stands-with_index}

-- indices with one local index are one index
same_local : (xs : List ℕ) (a b l : ℕ) → local_index xs a ≡ Some l → local_index xs b ≡ Some l → a ≡ b
same_local xs a b l e f =
    let one : Some a ≡ Some b = sym (global_index-from xs a l e) ∙ global_index-from xs b l f in
    cc

-- the place of the row l and the column c, after one of the row k is made
local_place : (f : Fill) (k l col c : ℕ) → k < length f.columns → has_local (with_local f (Some k) col) (Some l) c ≡ (((k == l) && (col == c)) || has_local f (Some l) c)
local_place f k l col c within = elim (cases_eq k l) [
  | inl e ↦
      ap (λ j. stands c (get_or (slice_set f.columns k (with_index (row_columns f k) col)) j [])) (sym e)
      ∙ ap (stands c) (get_or-set_same f.columns k (with_index (row_columns f k) col) [] within)
      ∙ stands-with_index (row_columns f k) col c
      ∙ ap (λ j. (col == c) || stands c (row_columns f j)) e
      ∙ ap (λ b. (b && (col == c)) || stands c (row_columns f l)) (sym (eq-eqb k l e))
  | inr other ↦
      ap (stands c) (get_or-set_other f.columns k l (with_index (row_columns f k) col) [] (λ d. other (sym d)))
      ∙ ap (λ b. (b && (col == c)) || stands c (row_columns f l)) (sym (ne_eqb k l other))
]

-- whether two rows have one local index
row_test : (xs : List ℕ) (row r k l : ℕ) → local_index xs row ≡ Some k → local_index xs r ≡ Some l → (k == l) ≡ (row == r)
row_test xs row r k l e f = elim (cases_eq row r) [
  | inl same ↦
      let one : Some k ≡ Some l = sym e ∙ ap (local_index xs) same ∙ f in
      let here : k ≡ l = cc in
      eq-eqb k l here ∙ sym (eq-eqb row r same)
  | inr other ↦ ne_eqb k l (λ here. other (same_local xs row r l (e ∙ ap Some here) f)) ∙ sym (ne_eqb row r other)
]

pub has_place-with_place : (f : Fill) (row col r c : ℕ) → IsFill f → is_some (local_index f.rows row) ≡ true
    → has_place (with_place f row col) r c ≡ (((row == r) && (col == c)) || has_place f r c)
has_place-with_place f row col r c kept known = go (local_index f.rows row) (local_index f.rows r) refl refl known
  where
    within : (k : ℕ) → local_index f.rows row ≡ Some k → k < length f.columns
    within k e =
        let low = slice_get_within f.rows k row (global_index-from f.rows row k e) in
        let many = kept.rows in
        omega arith

    apart : (k : ℕ) → local_index f.rows row ≡ Some k → local_index f.rows r ≡ None → (row == r) ≡ false
    apart k e g = ne_eqb row r (λ same. let clash : Some k ≡ None = sym e ∙ ap (local_index f.rows) same ∙ g in absurd (cc))

    go : (o p : Option ℕ) → local_index f.rows row ≡ o → local_index f.rows r ≡ p → is_some o ≡ true
        → has_place (with_place f row col) r c ≡ (((row == r) && (col == c)) || has_place f r c)
    go None p e g h = absurd (cc)
    go (Some k) None e g h =
        ap (λ o. has_place (with_local f o col) r c) e
        ∙ ap (λ o. has_local (with_local f (Some k) col) o c) g
        ∙ (λ t. (sym (apart k e g) t && (col == c)) || has_local f (sym g t) c)
    go (Some k) (Some l) e g h =
        ap (λ o. has_place (with_local f o col) r c) e
        ∙ ap (λ o. has_local (with_local f (Some k) col) o c) g
        ∙ local_place f k l col c (within k e)
        ∙ (λ t. (row_test f.rows row r k l e g t && (col == c)) || has_local f (sym g t) c)
