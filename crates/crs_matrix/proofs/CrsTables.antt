-- The numbers of a matrix in compressed rows.
use Rattle.std.proofs.Common.{◌≡◌, ℕ, zero, suc, ◌<◌, ◌&&◌, ◌==◌, false, cond, List, [], ◌∷◌, length, get_or, map, slice_get, slice_set, Option, Some, None, inl, inr, refl, sym, ap, ◌∙◌, arith, get_or-set_same, get_or-set_other}
use Rattle.std.specs.Option.{option_map}
use Rattle.std.proofs.lemmas.Bool.{cases_eq, eq-eqb, ne_eqb}
use Rattle.std.proofs.lemmas.Option.{slice_get_within}
use Rattle.scalar_laws.specs.Semiring.{Semiring}
use Rattle.tables.specs.Tables.{with_place}
use Rattle.map_core.specs.Layouts.{local_index}
use Rattle.map_core.proofs.Places.{global_index-from, local_index-absent}
use Rattle.crs_graph.specs.Graphs.{graph_has, graph_row, has_local_place, Graph, IsAt, IsGraph}
use Rattle.crs_graph.specs.Packed.{joined}
use Rattle.crs_matrix.specs.Matrices.{crs_local, crs_number, crs_table, number_at_place, number_rows, numbers, scaled, Crs, IsCrs}
use Rattle.crs_matrix.proofs.NumberRows.{length-number_rows, number_rows-count, number_rows-get, number_rows-map, number_rows-set, slice_get-set_other, slice_get-set_same}

-- the matrix of a structure and a list of all numbers
abbrev pub crs_of : {S : Type 0} → Graph → List S → Crs S
crs_of g values = record { graph = g; values = number_rows g.columns values }

pub crs_of-kept : {S : Type 0} (g : Graph) (values : List S) → IsGraph g → length values ≡ length (joined g.columns) → IsCrs (crs_of g values)
crs_of-kept g values kept all = record {
  graph = kept;
  each = length-number_rows g.columns values;
  as_many = λ l. number_rows-count g.columns values l all;
}

same_index : (xs : List ℕ) (a b l : ℕ) → local_index xs a ≡ Some l → local_index xs b ≡ Some l → a ≡ b
same_index xs a b l e f =
    let one : Some a ≡ Some b = sym (global_index-from xs a l e) ∙ global_index-from xs b l f in
    cc

module _ {S : Type 0} (g : Graph) (values : List S) (row col k : ℕ) (kept : IsGraph g) (at : IsAt g row col k) where
  known : at.lid < length g.columns
  known =
      let low = slice_get_within g.rows at.lid row (global_index-from g.rows row at.lid at.row_is) in
      let many = kept.rows in
      omega arith

  within : at.at < length (graph_row g at.lid)
  within = slice_get_within (graph_row g at.lid) at.at at.col_lid (global_index-from (graph_row g at.lid) at.col_lid at.at at.at_is)

  -- the number is the one in the list
  pub table-at : crs_table (crs_of g values) row col ≡ slice_get values k
  table-at =
      (λ t. crs_number (crs_of g values) (at.row_is t) (at.col_is t))
      ∙ ap (number_at_place (numbers (crs_of g values) at.lid)) at.at_is
      ∙ number_rows-get g.columns values at.lid at.at k known within at.flat

  -- another number in the list is another number there
  module _ (v : S) (all : length values ≡ length (joined g.columns)) where
    abbrev m : Crs S
    m = crs_of g values

    abbrev n : Crs S
    n = record { graph = g; values = slice_set m.values at.lid (slice_set (numbers m at.lid) at.at v) }

    row_same : numbers n at.lid ≡ slice_set (numbers m at.lid) at.at v
    row_same = let many = length-number_rows g.columns values in get_or-set_same m.values at.lid (slice_set (numbers m at.lid) at.at v) [] (let low = known in omega arith)

    row_other : (l : ℕ) → (at.lid ≡ l → ⊥) → numbers n l ≡ numbers m l
    row_other l other = get_or-set_other m.values at.lid l (slice_set (numbers m at.lid) at.at v) [] (λ e. other (sym e))

    here : crs_table n row col ≡ Some v
    here =
        (λ t. crs_number n (at.row_is t) (at.col_is t))
        ∙ (λ t. number_at_place (row_same t) (at.at_is t))
        ∙ slice_get-set_same (numbers m at.lid) at.at v (let count = number_rows-count g.columns values at.lid all in let low = within in omega arith)

    at_place : (c p : ℕ) → local_index (graph_row g at.lid) c ≡ Some p → (at.col_lid ≡ c → ⊥) → slice_get (slice_set (numbers m at.lid) at.at v) p ≡ slice_get (numbers m at.lid) p
    at_place c p e other = slice_get-set_other (numbers m at.lid) at.at p v (λ d. other (same_index (graph_row g at.lid) at.col_lid c p (at.at_is ∙ ap Some d) e))

    in_row : (c : ℕ) (p : Option ℕ) → local_index (graph_row g at.lid) c ≡ p → (at.col_lid ≡ c → ⊥) → number_at_place (slice_set (numbers m at.lid) at.at v) p ≡ number_at_place (numbers m at.lid) p
    in_row c None e other = refl
    in_row c (Some p) e other = at_place c p e other

    local_other : (l c : ℕ) → (at.lid ≡ l → at.col_lid ≡ c → ⊥) → crs_local n l c ≡ crs_local m l c
    local_other l c other = elim (cases_eq at.lid l) [
      | inl e ↦
          ap (λ j. crs_local n j c) (sym e)
          ∙ ap (λ vs. number_at_place vs (local_index (graph_row g at.lid) c)) row_same
          ∙ in_row c (local_index (graph_row g at.lid) c) refl (other e)
          ∙ ap (λ j. crs_local m j c) e
      | inr apart ↦ ap (λ vs. number_at_place vs (local_index (graph_row g l) c)) (row_other l apart)
    ]

    there : (i j : ℕ) → (row ≡ i → col ≡ j → ⊥) → (o p : Option ℕ) → local_index g.rows i ≡ o → local_index g.cols j ≡ p → crs_number n o p ≡ crs_number m o p
    there i j other None p e f = refl
    there i j other (Some l) None e f = refl
    there i j other (Some l) (Some c) e f = local_other l c (λ d h. other (same_index g.rows row i l (at.row_is ∙ ap Some d) e) (same_index g.cols col j c (at.col_is ∙ ap Some h) f))

    place : (i j : ℕ) → crs_table n i j ≡ with_place (crs_table m) row col (Some v) i j
    place i j = elim (cases_eq row i) [
      | inl e ↦ elim (cases_eq col j) [
        | inl f ↦
            (λ t. crs_table n (sym e t) (sym f t))
            ∙ here
            ∙ sym (λ t. cond (eq-eqb row i e t && eq-eqb col j f t) (Some v) (crs_table m i j))
        | inr f ↦ there i j (λ d h. f h) (local_index g.rows i) (local_index g.cols j) refl refl ∙ sym (λ t. cond (eq-eqb row i e t && ne_eqb col j f t) (Some v) (crs_table m i j))
      ]
      | inr e ↦ there i j (λ d h. e d) (local_index g.rows i) (local_index g.cols j) refl refl ∙ sym (ap (λ b. cond (b && (col == j)) (Some v) (crs_table m i j)) (ne_eqb row i e))
    ]

    pub table-set : crs_table (crs_of g (slice_set values k v)) ≡ with_place (crs_table (crs_of g values)) row col (Some v)
    table-set = ap (λ vs. crs_table (record { graph = g; values = vs })) (number_rows-set g.columns values at.lid at.at k v known within at.flat) ∙ (λ t i j. place i j t)

-- each number is multiplied
pub slice_get-map : {A B : Type 0} (f : A → B) (xs : List A) (p : ℕ) → slice_get (map f xs) p ≡ option_map f (slice_get xs p)
slice_get-map f [] p = refl
slice_get-map f (x ∷ xs) zero = refl
slice_get-map f (x ∷ xs) (suc p) = slice_get-map f xs p

pub row-map : {A B : Type 0} (f : A → B) (rs : List (List A)) (l : ℕ) → get_or (map (map f) rs) l [] ≡ map f (get_or rs l [])
row-map f [] l = refl
row-map f (r ∷ rs) zero = refl
row-map f (r ∷ rs) (suc l) = row-map f rs l

module _ {S : Type 0} (R : Semiring S) (alpha : S) (g : Graph) (values : List S) where
  abbrev old : Crs S
  old = crs_of g values

  abbrev new : Crs S
  new = record { graph = g; values = map (map (λ v. R.times alpha v)) old.values }

  number-scaled : (vs : List S) (p : Option ℕ) → number_at_place (map (λ v. R.times alpha v) vs) p ≡ option_map (λ v. R.times alpha v) (number_at_place vs p)
  number-scaled vs None = refl
  number-scaled vs (Some p) = slice_get-map (λ v. R.times alpha v) vs p

  each-scaled : (o p : Option ℕ) → crs_number new o p ≡ option_map (λ v. R.times alpha v) (crs_number old o p)
  each-scaled None p = refl
  each-scaled (Some l) None = refl
  each-scaled (Some l) (Some c) =
      ap (λ vs. number_at_place vs (local_index (graph_row g l) c)) (row-map (λ v. R.times alpha v) old.values l)
      ∙ number-scaled (numbers old l) (local_index (graph_row g l) c)

  pub table-scaled : crs_table (crs_of g (map (λ v. R.times alpha v) values)) ≡ scaled R alpha (crs_table (crs_of g values))
  table-scaled =
      ap (λ vs. crs_table (record { graph = g; values = vs })) (number_rows-map (λ v. R.times alpha v) g.columns values)
      ∙ (λ t i j. each-scaled (local_index g.rows i) (local_index g.cols j) t)

-- a place that the structure lacks has no number
pub table-none : {S : Type 0} (g : Graph) (values : List S) (row col : ℕ) → graph_has g row col ≡ false → crs_table (crs_of g values) row col ≡ None
table-none g values row col lacks = go (local_index g.rows row) (local_index g.cols col) lacks
  where
    go : (o p : Option ℕ) → has_local_place g o p ≡ false → crs_number (crs_of g values) o p ≡ None
    go None p h = refl
    go (Some l) None h = refl
    go (Some l) (Some c) h = ap (number_at_place (numbers (crs_of g values) l)) (local_index-absent (graph_row g l) c h)
