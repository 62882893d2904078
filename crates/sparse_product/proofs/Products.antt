-- A row of a product over the local indices of columns is the row of the textbook's product over their global indices.
use Rattle.std.proofs.Common.{◌≡◌, ℕ, zero, suc, Bool, true, false, cond, eqb, ◌||◌, List, [], ◌∷◌, length, map, get_or, Option, Some, None, refl, sym, ap, ◌∙◌, arith}
use Rattle.std.specs.Prelude.{slice_get}
use Rattle.std.proofs.lemmas.Bool.{eqb-true, eq-eqb, or_parts}
use Rattle.std.proofs.lemmas.Option.{slice_get-get_or}
use Rattle.std.proofs.Math.ListN.{get_or-map}
use Rattle.scalar_laws.specs.Semiring.{Semiring, IsSemiring}
use Rattle.tables.specs.Indices.{stands, AreBelow, AreDistinct}
use Rattle.tables.specs.Sums.{Joining, total, total_below, if_there, both_or_one, IsJoining}
use Rattle.tables.specs.Tables.{Table}
use Rattle.tables.proofs.Sums.{places-IsJoining, total-all, total-map, total_below-ext, total_below-front}
use Rattle.map_core.specs.Layouts.{local_index}
use Rattle.map_core.proofs.Places.{local_index-absent, local_index-from}
use Rattle.model_defs.specs.Operations.{times_there}
use Rattle.crs_graph.specs.Ascending.{IsAscending}
use Rattle.crs_graph.proofs.Ascending.{ascending_tail, not_above, AreDistinct-ascending}
use Rattle.crs_matrix.specs.Rows.{columns_in, local_table, number_at, RowCells, IsRowCells}
use Rattle.sparse_product.specs.Rows.{linked_cells, product_row, scaled_at}
use Rattle.sparse_product.proofs.Gathered.{scaled-once}

-- what a local index, if there is one, stands for
abbrev pub pick : {S : Type 0} → (ℕ → Option S) → Option ℕ → Option S
pick f None = None
pick f (Some k) = f k

total-same : {A B : Type 0} (M : Joining B) (f g : A → B) (xs : List A) → ((i : ℕ) (x : A) → slice_get xs i ≡ Some x → f x ≡ g x) → total M f xs ≡ total M g xs
total-same M f g [] h = refl
total-same M f g (x ∷ xs) h = (λ t. M.join (h 0 x refl t) (total-same M f g xs (λ i y e. h (suc i) y e) t))

total-places : {B : Type 0} {M : Joining B} (L : IsJoining M) (f : ℕ → B) (xs : List ℕ) → total M f xs ≡ total_below M (length xs) (λ k. f (get_or xs k 0))
total-places L f [] = refl
total-places {M = M} L f (x ∷ xs) = ap (M.join (f x)) (total-places L f xs) ∙ sym (total_below-front L (length xs) (λ k. f (get_or (x ∷ xs) k 0)))

module _ {S : Type 0} where
  pub number-own : (cells : List (ℕ × S)) → IsAscending (columns_in cells) → (i : ℕ) (c : ℕ × S) → slice_get cells i ≡ Some c → number_at cells c.0 ≡ Some c.1
  number-own [] up i c e = absurd (cc)
  number-own (x ∷ cells) up zero c e =
      let same : x ≡ c = cc in
      ap (λ y. cond (eqb y.0 c.0) (Some y.1) (number_at cells c.0)) same ∙ ap (λ b. cond b (Some c.1) (number_at cells c.0)) (eq-eqb c.0 c.0 refl)
  number-own (x ∷ cells) up (suc i) c e =
      ap (λ b. cond b (Some x.1) (number_at cells c.0)) (apart (eqb x.0 c.0) refl)
      ∙ number-own cells (ascending_tail x.0 (columns_in cells) up) i c e
    where
      there : (cs : List (ℕ × S)) (k : ℕ) → slice_get cs k ≡ Some c → stands c.0 (columns_in cs) ≡ true
      there [] k f = absurd (cc)
      there (y ∷ cs) zero f = let same : y ≡ c = cc in ap (λ b. b || stands c.0 (columns_in cs)) (eq-eqb y.0 c.0 (ap (λ z. z.0) same))
      there (y ∷ cs) (suc k) f = ap (λ b. eqb y.0 c.0 || b) (there cs k f) ∙ always (eqb y.0 c.0)
        where
          always : (b : Bool) → (b || true) ≡ true
          always true = refl
          always false = refl

      apart : (b : Bool) → eqb x.0 c.0 ≡ b → eqb x.0 c.0 ≡ false
      apart false t = t
      apart true t =
          let one : x.0 ≡ c.0 = eqb-true x.0 c.0 t in
          let none : stands c.0 (columns_in cells) ≡ false = not_above x.0 (columns_in cells) up c.0 (omega arith) in
          let bad : true ≡ false = sym (there cells i e) ∙ none in
          absurd (cc)

  pub number-absent : (cells : List (ℕ × S)) (k : ℕ) → stands k (columns_in cells) ≡ false → number_at cells k ≡ None
  number-absent [] k e = refl
  number-absent (x ∷ cells) k e =
      let parts = or_parts (eqb x.0 k) (stands k (columns_in cells)) e in
      ap (λ b. cond b (Some x.1) (number_at cells k)) parts.0 ∙ number-absent cells k parts.1

  module _ (R : Semiring S) (L : IsSemiring R) where
    J : IsJoining (if_there R.plus)
    J = places-IsJoining L

    -- the rows of the links are those of the matrix
    pub linked-product : (columns : List ℕ) (links : List (List (ℕ × S))) (b : RowCells S) (terms : List (ℕ × S)) (j : ℕ) → map (linked_cells columns) links ≡ b.cells → IsRowCells b
        → total (if_there R.plus) (λ c. scaled_at R c.1 (linked_cells columns (get_or links c.0 [])) j) terms ≡ product_row R terms (local_table b) j
    linked-product columns links b terms j same is = total-same (if_there R.plus) _ _ terms (λ i c e.
        ap (λ cs. scaled_at R c.1 cs j) (sym (get_or-map (linked_cells columns) links c.0 []) ∙ ap (λ rs. get_or rs c.0 []) same)
        ∙ scaled-once R L c.1 (get_or b.cells c.0 []) j (is.ascend c.0))

    -- the sum over the local indices of the row's columns is the sum over all global indices
    pub global-product : (cols : List ℕ) (n : ℕ) → AreDistinct cols → AreBelow n cols → (cells : List (ℕ × S)) → IsAscending (columns_in cells) → AreBelow (length cols) (columns_in cells)
        → (B : Table S) (j : ℕ)
        → total_below (if_there R.plus) n (λ g. times_there R (pick (number_at cells) (local_index cols g)) (pick (λ k. B k j) (local_index cols g))) ≡ product_row R cells B j
    global-product cols n distinct below cells up within B j =
        sym (total-all J n F cols distinct below (λ g low away. ap (λ o. times_there R (pick (number_at cells) o) (pick (λ k. B k j) o)) (local_index-absent cols g away)))
        ∙ total-places J F cols
        ∙ total_below-ext J (length cols) (λ k. F (get_or cols k 0)) G (λ k low. ap (λ o. times_there R (pick (number_at cells) o) (pick (λ m. B m j) o)) (local_index-from cols (get_or cols k 0) k distinct (slice_get-get_or cols k 0 low)))
        ∙ sym (total-all J (length cols) G (columns_in cells) (AreDistinct-ascending (columns_in cells) up) within (λ k low away. ap (λ o. times_there R o (B k j)) (number-absent cells k away)))
        ∙ total-map J G (λ c. c.0) cells
        ∙ total-same (if_there R.plus) (λ c. G c.0) (λ c. times_there R (Some c.1) (B c.0 j)) cells (λ i c e. ap (λ o. times_there R o (B c.0 j)) (number-own cells up i c e))
      where
        F : ℕ → Option S
        F g = times_there R (pick (number_at cells) (local_index cols g)) (pick (λ k. B k j) (local_index cols g))

        G : ℕ → Option S
        G k = times_there R (number_at cells k) (B k j)

    -- where the row is absent there is no product
    pub no-product : (n : ℕ) (f : ℕ → Option S) → total_below (if_there R.plus) n (λ g. times_there R None (f g)) ≡ None
    no-product zero f = refl
    no-product (suc n) f = ap (λ o. both_or_one R.plus o None) (no-product n f)
