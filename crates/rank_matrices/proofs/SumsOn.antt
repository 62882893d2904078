-- The sums of an apply, on a list, and what is made of them.
use Rattle.std.proofs.Common.{◌≡◌, ℕ, ◌*◌, ◌<◌, ◌≤◌, Bool, true, false, ◌&&◌, cond, ltb, List, length, replicate, Result, Ok, Err, IfOk, Option, None, Some, inl, inr, refl, sym, ap, ◌∙◌, subst, arith}
use Rattle.std.specs.Prelude.{is_some}
use Rattle.std.specs.Option.{option_map, unwrap_or}
use Rattle.std.proofs.lemmas.Bool.{cases_lt, lt-ltb, le-ltb}
use Rattle.std.proofs.lemmas.Option.{slice_get_within}
use Rattle.scalar_laws.specs.Semiring.{Semiring, IsSemiring}
use Rattle.tables.specs.Indices.{stands, AreBelow}
use Rattle.tables.specs.Sums.{both_or_one}
use Rattle.tables.specs.Tables.{Table}
use Rattle.map_core.specs.Layouts.{local_index}
use Rattle.map_core.proofs.Places.{global_index-from}
use Rattle.crs_matrix.specs.Matrices.{crs_table, Crs}
use Rattle.multivector.specs.Vectors.{vector_table, VectorState, IsVector}
use Rattle.multivector.proofs.Cells.{all-there, has-cell}
use Rattle.model_defs.specs.Operations.{combination, completed, grown, turned}
use Rattle.spmv.specs.Applied.{grown as added}
use Rattle.spmv.proofs.Rows.{vector-none}
use Rattle.rank_values.specs.Vectors.{global_table}
use Rattle.rank_matrices.specs.Matrices.{product_on, source_list, target_list}
use Rattle.rank_values.proofs.Globals.{global-at, global-filled, global-none, none_stands, some_stands}

module _ {S : Type 0} {R : Semiring S} (L : IsSemiring R) where
  nought-sum : (o : Option S) → both_or_one R.plus (Some R.nought) o ≡ Some (unwrap_or o R.nought)
  nought-sum None = refl
  nought-sum (Some v) = ap (λ x. Some x) (L.plus_nought v)

  -- what is added to noughts
  pub sums-on : (list : List ℕ) (columns : ℕ) (zero : S) (zeros sums : VectorState S) (local whole : Table S)
      → zeros ≡ record { map = list; columns = columns; values = replicate (length list * columns) zero } → zero ≡ R.nought
      → sums.map ≡ zeros.map → sums.columns ≡ zeros.columns → vector_table sums ≡ added R (vector_table zeros) local
      → ((i l k : ℕ) → local_index list i ≡ Some l → whole i k ≡ local l k)
      → global_table sums ≡ completed R (λ i. stands i list) columns whole
  sums-on list columns zero zeros sums local whole start none map_is columns_are table product = λ t i k. at i k (local_index list i) refl t
    where
      first : VectorState S
      first = record { map = list; columns = columns; values = replicate (length list * columns) zero }

      map_same : sums.map ≡ list
      map_same = map_is ∙ ap (λ v. v.map) start

      columns_same : sums.columns ≡ columns
      columns_same = columns_are ∙ ap (λ v. v.columns) start

      at : (i k : ℕ) (o : Option ℕ) → local_index list i ≡ o → global_table sums i k ≡ cond (stands i list && ltb k columns) (Some (unwrap_or (whole i k) R.nought)) None
      at i k None e =
          global-none sums i k (ap (λ m. local_index m i) map_same ∙ e)
          ∙ sym (ap (λ b. cond (b && ltb k columns) (Some (unwrap_or (whole i k) R.nought)) None) (none_stands list i e))
      at i k (Some l) e = global-at sums i k l (ap (λ m. local_index m i) map_same ∙ e) ∙ elim (cases_lt k columns) [
        | inl low ↦
            let on : (stands i list && ltb k columns) ≡ true = (λ t. some_stands list i l e t && lt-ltb k columns low t) in
            let cell : vector_table first l k ≡ Some zero =
            sym (global-at first i k l e) ∙ global-filled list columns zero i k ∙ ap (λ b. cond b (Some zero) None) on in
            ap (λ t. t l k) table
            ∙ (λ t. both_or_one R.plus (vector_table (start t) l k) (local l k))
            ∙ (λ t. both_or_one R.plus (cell t) (local l k))
            ∙ ap (λ z. both_or_one R.plus (Some z) (local l k)) none
            ∙ nought-sum (local l k)
            ∙ sym (λ t. cond (on t) (Some (unwrap_or (product i l k e t) R.nought)) None)
        | inr past ↦
            vector-none sums l k (high k past)
            ∙ sym (λ t. cond (some_stands list i l e t && le-ltb k columns past t) (Some (unwrap_or (whole i k) R.nought)) None)
      ]
        where
          high : (k : ℕ) → columns ≤ k → sums.columns ≤ k
          high k past = let same = columns_same in omega arith

  -- where a vector has cells
  global-there : (y : VectorState S) → IsVector y → (i k : ℕ) → is_some (global_table y i k) ≡ (stands i y.map && ltb k y.columns)
  global-there y whole i k = at (local_index y.map i) refl
    where
      at : (o : Option ℕ) → local_index y.map i ≡ o → is_some (global_table y i k) ≡ (stands i y.map && ltb k y.columns)
      at None e = ap is_some (global-none y i k e) ∙ sym (ap (λ b. b && ltb k y.columns) (none_stands y.map i e))
      at (Some l) e =
          let low : l < length y.map = slice_get_within y.map l i (global_index-from y.map i l e) in
          ap is_some (global-at y i k l e)
          ∙ elim (cases_lt k y.columns) [
            | inl column ↦ all-there y whole l k (has-cell y l k low column) ∙ sym (λ t. some_stands y.map i l e t && lt-ltb k y.columns column t)
            | inr past ↦ ap is_some (vector-none y l k past) ∙ sym (λ t. some_stands y.map i l e t && le-ltb k y.columns past t)
          ]

  exchanged : (alpha beta : S) (b : Bool) (o : Option S) (u : S) → is_some o ≡ b
      → both_or_one R.plus (option_map (R.times beta) o) (option_map (R.times alpha) (cond b (Some u) None)) ≡ option_map (λ old. R.plus (R.times alpha u) (R.times beta old)) o
  exchanged alpha beta true None u e = absurd (cc)
  exchanged alpha beta true (Some old) u e = ap (λ x. Some x) (L.plus_comm (R.times beta old) (R.times alpha u))
  exchanged alpha beta false None u e = refl
  exchanged alpha beta false (Some old) u e = absurd (cc)

  -- Sums that are complete on the cells of y, together with y.
  pub sums-grown : (alpha beta : S) (s sums : Table S) (y : VectorState S) → IsVector y → sums ≡ completed R (λ i. stands i y.map) y.columns s
      → combination R beta (global_table y) alpha sums ≡ grown R alpha s beta (global_table y)
  sums-grown alpha beta s sums y whole is = ap (combination R beta (global_table y) alpha) is ∙ (λ t i k. at i k t)
    where
      at : (i k : ℕ) → combination R beta (global_table y) alpha (completed R (λ i. stands i y.map) y.columns s) i k ≡ grown R alpha s beta (global_table y) i k
      at i k = exchanged alpha beta (stands i y.map && ltb k y.columns) (global_table y i k) (unwrap_or (s i k) R.nought) (global-there y whole i k)

-- the product of the transpose, or of the matrix
pub sums-turned : {S E : Type 0} (R : Semiring S) (a : Crs S) (x : VectorState S) (transposed b : Bool) (r : Result (VectorState S) E) → transposed ≡ b → x.map ≡ source_list transposed a.graph
    → IfOk r (λ v. (n : ℕ) → AreBelow n (source_list b a.graph) → global_table v ≡ product_on R (target_list b a.graph) x.columns n (turned b (crs_table a)) (global_table x))
    → IfOk r (λ v. (n : ℕ) → AreBelow n x.map → global_table v ≡ product_on R (target_list transposed a.graph) x.columns n (turned transposed (crs_table a)) (global_table x))
sums-turned R a x transposed b (Ok v) e same sums =
    λ n below.
    sums n (subst (AreBelow n) (same ∙ ap (λ d. source_list d a.graph) e) below)
    ∙ (λ t. product_on R (target_list (sym e t) a.graph) x.columns n (turned (sym e t) (crs_table a)) (global_table x))
sums-turned R a x transposed b (Err f) e same sums = tt
