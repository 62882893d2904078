-- Products by global indices and by local ones.
use Rattle.std.proofs.Common.{◌≡◌, ℕ, ◌<◌, true, List, [], ◌∷◌, length, get_or, Option, None, Some, refl, sym, ap, ◌∙◌}
use Rattle.std.specs.Option.{option_and_then}
use Rattle.std.proofs.lemmas.Option.{slice_get-get_or}
use Rattle.scalar_laws.specs.Semiring.{Semiring, IsSemiring}
use Rattle.tables.specs.Indices.{AreBelow, AreDistinct}
use Rattle.tables.specs.Sums.{both_or_one, if_there, total, total_below}
use Rattle.tables.proofs.Sums.{places-IsJoining, total-all, total_below-ext, total_below-front}
use Rattle.map_core.specs.Layouts.{local_index}
use Rattle.map_core.proofs.Places.{local_index-absent, local_index-from}
use Rattle.crs_matrix.specs.Matrices.{crs_local, crs_number, crs_table, Crs, IsCrs}
use Rattle.multivector.specs.Vectors.{vector_table, VectorState}
use Rattle.model_defs.specs.Operations.{product, times_there, turned}
use Rattle.spmv.specs.Applied.{turned as local_turned}
use Rattle.rank_values.specs.Vectors.{global_table}

module _ {S : Type 0} {R : Semiring S} (L : IsSemiring R) where
  -- a sum over the members of a list is one over its places
  total-places : (f : ℕ → Option S) (xs : List ℕ) → total (if_there R.plus) f xs ≡ total_below (if_there R.plus) (length xs) (λ k. f (get_or xs k 0))
  total-places f [] = refl
  total-places f (x ∷ xs) =
      ap (both_or_one R.plus (f x)) (total-places f xs)
      ∙ sym (total_below-front (places-IsJoining L) (length xs) (λ k. f (get_or (x ∷ xs) k 0)))

  -- A sum of products whose factors are known on the distinct indices of a list, all below n.
  pub local-sum : (n : ℕ) (xs : List ℕ) (a b : ℕ → Option S) (f g : ℕ → Option S) → AreDistinct xs → AreBelow n xs
      → ((k : ℕ) → a k ≡ option_and_then f (local_index xs k)) → ((k : ℕ) → b k ≡ option_and_then g (local_index xs k))
      → total_below (if_there R.plus) n (λ k. times_there R (a k) (b k)) ≡ total_below (if_there R.plus) (length xs) (λ l. times_there R (f l) (g l))
  local-sum n xs a b f g distinct below first second =
      sym (total-all (places-IsJoining L) n (λ k. times_there R (a k) (b k)) xs distinct below
      (λ q low off. ap (λ o. times_there R o (b q)) (first q ∙ ap (option_and_then f) (local_index-absent xs q off))))
      ∙ total-places (λ k. times_there R (a k) (b k)) xs
      ∙ total_below-ext (places-IsJoining L) (length xs) (λ l. times_there R (a (get_or xs l 0)) (b (get_or xs l 0))) (λ l. times_there R (f l) (g l)) (λ l low. member l low)
    where
      member : (l : ℕ) → l < length xs → times_there R (a (get_or xs l 0)) (b (get_or xs l 0)) ≡ times_there R (f l) (g l)
      member l low =
          let k = get_or xs l 0 in
          let here : local_index xs k ≡ Some l = local_index-from xs k l distinct (slice_get-get_or xs l 0 low) in
          let one : a k ≡ f l = first k ∙ ap (option_and_then f) here in
          let two : b k ≡ g l = second k ∙ ap (option_and_then g) here in
          (λ t. times_there R (one t) (two t))

  -- the product of a row
  pub row-product : (m : Crs S) (x : VectorState S) (n i l k : ℕ) → IsCrs m → x.map ≡ m.graph.cols → AreBelow n m.graph.cols → local_index m.graph.rows i ≡ Some l
      → product R n (crs_table m) (global_table x) i k ≡ product R (length m.graph.cols) (crs_local m) (vector_table x) l k
  row-product m x n i l k kept same below here =
      local-sum n m.graph.cols (λ g. crs_table m i g) (λ g. global_table x g k) (λ c. crs_local m l c) (λ c. vector_table x c k) kept.graph.distinct below
      (λ g. ap (λ o. crs_number m o (local_index m.graph.cols g)) here ∙ known (local_index m.graph.cols g))
      (λ g. ap (λ list. option_and_then (λ c. vector_table x c k) (local_index list g)) same)
    where
      known : (o : Option ℕ) → crs_number m (Some l) o ≡ option_and_then (λ c. crs_local m l c) o
      known None = refl
      known (Some c) = refl

  -- the product of a column
  pub column-product : (m : Crs S) (x : VectorState S) (n j c k : ℕ) → AreDistinct m.graph.rows → x.map ≡ m.graph.rows → AreBelow n m.graph.rows → local_index m.graph.cols j ≡ Some c
      → product R n (turned true (crs_table m)) (global_table x) j k ≡ product R (length m.graph.rows) (local_turned (crs_local m)) (vector_table x) c k
  column-product m x n j c k distinct same below here =
      local-sum n m.graph.rows (λ g. crs_table m g j) (λ g. global_table x g k) (λ l. crs_local m l c) (λ l. vector_table x l k) distinct below
      (λ g. ap (crs_number m (local_index m.graph.rows g)) here ∙ known (local_index m.graph.rows g))
      (λ g. ap (λ list. option_and_then (λ l. vector_table x l k) (local_index list g)) same)
    where
      known : (o : Option ℕ) → crs_number m o (Some c) ≡ option_and_then (λ l. crs_local m l c) o
      known None = refl
      known (Some l) = refl
