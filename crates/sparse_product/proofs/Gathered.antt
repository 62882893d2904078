-- What a row has after rows were added to it.
use Rattle.std.proofs.Common.{◌≡◌, ℕ, ◌<◌, ◌≤◌, Bool, true, false, cond, eqb, List, [], ◌∷◌, ◌++◌, length, get_or, set, Option, Some, None, refl, sym, ap, ◌∙◌, arith, length-set}
use Rattle.std.proofs.lemmas.List.{map-append}
use Rattle.std.proofs.lemmas.Bool.{eqb-true, ne_eqb}
use Rattle.scalar_laws.specs.Semiring.{Semiring, IsSemiring}
use Rattle.tables.specs.Sums.{total, if_there, both_or_one, IsJoining}
use Rattle.tables.proofs.Sums.{places-IsJoining, total-push}
use Rattle.model_defs.specs.Operations.{times_there}
use Rattle.crs_graph.specs.Ascending.{IsAbove, IsAscending}
use Rattle.crs_graph.proofs.Ascending.{ascending_tail}
use Rattle.crs_matrix.specs.Rows.{columns_in, number_at}
use Rattle.sparse_product.specs.Dense.{number_under}
use Rattle.sparse_product.specs.Rows.{linked_cells, scaled_at}
use Rattle.sparse_product.proofs.DenseRows.{number_under-at, number_under-set}

-- so far these links, times a factor, were added
pub record IsGathered {S : Type 0} (R : Semiring S) (factor : S) (links : List (ℕ × S)) (first now : List (Option S)) : Type 0 where
  pub size : length now ≡ length first
  pub sum : (columns : List ℕ) → IsAscending columns → length columns ≡ length first → (j : ℕ)
      → number_under columns now j ≡ both_or_one R.plus (number_under columns first j) (scaled_at R factor (linked_cells columns links) j)

-- so far these rows of the links were added, each times its factor
pub record IsSummed {S : Type 0} (R : Semiring S) (links : List (List (ℕ × S))) (terms : List (ℕ × S)) (first now : List (Option S)) : Type 0 where
  pub size : length now ≡ length first
  pub sum : (columns : List ℕ) → IsAscending columns → length columns ≡ length first → (j : ℕ)
      → number_under columns now j ≡ both_or_one R.plus (number_under columns first j) (total (if_there R.plus) (λ c. scaled_at R c.1 (linked_cells columns (get_or links c.0 [])) j) terms)

module _ {S : Type 0} (R : Semiring S) (L : IsSemiring R) where
  none_more : (o : Option S) → both_or_one R.plus o None ≡ o
  none_more None = refl
  none_more (Some v) = refl

  J : IsJoining (if_there R.plus)
  J = places-IsJoining L

  pub gathered-none : (factor : S) (first : List (Option S)) → IsGathered R factor [] first first
  gathered-none factor first = record { size = refl; sum = λ columns up each j. sym (none_more (number_under columns first j)) }

  pub gathered-more : (factor : S) (links : List (ℕ × S)) (first now next : List (Option S)) (place : ℕ) (v x : S) → IsGathered R factor links first now → place < length first
      → x ≡ R.times factor v → next ≡ set now place (both_or_one R.plus (get_or now place None) (Some x))
      → IsGathered R factor (links ++ (place, v) ∷ []) first next
  gathered-more factor links first now next place v x h low is step = record {
    size = ap length step ∙ length-set now place (both_or_one R.plus (get_or now place None) (Some x)) ∙ h.size;
    sum = λ columns up each j. sums columns up each j;
  }
    where
      sums : (columns : List ℕ) → IsAscending columns → length columns ≡ length first → (j : ℕ)
          → number_under columns next j ≡ both_or_one R.plus (number_under columns first j) (scaled_at R factor (linked_cells columns (links ++ (place, v) ∷ [])) j)
      sums columns up each j =
          ap (λ ds. number_under columns ds j) step
          ∙ number_under-set columns up now place (both_or_one R.plus (get_or now place None) (Some x)) j (omega (arith, each)) (omega (arith, h.size))
          ∙ go (eqb (get_or columns place 0) j) refl
          ∙ ap (λ o. both_or_one R.plus o (cond (eqb (get_or columns place 0) j) (Some x) None)) (h.sum columns up each j)
          ∙ J.assoc (number_under columns first j) (scaled_at R factor (linked_cells columns links) j) (cond (eqb (get_or columns place 0) j) (Some x) None)
          ∙ ap (λ y. both_or_one R.plus (number_under columns first j) (both_or_one R.plus (scaled_at R factor (linked_cells columns links) j) (cond (eqb (get_or columns place 0) j) (Some y) None))) is
          ∙ ap (both_or_one R.plus (number_under columns first j)) (sym (
          ap (λ cs. scaled_at R factor cs j) (map-append (λ l. (get_or columns l.0 0, l.1)) links ((place, v) ∷ []))
          ∙ total-push J (λ c. cond (eqb c.0 j) (Some (R.times factor c.1)) None) (linked_cells columns links) (get_or columns place 0, v)))
        where
          go : (b : Bool) → eqb (get_or columns place 0) j ≡ b
              → cond b (both_or_one R.plus (get_or now place None) (Some x)) (number_under columns now j) ≡ both_or_one R.plus (number_under columns now j) (cond b (Some x) None)
          go true t =
              let here : get_or columns place 0 ≡ j = eqb-true (get_or columns place 0) j t in
              ap (λ o. both_or_one R.plus o (Some x)) (sym (ap (number_under columns now) (sym here) ∙ number_under-at columns up now place (omega (arith, each)) (omega (arith, h.size))))
          go false t = sym (none_more (number_under columns now j))

  pub summed-none : (links : List (List (ℕ × S))) (first : List (Option S)) → IsSummed R links [] first first
  summed-none links first = record { size = refl; sum = λ columns up each j. sym (none_more (number_under columns first j)) }

  pub summed-more : (links : List (List (ℕ × S))) (terms : List (ℕ × S)) (k : ℕ) (factor : S) (first now next : List (Option S)) → IsSummed R links terms first now
      → length next ≡ length now
      → ((columns : List ℕ) → IsAscending columns → length columns ≡ length now → (j : ℕ)
      → number_under columns next j ≡ both_or_one R.plus (number_under columns now j) (scaled_at R factor (linked_cells columns (get_or links k [])) j))
      → IsSummed R links (terms ++ (k, factor) ∷ []) first next
  summed-more links terms k factor first now next h size step = record {
    size = size ∙ h.size;
    sum = λ columns up each j.
        step columns up (each ∙ sym h.size) j
        ∙ ap (λ o. both_or_one R.plus o (scaled_at R factor (linked_cells columns (get_or links k [])) j)) (h.sum columns up each j)
        ∙ J.assoc (number_under columns first j) (total (if_there R.plus) (λ c. scaled_at R c.1 (linked_cells columns (get_or links c.0 [])) j) terms) (scaled_at R factor (linked_cells columns (get_or links k [])) j)
        ∙ ap (both_or_one R.plus (number_under columns first j)) (sym (total-push J (λ c. scaled_at R c.1 (linked_cells columns (get_or links c.0 [])) j) terms (k, factor)));
  }

  -- ---- a row with each column once

  scaled-absent : (factor : S) (c : ℕ) (cells : List (ℕ × S)) (j : ℕ) → IsAbove c (columns_in cells) → j ≤ c → scaled_at R factor cells j ≡ None
  scaled-absent factor c [] j up le = refl
  scaled-absent factor c (x ∷ cells) j up le =
      let low : c < x.0 = up.0 in
      ap (λ b. both_or_one R.plus (cond b (Some (R.times factor x.1)) None) (scaled_at R factor cells j)) (ne_eqb x.0 j (λ e. absurd (omega arith)))
      ∙ scaled-absent factor x.0 cells j up.1 (omega arith)

  pub scaled-once : (factor : S) (cells : List (ℕ × S)) (j : ℕ) → IsAscending (columns_in cells) → scaled_at R factor cells j ≡ times_there R (Some factor) (number_at cells j)
  scaled-once factor [] j up = refl
  scaled-once factor (x ∷ cells) j up = go (eqb x.0 j) refl (scaled-once factor cells j (ascending_tail x.0 (columns_in cells) up))
    where
      go : (b : Bool) → eqb x.0 j ≡ b → scaled_at R factor cells j ≡ times_there R (Some factor) (number_at cells j)
          → both_or_one R.plus (cond b (Some (R.times factor x.1)) None) (scaled_at R factor cells j) ≡ times_there R (Some factor) (cond b (Some x.1) (number_at cells j))
      go true t rest =
          let here : x.0 ≡ j = eqb-true x.0 j t in
          ap (both_or_one R.plus (Some (R.times factor x.1))) (scaled-absent factor x.0 cells j up (omega arith))
      go false t rest = rest
