-- Numbers that are added to a row of a table, one after the other.
use Rattle.std.proofs.Common.{◌≡◌, ℕ, Bool, true, false, cond, eqb, ◌&&◌, List, [], ◌∷◌, ◌++◌, Option, Some, None, refl, sym, ap, ◌∙◌}
use Rattle.std.proofs.lemmas.Bool.{eqb-true}
use Rattle.scalar_laws.specs.Semiring.{Semiring, IsSemiring}
use Rattle.tables.specs.Sums.{both_or_one, if_there, IsJoining}
use Rattle.tables.specs.Tables.{Table}
use Rattle.tables.proofs.Sums.{places-IsJoining, total-push}
use Rattle.combine_modes.specs.declared.mode.Mode.TheVariants.{Add}
use Rattle.combine_modes.specs.Modes.{after_one}
use Rattle.distributor.specs.Entries.{with_cell}
use Rattle.sparse_product.specs.Rows.{scaled_at, with_row}

module _ {S : Type 0} (R : Semiring S) (L : IsSemiring R) (before : Table S) (lid : ℕ) where
  J : IsJoining (if_there R.plus)
  J = places-IsJoining L

  none_more : (o : Option S) → both_or_one R.plus o None ≡ o
  none_more None = refl
  none_more (Some v) = refl

  pub added-none : (factor : S) → before ≡ with_row R before lid (scaled_at R factor [])
  added-none factor = λ t l j. go (eqb lid l) (before l j) t
    where
      go : (b : Bool) (o : Option S) → o ≡ cond b (both_or_one R.plus o None) o
      go true o = sym (none_more o)
      go false o = refl

  pub added-more : (factor : S) (cells : List (ℕ × S)) (col : ℕ) (v x : S) (now next : Table S) → now ≡ with_row R before lid (scaled_at R factor cells)
      → x ≡ R.times factor v → next ≡ with_cell R Add false now lid col x
      → next ≡ with_row R before lid (scaled_at R factor (cells ++ (col, v) ∷ []))
  added-more factor cells col v x now next h is step = step ∙ (λ t l j. at l j t)
    where
      more : (j : ℕ) → scaled_at R factor (cells ++ (col, v) ∷ []) j ≡ both_or_one R.plus (scaled_at R factor cells j) (cond (eqb col j) (Some x) None)
      more j = total-push J (λ c. cond (eqb c.0 j) (Some (R.times factor c.1)) None) cells (col, v)
          ∙ ap (λ y. both_or_one R.plus (scaled_at R factor cells j) (cond (eqb col j) (Some y) None)) (sym is)

      number : (l j : ℕ) → lid ≡ l → col ≡ j → after_one R Add false (now lid col) (Some x) ≡ both_or_one R.plus (now l j) (Some x)
      number l j row column = (λ t. both_or_one R.plus (now (row t) (column t)) (Some ((L.plus_comm x R.nought ∙ L.plus_nought x) t)))

      at : (l j : ℕ) → cond (eqb lid l && eqb col j) (after_one R Add false (now lid col) (Some x)) (now l j)
          ≡ cond (eqb lid l) (both_or_one R.plus (before l j) (scaled_at R factor (cells ++ (col, v) ∷ []) j)) (before l j)
      at l j = go (eqb lid l) (eqb col j) refl refl
        where
          inside : eqb lid l ≡ true → now l j ≡ both_or_one R.plus (before l j) (scaled_at R factor cells j)
          inside p = (λ t. h t l j) ∙ ap (λ b. cond b (both_or_one R.plus (before l j) (scaled_at R factor cells j)) (before l j)) p

          go : (a b : Bool) → eqb lid l ≡ a → eqb col j ≡ b
              → cond (a && b) (after_one R Add false (now lid col) (Some x)) (now l j) ≡ cond a (both_or_one R.plus (before l j) (scaled_at R factor (cells ++ (col, v) ∷ []) j)) (before l j)
          go true true p q =
              number l j (eqb-true lid l p) (eqb-true col j q)
              ∙ ap (λ o. both_or_one R.plus o (Some x)) (inside p)
              ∙ J.assoc (before l j) (scaled_at R factor cells j) (Some x)
              ∙ ap (both_or_one R.plus (before l j)) (sym (more j ∙ ap (λ b. both_or_one R.plus (scaled_at R factor cells j) (cond b (Some x) None)) q))
          go true false p q =
              inside p
              ∙ ap (both_or_one R.plus (before l j)) (sym (more j ∙ ap (λ b. both_or_one R.plus (scaled_at R factor cells j) (cond b (Some x) None)) q ∙ none_more (scaled_at R factor cells j)))
          go false b p q = (λ t. h t l j) ∙ ap (λ b. cond b (both_or_one R.plus (before l j) (scaled_at R factor cells j)) (before l j)) p
