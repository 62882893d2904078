-- Cells of which each stands before the next one.
use Rattle.std.proofs.Common.{◌≡◌, ℕ, ◌+◌, ◌-◌, ◌<◌, ◌≤◌, true, List, [], ◌∷◌, ◌++◌, length, get_or, take, refl, sym, ap, ◌∙◌, subst, arith, Result, Ok, Err, IfOk}
use Rattle.std.specs.Global.{Vec}
use Rattle.std.specs.List.{list_all}
use Rattle.std.proofs.lemmas.List.{take_more}
use Rattle.distributor.proofs.Combined.{take_whole}
use Rattle.scalar_laws.specs.Semiring.{Semiring}
use Rattle.tables.specs.declared.Cell.{Cell}
use Rattle.tables.specs.Tables.{Table, AreInOrder, found, stands_before, table_of}
use Rattle.tables.proofs.Cells.{table_of-found}
use Rattle.tables.proofs.Edits.{AreInOrder-push}
use Rattle.gathered_rows.proofs.Sorted.{all_before}

module _ {S : Type 0} where
  -- the first cell alone
  pub first-alone : (cells : List (Cell S)) → AreInOrder (take 1 cells)
  first-alone [] = tt
  first-alone (c ∷ cs) = (refl, tt)

  -- one more cell
  pub next-in_order : (cells : List (Cell S)) (at : ℕ) (c d : Cell S) → 1 ≤ at → at < length cells → c ≡ get_or cells (at - 1) c → d ≡ get_or cells at d
      → AreInOrder (take at cells) → stands_before c d ≡ true → AreInOrder (take (at + 1) cells)
  next-in_order cells at c d some low is_c is_d o before =
      subst AreInOrder (sym now) (AreInOrder-push (take at cells) d o all)
    where
      front : List (Cell S)
      front = take (at - 1) cells

      last : take at cells ≡ front ++ c ∷ []
      last = ap (λ n. take n cells) (one-more at some) ∙ take_more cells (at - 1) c (omega arith) ∙ ap (λ x. front ++ x ∷ []) (sym is_c)
        where
          one-more : (n : ℕ) → 1 ≤ n → n ≡ (n - 1) + 1
          one-more n h = omega arith

      now : take (at + 1) cells ≡ take at cells ++ d ∷ []
      now = take_more cells at d low ∙ ap (λ x. take at cells ++ x ∷ []) (sym is_d)

      all : list_all (λ x. stands_before x d) (take at cells) ≡ true
      all = subst (λ xs. list_all (λ x. stands_before x d) xs ≡ true) (sym last) (all_before front c d (subst AreInOrder last o) before)

  -- all of them
  pub all-in_order : (cells : List (Cell S)) (at : ℕ) → length cells ≤ at → AreInOrder (take at cells) → AreInOrder cells
  all-in_order cells at high o = subst AreInOrder (take_whole cells at high) o

  -- cells in order are found as they are summed
  pub found-summed : (R : Semiring S) (cells : List (Cell S)) → AreInOrder cells → found cells ≡ table_of R cells
  found-summed R cells o = sym (table_of-found R cells o)
