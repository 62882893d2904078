-- Cells in one block.
use Rattle.std.proofs.Common.{◌≡◌, true, List, [], ◌∷◌, refl, sym, ap, ◌∙◌, append-nil, Result, Ok, Err, IfOk}
use Rattle.std.specs.Global.{Vec}
use Rattle.std.specs.List.{list_all}
use Rattle.std.specs.Prelude.{nat_lt}
use Rattle.scalar_laws.specs.Semiring.{Semiring}
use Rattle.tables.specs.declared.Cell.{Cell}
use Rattle.tables.specs.Tables.{found, table_of}
use Rattle.tables.proofs.Cells.{table_of-found}
use Rattle.gathered_rows.specs.Blocks.{AreAscending, cells_in}
use Rattle.gathered_rows.specs.Sorting.{AreSums}

nothing-after : {S : Type 0} (cells : List (Cell S)) → list_all (λ c. list_all (λ d. nat_lt c.row d.row) (let none : List (Cell S) = [] in none)) cells ≡ true
nothing-after [] = refl
nothing-after (c ∷ cs) = nothing-after cs

-- one block has no later one
pub alone : {S : Type 0} (block : Vec (Cell S)) → AreAscending (block ∷ [])
alone block = (nothing-after block.items, tt)

-- the sums of one block are found
pub sums-found : {S E : Type 0} (R : Semiring S) (blocks : List (Vec (Cell S))) (cells : Vec (Cell S)) (r : Result (Vec (Cell S)) E) → blocks ≡ cells ∷ []
    → IfOk r (λ sums. AreSums R (cells_in blocks) sums.items) → IfOk r (λ sorted. found sorted.items ≡ table_of R cells.items)
sums-found R blocks cells (Ok v) one e = sym (table_of-found R v.items e.in_order) ∙ e.matrix ∙ ap (λ bs. table_of R (cells_in bs)) one ∙ ap (table_of R) (append-nil cells.items)
sums-found R blocks cells (Err x) one e = tt
