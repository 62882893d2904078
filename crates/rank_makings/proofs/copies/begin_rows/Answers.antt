use Rattle.std.proofs.Common.{refl}
use Rattle.rank_makings.proofs.CopiedRows.{copied-rows-begun, own-rows-move, rows-have-targets}
use Rattle.rank_makings.proofs.copies.begin_rows.Goals as goal

pub begin-requires-clause-own : goal.begin-requires-clause-own
begin-requires-clause-own g c = own-rows-move c.requires.copying.1.1.1.1 c.requires.piece c.in_ok-rows.ensures.list c.matrix_is_source.ensures.same c.in_ok-empty.ensures.empty

pub begin-requires-clause-targets : goal.begin-requires-clause-targets
begin-requires-clause-targets g c = rows-have-targets c.requires.copying.1.1.1.1 c.requires.piece c.in_ok-rows.ensures.list c.matrix_is_source.ensures.same c.in_ok-empty.ensures.empty

pub returns : goal.returns
returns g c = record {
  begun = λ files given k stage is.
      let begun = c.in_ok-arriving.ensures in
      copied-rows-begun is c.requires.piece c.in_ok-rows.ensures.list c.matrix_is_source.ensures.same c.in_ok-empty.ensures.empty c.matrix_is_source.ensures.table _ refl
      begun.plan begun.mode begun.rows begun.table;
}
