use Rattle.std.proofs.Common.{refl}
use Rattle.rank_makings.proofs.CopiedCells.{cells-begun, may-begin, onto-there}
use Rattle.rank_makings.proofs.copies.begin_cells.Goals as goal

pub onto_vector-requires-clause-before : goal.onto_vector-requires-clause-before
onto_vector-requires-clause-before g c = onto-there c.requires.copying.1.1.1.1 c.requires.piece

pub begin-requires : goal.begin-requires
begin-requires g c =
    let may = may-begin c.requires.copying.1.1.1.1 c.requires.piece c.in_ok-onto.ensures.zeros c.in_ok-onto.ensures.piece in
    record {
      columns = may.columns;
      some_column = may.some_column;
      columns_limit = may.few_columns;
      few_rows = may.few_rows;
      own = may.own;
      targets = may.targets;
    }

pub returns : goal.returns
returns g c = record {
  begun = λ files given k stage is.
      let begun = c.in_ok-arriving.ensures in
      cells-begun is c.requires.piece c.in_ok-onto.ensures.zeros c.in_ok-onto.ensures.piece c.mode_of.result c.mode_of.ensures.mode _ refl begun.plan begun.mode begun.shape begun.rows;
}
