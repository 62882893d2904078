use Rattle.std.proofs.Common.{Ok, Err, sym}
use Rattle.crs_graph.proofs.Ascending.{searched_is, stands-at}
use Rattle.crs_graph.proofs.column_order.has_column.Goals as goal

pub returns-in-Ok : goal.returns-in-Ok
returns-in-Ok c = record { has = searched_is c.args.columns.now c.args.col (Ok c.in-Ok.field-0) c.requires.ascend c.in-Ok.ensures.position }

pub returns-in-Err : goal.returns-in-Err
returns-in-Err c = record { has = searched_is c.args.columns.now c.args.col (Err c.in-Err.field-0) c.requires.ascend c.in-Err.ensures.position }

pub returns-then-columns-place : goal.returns-then-columns-place
returns-then-columns-place c = record { has = sym (stands-at c.args.columns.now c.args.col c.args.place c.if-place-columns.true c.if-columns-place.true) }
