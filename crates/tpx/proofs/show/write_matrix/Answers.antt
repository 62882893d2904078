use Rattle.std.proofs.Common.{sym, subst, List}
use Rattle.scalar_laws.specs.Weighed.{weighed_conversions}
use Rattle.mm_text.specs.declared.shown.Shown.{Shown}
use Rattle.mm_text.specs.Written.{ArePlacesWithin, ArePlacesInOrder}
use Rattle.tpx.proofs.PrintedCells.{printed_in_order, printed_within}
use Rattle.tpx.proofs.show.write_matrix.Goals as goal

pub write_coordinate-requires-clause-within : goal.write_coordinate-requires-clause-within
write_coordinate-requires-clause-within g c =
    subst (λ (cells : List Shown). ArePlacesWithin c.args.file.now.rows c.args.file.now.cols cells) (sym c.requires) (printed_within weighed_conversions c.args.file.now.rows c.args.file.now.cols _)

pub write_coordinate-requires-clause-in_order : goal.write_coordinate-requires-clause-in_order
write_coordinate-requires-clause-in_order g c =
    subst (λ (cells : List Shown). ArePlacesInOrder cells) (sym c.requires) (printed_in_order weighed_conversions c.args.file.now.rows c.args.file.now.cols _)
