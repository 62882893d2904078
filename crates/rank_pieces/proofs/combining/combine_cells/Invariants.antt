use Rattle.multivector.specs.Vectors.{HasSameShape, vector_table}
use Rattle.rank_pieces.proofs.Combined.{AreRowsSoFar}
use Rattle.rank_pieces.proofs.combining.combine_cells.Given as goal

abbrev pub invariant-loop-lid : goal.invariant-loop-lid
invariant-loop-lid g l =
    record {
      shape : HasSameShape l.initial.y l.y;
      so_far : AreRowsSoFar g.S.Scalar.semiring l.mode (vector_table l.initial.y) (vector_table l.x) l.lid (vector_table l.y);
    }
