use Rattle.multivector.specs.Vectors.{HasSameShape, vector_table}
use Rattle.rank_pieces.proofs.Combined.{IsRowSoFar}
use Rattle.rank_pieces.proofs.combining.combine_row.Given as goal

abbrev pub invariant-loop-col : goal.invariant-loop-col
invariant-loop-col g l =
    record {
      shape : HasSameShape l.initial.y l.y;
      so_far : IsRowSoFar g.S.Scalar.semiring l.mode (vector_table l.initial.y) (vector_table l.x) l.lid l.col (vector_table l.y);
    }
