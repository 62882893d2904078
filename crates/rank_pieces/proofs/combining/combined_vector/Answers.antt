use Rattle.std.proofs.Common.{true, ap, ◌∙◌}
use Rattle.combine_modes.specs.Modes.{after_one}
use Rattle.multivector.specs.Vectors.{vector_table}
use Rattle.rank_pieces.proofs.Combined.{global-combined}
use Rattle.rank_pieces.proofs.combining.combined_vector.Goals as goal

pub returns-clause-cells : goal.returns-clause-cells
returns-clause-cells g c =
    let R = g.S.Scalar.semiring in
    let same = c.in_ok-combined.ensures.same in
    global-combined R c.args.mode c.args.x.now c.args.y.now c.combine_cells.new.y c.requires.map (c.combine_cells.ensures.shape.0 ∙ ap (λ v. v.map) same)
    (λ i j. c.combine_cells.ensures.cells i j ∙ ap (λ v. after_one R c.args.mode true (vector_table v i j) (vector_table c.args.x.now i j)) same)
