use Rattle.std.proofs.Common.{◌≡◌, to_z, of_z, w64, ap, ◌∙◌, rules}
use Rattle.model_defs.specs.FileMatrix.{number_of}
use Rattle.rank_makings.proofs.ApplyAnswers.{addend-named, matrix-named, shape-listed}
use Rattle.rank_makings.proofs.ApplyMade.{addend-piece, addend-zeros, apply-made, came-columns, copies-lists, if-four, sums-lists}
use Rattle.rank_makings.proofs.applying.finished_apply.Goals as goal

pub matrix_at-m-requires : goal.matrix_at-m-requires
matrix_at-m-requires g c = record { matrix = matrix-named c.requires.can.1.1.1.at c.requires.kind (c.operands_of-said.ensures.said c.requires.kind) }

pub vector_at-y-requires : goal.vector_at-y-requires
vector_at-y-requires g c = record { vector = addend-named c.requires.can.1.1.1.at c.requires.kind (c.operands_of-said.ensures.said c.requires.kind) c.in-Some.value c.in-Some.is }

pub grown_sums-requires : goal.grown_sums-requires
grown_sums-requires g c =
    let said = c.operands_of-said.ensures.said c.requires.kind in
    let can = c.requires.can.1.1.1 in
    let is = addend-piece can c.requires.kind said c.matrix_at-m.ensures.at c.in-Some.value c.in-Some.is c.vector_at-y.result.now c.vector_at-y.ensures.at in
    record {
      copies = copies-lists can c.requires.kind said c.matrix_at-m.ensures.at is;
      sums = sums-lists can c.requires.kind said c.matrix_at-m.ensures.at is;
      columns = came-columns can c.requires.kind said c.matrix_at-m.ensures.at is;
    }

pub returns-in-Some : goal.returns-in-Some
returns-in-Some g c =
    let said = c.operands_of-said.ensures.said c.requires.kind in
    let alpha : to_z w64 (of_z w64 c.operands_of-said.result.alpha) ≡ c.operands_of-said.result.alpha = search rules in
    let beta : to_z w64 (of_z w64 c.operands_of-said.result.beta) ≡ c.operands_of-said.result.beta = search rules in
    let grown = c.grown_sums.ensures in
    record {
      piece = if-four c.grown_sums.result grown.map grown.columns grown.copies grown.sums (λ v map columns copies sums files given share can.
          apply-made can c.requires.kind said c.matrix_at-m.ensures.at
          (addend-piece can c.requires.kind said c.matrix_at-m.ensures.at c.in-Some.value c.in-Some.is c.vector_at-y.result.now c.vector_at-y.ensures.at)
          c.factor-alpha.result c.factor-beta.result (c.factor-alpha.ensures.number ∙ ap (number_of g.S.Scalar.semiring g.S.Scalar.conversions) alpha) (c.factor-beta.ensures.number ∙ ap (number_of g.S.Scalar.semiring g.S.Scalar.conversions) beta) grown.came_is grown.y_is v map columns copies sums);
    }

pub bounds-shapes-k : goal.bounds-shapes-k
bounds-shapes-k g c = shape-listed c.requires.can.1.1.1.at c.args.k c.requires.kind.below

pub bounds-shapes-k-in-None : goal.bounds-shapes-k-in-None
bounds-shapes-k-in-None g c = shape-listed c.requires.can.1.1.1.at c.args.k c.requires.kind.below

pub grown_sums-requires-in-None : goal.grown_sums-requires-in-None
grown_sums-requires-in-None g c =
    let said = c.operands_of-said.ensures.said c.requires.kind in
    let can = c.requires.can.1.1.1 in
    let zeros = c.in_ok-zeros-in-None.ensures in
    let is = addend-zeros can c.requires.kind said c.matrix_at-m.ensures.at c.in-None.is _ _ _ c.in_ok-rows-in-None.ensures.list c.in_ok-zeros-in-None.zeros zeros.map zeros.columns zeros.cells in
    record {
      copies = copies-lists can c.requires.kind said c.matrix_at-m.ensures.at is;
      sums = sums-lists can c.requires.kind said c.matrix_at-m.ensures.at is;
      columns = came-columns can c.requires.kind said c.matrix_at-m.ensures.at is;
    }

pub returns-in_ok-zeros-in-None : goal.returns-in_ok-zeros-in-None
returns-in_ok-zeros-in-None g c =
    let said = c.operands_of-said.ensures.said c.requires.kind in
    let alpha : to_z w64 (of_z w64 c.operands_of-said.result.alpha) ≡ c.operands_of-said.result.alpha = search rules in
    let beta : to_z w64 (of_z w64 c.operands_of-said.result.beta) ≡ c.operands_of-said.result.beta = search rules in
    let grown = c.grown_sums-in-None.ensures in
    let zeros = c.in_ok-zeros-in-None.ensures in
    record {
      piece = if-four c.grown_sums-in-None.result grown.map grown.columns grown.copies grown.sums (λ v map columns copies sums files given share can.
          apply-made can c.requires.kind said c.matrix_at-m.ensures.at
          (addend-zeros can c.requires.kind said c.matrix_at-m.ensures.at c.in-None.is _ _ _ c.in_ok-rows-in-None.ensures.list c.in_ok-zeros-in-None.zeros zeros.map zeros.columns zeros.cells)
          c.factor-alpha.result c.factor-beta.result (c.factor-alpha.ensures.number ∙ ap (number_of g.S.Scalar.semiring g.S.Scalar.conversions) alpha) (c.factor-beta.ensures.number ∙ ap (number_of g.S.Scalar.semiring g.S.Scalar.conversions) beta) grown.came_is grown.y_is v map columns copies sums);
    }
