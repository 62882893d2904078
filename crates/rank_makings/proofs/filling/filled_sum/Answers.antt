use Rattle.std.proofs.Common.{◌≡◌, to_z, of_z, w64, ap, ◌∙◌, rules}
use Rattle.model_defs.specs.FileMatrix.{number_of}
use Rattle.rank_makings.proofs.Completed.{if-both}
use Rattle.rank_makings.proofs.Filled.{sum-filled, summand-rows, summand-there}
use Rattle.rank_makings.proofs.filling.filled_sum.Goals as goal

pub matrix_at-requires : goal.matrix_at-requires
matrix_at-requires g c = record { matrix = summand-there c.requires.can.1.1.1.1.1 c.requires.kind (c.summands_of-said.ensures.said c.requires.kind) }

pub local_add-requires : goal.local_add-requires
local_add-requires g c = record { same_rows = summand-rows c.requires.can.1.1.1.1.1 c.requires.kind (c.summands_of-said.ensures.said c.requires.kind) c.matrix_at.ensures.at }

pub returns : goal.returns
returns g c =
    let number = number_of g.S.Scalar.semiring g.S.Scalar.conversions in
    let alpha : to_z w64 (of_z w64 c.summands_of-said.result.alpha) ≡ c.summands_of-said.result.alpha = search rules in
    let beta : to_z w64 (of_z w64 c.summands_of-said.result.beta) ≡ c.summands_of-said.result.beta = search rules in
    record {
      filled = if-both c.local_add.result c.local_add.ensures.rows c.local_add.ensures.sum (λ fill rows table. λ files me share shapes given can.
          sum-filled can c.requires.kind (c.summands_of-said.ensures.said c.requires.kind) c.matrix_at.ensures.at _ _ (c.factor-alpha.ensures.number ∙ ap number alpha)
          (c.factor-beta.ensures.number ∙ ap number beta) fill rows table);
    }
