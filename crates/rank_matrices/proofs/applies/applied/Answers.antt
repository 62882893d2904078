use Rattle.std.proofs.Common.{sym, ap, ◌∙◌}
use Rattle.tables.specs.Indices.{stands}
use Rattle.crs_matrix.specs.Matrices.{crs_table}
use Rattle.model_defs.specs.Operations.{completed, product}
use Rattle.rank_values.specs.Vectors.{global_table}
use Rattle.rank_values.proofs.Globals.{global-combined}
use Rattle.rank_matrices.proofs.SumsOn.{sums-grown}
use Rattle.rank_matrices.proofs.applies.applied.Goals as goal

pub returns-clause-map : goal.returns-clause-map
returns-clause-map g c = ap (λ v. v.map) c.update.ensures.values ∙ c.in_ok-sums.ensures.map ∙ sym c.requires.range

pub returns-clause-columns : goal.returns-clause-columns
returns-clause-columns g c = ap (λ v. v.columns) c.update.ensures.values ∙ c.in_ok-sums.ensures.columns ∙ sym c.requires.columns

pub returns-clause-cells : goal.returns-clause-cells
returns-clause-cells g c =
    let R = g.S.Scalar.semiring in
    let L = g.met.S.Scalar.laws in
    let a = c.args.a.now in
    let x = c.args.x.now in
    let y = c.args.y.now in
    let s = c.in_ok-sums.sums in
    λ n below.
    let p = product R n (crs_table a) (global_table x) in
    global-combined L c.args.beta c.args.alpha y s c.update.new.self (c.requires.range ∙ sym c.in_ok-sums.ensures.map) (ap (λ v. v.map) c.update.ensures.values) c.update.ensures.cells
    ∙ sums-grown L c.args.alpha c.args.beta p (global_table s) y c.map.ensures.is_vector
    (c.in_ok-sums.ensures.sums n below ∙ (λ t. completed R (λ i. stands i (sym c.requires.range t)) (sym c.requires.columns t) p))
