use Rattle.std.proofs.Common.{◌≡◌, ap, ◌∙◌, false, true}
use Rattle.std.specs.Prelude.{is_some}
use Rattle.crs_matrix.proofs.Kept.{after_one-there}
use Rattle.crs_matrix.proofs.places.changed.Goals as goal

pub returns-in-None : goal.returns-in-None
returns-in-None g c =
    let there = after_one-there g.S.Scalar.semiring c.args.mode c.args.old c.args.value in
    let bad : false ≡ true = ap is_some c.in-None.ensures.place ∙ there in
    absurd (cc)
