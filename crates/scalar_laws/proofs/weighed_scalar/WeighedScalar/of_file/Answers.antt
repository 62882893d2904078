use Rattle.std.proofs.Common.{◌≡◌, ◌≤◌, ◌∙◌, arith, unsigned_abs}
use Rattle.std.proofs.lemmas.Int.{ints, to_z-of_z}
use mir.Syntax.{w128}
use Rattle.scalar_laws.specs.Number.{max_weight, new_number}
use Rattle.scalar_laws.specs.WeighedLaws.{stored_some}
use Rattle.scalar_laws.proofs.weighed_scalar.WeighedScalar.of_file.Goals as goal

pub returns-else-value-eqminus170141183460469231731687303715884105728 :
    goal.returns-else-value-eqminus170141183460469231731687303715884105728
returns-else-value-eqminus170141183460469231731687303715884105728 c =
    let back = to_z-of_z w128 c.args.value c.ranges.value in
    let low : unsigned_abs c.args.value ≤ max_weight = omega (arith, ints) in
    let weight : c.unsigned_abs.result ≡ unsigned_abs c.args.value = c.unsigned_abs.ensures.value ∙ (λ i. unsigned_abs (back i)) in
    stored_some c.new.result c.args.value low (c.new.ensures ∙ (λ i. new_number (back i) (weight i)))
