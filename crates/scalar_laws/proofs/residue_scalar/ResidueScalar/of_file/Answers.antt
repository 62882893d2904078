use Rattle.std.proofs.Common.{◌≡◌, ◌%◌, ◌<◌, ◌^◌, ◌∙◌, ap, pos, arith, rules, unsigned_abs, to_z, of_z, FitsSigned, Some}
use Rattle.std.proofs.lemmas.Int.{to_z-of_z, to_z_pos}
use Rattle.std.specs.Int.{int_rem_euclid}
use mir.Syntax.{w128}
use Rattle.scalar_laws.specs.ResidueLaws.{same_residue}
use Rattle.scalar_laws.proofs.residue_scalar.ResidueScalar.of_file.Goals as goal

pub returns : goal.returns
returns g c =
    let m = g.M.Modulus.VALUE in
    let fits : FitsSigned w128 c.rem_euclid.result = search rules in
    let result : to_z w128 (of_z w128 c.rem_euclid.result) ≡ c.rem_euclid.result = to_z-of_z w128 c.rem_euclid.result fits in
    let value : to_z w128 (of_z w128 c.args.value) ≡ c.args.value = to_z-of_z w128 c.args.value c.ranges.value in
    let below : m < 2 ^ 127 = omega (arith, g.M.Modulus.at_most) in
    let modulus : to_z w128 c.VALUE.result ≡ pos m = ap (to_z w128) c.VALUE.ensures ∙ to_z_pos w128 m below in
    let number : unsigned_abs (to_z w128 (of_z w128 c.rem_euclid.result)) ≡ unsigned_abs (int_rem_euclid c.args.value (pos m)) =
    ap unsigned_abs (result ∙ c.rem_euclid.ensures.value ∙ (λ i. int_rem_euclid (value i) (modulus i))) in
    ap Some (same_residue _ _ (c.new.ensures ∙ ap (λ n. n % m) number))
