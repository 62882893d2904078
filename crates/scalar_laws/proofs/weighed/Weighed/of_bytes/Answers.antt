use Rattle.std.proofs.Common.{◌≡◌, ◌∙◌, ap, to_z, of_z, take, drop, FitsSigned, rules}
use Rattle.std.proofs.lemmas.Int.{to_z-of_z}
use mir.Syntax.{w128}
use Rattle.std.specs.Int.{from_le_bytes}
use Rattle.scalar_laws.specs.Number.{new_number}
use Rattle.scalar_laws.proofs.weighed.Weighed.of_bytes.Goals as goal

pub returns : goal.returns
returns c =
    let fits : FitsSigned w128 c.from_le_bytes.result = search rules in
    let value : to_z w128 (of_z w128 c.from_le_bytes.result) ≡ to_z w128 (from_le_bytes w128 (take 16 c.args.bytes)) =
    to_z-of_z w128 c.from_le_bytes.result fits ∙ c.from_le_bytes.ensures ∙ ap (λ b. to_z w128 (from_le_bytes w128 b)) c.copy_from_slice.ensures.after in
    let weight : c.from_le_bytes-2.result ≡ from_le_bytes w128 (take 16 (drop 16 c.args.bytes)) =
    c.from_le_bytes-2.ensures ∙ ap (from_le_bytes w128) c.copy_from_slice-2.ensures.after in
    c.new.ensures ∙ (λ i. new_number (value i) (weight i))
