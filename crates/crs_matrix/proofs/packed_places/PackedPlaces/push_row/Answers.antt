use Rattle.std.proofs.Common.{not, cond, ap, ◌∙◌, ◌++◌, ◌∷◌, []}
use Rattle.crs_graph.proofs.Packed.{pushed}
use Rattle.crs_matrix.proofs.packed_places.PackedPlaces.push_row.Goals as goal

pub invariant_of-self-else-is_err : goal.invariant_of-self-else-is_err
invariant_of-self-else-is_err c =
    let os = c.self.inside.offsets.items in
    let long = c.len.ensures ∙ c.extend_from_slice.new.self.ok.0 in
    let ok = c.is_err.ensures.negation ∙ ap not c.if-is_err.false in
    (pushed os c.self.inside.places.items c.args.row.now _ _ c.len.result c.self.invariant c.in_ok-extend_from_slice.ensures.items long
    (c.push.ensures.items ∙ ap (λ b. cond b (os ++ c.len.result ∷ []) os) ok)).packed

pub returns : goal.returns
returns c =
    let os = c.self.inside.offsets.items in
    let long = c.len.ensures ∙ c.extend_from_slice.new.self.ok.0 in
    let ok = c.is_err.ensures.negation ∙ ap not c.if-is_err.false in
    record {
      row = (pushed os c.self.inside.places.items c.args.row.now _ _ c.len.result c.self.invariant c.in_ok-extend_from_slice.ensures.items long
          (c.push.ensures.items ∙ ap (λ b. cond b (os ++ c.len.result ∷ []) os) ok)).rows
          ∙ ap (λ rows. rows ++ c.args.row.now ∷ []) c.self.view_is;
    }
