use Rattle.std.proofs.Common.{map, filter, length, ap, ◌∙◌}
use Rattle.model_defs.specs.Makers.{GivenVector, GivenParts, GivenMatrix, Made, gives_value}
use Rattle.model_defs.specs.ShapeLists.{at_list, shapes_from}
use Rattle.model_defs.proofs.ShapeLists.{four-lists, shapes-are}
use Rattle.model_defs.proofs.shape_list.shapes.Goals as goal

pub returns-clause-shapes : goal.returns-clause-shapes
returns-clause-shapes c =
    let vectors = c.in_ok-add_vectors.ensures ∙ (λ i. shapes_from (c.new-shapes.ensures.items i) (map GivenVector (c.as_slice.ensures.items i))) in
    let parts = c.in_ok-add_parts.ensures ∙ (λ i. shapes_from (vectors i) (map GivenParts (c.as_slice-2.ensures.items i))) in
    let matrices = c.in_ok-add_matrices.ensures ∙ (λ i. shapes_from (parts i) (map GivenMatrix (c.as_slice-3.ensures.items i))) in
    let all = c.in_ok-add_steps.ensures ∙ (λ i. shapes_from (matrices i) (map Made (filter gives_value (c.as_slice-4.ensures.items i)))) ∙ four-lists c.args.job.now in
    ap at_list all ∙ (shapes-are c.args.job.now).0

pub returns-clause-count : goal.returns-clause-count
returns-clause-count c =
    let vectors = c.in_ok-add_vectors.ensures ∙ (λ i. shapes_from (c.new-shapes.ensures.items i) (map GivenVector (c.as_slice.ensures.items i))) in
    let parts = c.in_ok-add_parts.ensures ∙ (λ i. shapes_from (vectors i) (map GivenParts (c.as_slice-2.ensures.items i))) in
    let matrices = c.in_ok-add_matrices.ensures ∙ (λ i. shapes_from (parts i) (map GivenMatrix (c.as_slice-3.ensures.items i))) in
    let all = c.in_ok-add_steps.ensures ∙ (λ i. shapes_from (matrices i) (map Made (filter gives_value (c.as_slice-4.ensures.items i)))) ∙ four-lists c.args.job.now in
    ap length all ∙ (shapes-are c.args.job.now).1
