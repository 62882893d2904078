use Rattle.std.proofs.Common.{ℕ, List, [], ◌∷◌, ◌++◌, ap, sym, ◌∙◌}
use Rattle.std.specs.List.{flat_map}
use Rattle.model_defs.specs.Given.{origin_files}
use Rattle.run_input.proofs.Copies.{names-in_order}
use Rattle.run_input.proofs.names.copied_names.Goals as goal

pub returns : goal.returns
returns c =
    let job = c.args.job.now in
    c.in_ok-push_matrices.ensures
    ∙ ap (λ (ns : List (List ℕ)). ns ++ flat_map (λ spec. spec.file ∷ []) job.matrices) c.in_ok-push_parts.ensures
    ∙ ap (λ (ns : List (List ℕ)). ns ++ flat_map (λ spec. origin_files spec.from) job.parts ++ flat_map (λ spec. spec.file ∷ []) job.matrices) c.in_ok-push_vectors.ensures
    ∙ ap (λ (ns : List (List ℕ)). ns ++ flat_map (λ spec. origin_files spec.from) job.vectors ++ flat_map (λ spec. origin_files spec.from) job.parts ++ flat_map (λ spec. spec.file ∷ []) job.matrices) c.new-names.ensures.items
    ∙ sym (names-in_order job)
