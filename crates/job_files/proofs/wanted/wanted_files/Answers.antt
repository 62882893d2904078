use Rattle.std.proofs.Common.{◌∙◌, ◌++◌, ap, sym, List}
use Rattle.std.specs.List.{flat_map}
use Rattle.model_defs.specs.Makers.{GivenMatrix, GivenParts, GivenVector}
use Rattle.job_files.specs.Wanted.{Wanted, seen, wanted_by}
use Rattle.job_files.proofs.Wanting.{wanted-in_order}
use Rattle.job_files.proofs.wanted.wanted_files.Goals as goal

pub returns : goal.returns
returns c =
    let job = c.args.job.now in
    c.in_ok-push_matrices.ensures
    ∙ ap (λ (ws : List Wanted). ws ++ flat_map (λ spec. wanted_by job (GivenMatrix spec)) job.matrices) c.in_ok-push_parts.ensures
    ∙ ap (λ (ws : List Wanted). ws ++ flat_map (λ spec. wanted_by job (GivenParts spec)) job.parts ++ flat_map (λ spec. wanted_by job (GivenMatrix spec)) job.matrices) c.in_ok-push_vectors.ensures
    ∙ ap (λ ws. seen ws ++ flat_map (λ spec. wanted_by job (GivenVector spec)) job.vectors ++ flat_map (λ spec. wanted_by job (GivenParts spec)) job.parts ++ flat_map (λ spec. wanted_by job (GivenMatrix spec)) job.matrices) c.new-wanted.ensures.items
    ∙ sym (wanted-in_order job)
