use Rattle.std.proofs.Common.{◌≡◌, ◌++◌, take}
use Rattle.std.specs.List.{flat_map}
use Rattle.model_defs.specs.Makers.{GivenMatrix}
use Rattle.job_files.specs.Wanted.{seen, wanted_by}
use Rattle.job_files.proofs.wanted.push_matrices.Given as goal

abbrev pub invariant-loop-spec : goal.invariant-loop-spec
invariant-loop-spec l =
    seen l.wanted.items ≡ seen l.initial.wanted.items ++ flat_map (λ spec. wanted_by l.job (GivenMatrix spec)) (take l.spec-index l.spec-items)
