use Rattle.std.proofs.Common.{◌≡◌, ◌++◌, [], ◌∷◌, take}
use Rattle.std.specs.List.{flat_map}
use Rattle.run_input.proofs.names.push_matrices.Given as goal

abbrev pub invariant-loop-spec : goal.invariant-loop-spec
invariant-loop-spec l =
    l.names.items ≡ l.initial.names.items ++ flat_map (λ spec. spec.file ∷ []) (take l.spec-index l.spec-items)
