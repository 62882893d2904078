use Rattle.std.proofs.Common.{◌≡◌, ◌++◌, map, take}
use Rattle.job_files.specs.Wanted.{seen, wanted_as}
use Rattle.job_files.proofs.wanted.push_names.Given as goal

abbrev pub invariant-loop-name : goal.invariant-loop-name
invariant-loop-name l =
    seen l.wanted.items ≡ seen l.initial.wanted.items ++ map (wanted_as l.kind) (take l.name-index l.name-items)
