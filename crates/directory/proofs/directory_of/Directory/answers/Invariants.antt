use Rattle.std.proofs.Common.{◌≡◌, map, take}
use Rattle.directory.specs.Directories.{answer_for}
use Rattle.directory.proofs.directory_of.Directory.answers.Given as goal

abbrev pub invariant-loop-gid : goal.invariant-loop-gid
invariant-loop-gid l = l.answers.items ≡ map (answer_for l.self) (take l.gid-index l.gids)
