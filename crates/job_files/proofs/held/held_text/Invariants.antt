use Rattle.std.proofs.Common.{◌≡◌, drop}
use Rattle.job_files.specs.Held.{held_text}
use Rattle.job_files.proofs.held.held_text.Given as goal

abbrev pub invariant-loop-h : goal.invariant-loop-h
invariant-loop-h l = held_text l.held l.name ≡ held_text (drop l.h-index l.held) l.name
