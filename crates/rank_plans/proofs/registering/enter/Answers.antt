use Rattle.std.proofs.Common.{subst}
use Rattle.directory.specs.Directories.{owner_of}
use Rattle.directory.specs.Faults.{IsDirFaultOf}
use Rattle.rank_plans.proofs.Fresh.{never-twice}
use Rattle.rank_plans.proofs.registering.enter.Goals as goal

pub unreachable-requires : goal.unreachable-requires
unreachable-requires c =
    never-twice (owner_of c.args.directory.now) c.args.words.now c.in-Err-Twice.field-0-0 c.requires.new
    (subst (IsDirFaultOf (owner_of c.args.directory.now) c.args.words.now) c.in-Err-Twice.field-0-is c.in-Err-Twice.ensures.refused)
