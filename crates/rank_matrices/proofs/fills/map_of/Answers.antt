use Rattle.std.proofs.Common.{subst}
use Rattle.map_core.specs.Faults.{IsFaultOf}
use Rattle.rank_share.proofs.Rising.{no_repeat}
use Rattle.rank_matrices.proofs.fills.map_of.Goals as goal

pub unreachable-requires : goal.unreachable-requires
unreachable-requires c =
    let repeat = subst (IsFaultOf c.args.gids.now) c.in-Err-Repeated.field-0-is c.in-Err-Repeated.ensures.refused in
    no_repeat c.args.gids.now repeat.place c.in-Err-Repeated.field-0-0 c.requires.distinct repeat.at repeat.earlier
