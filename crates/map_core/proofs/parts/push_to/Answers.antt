use Rattle.map_core.proofs.Parting.{lists_of-push}
use Rattle.map_core.proofs.parts.push_to.Goals as goal

pub returns : goal.returns
returns g c = record { pushed = lists_of-push c.args.lists.now c.args.rank c.index-lists-rank.result c.push.new.self c.args.item c.requires.known c.in_ok-push.ensures.items }
