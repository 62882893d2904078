use Rattle.std.proofs.Common.{◌≡◌, sym, ap, ◌∙◌}
use Rattle.map_core.specs.Layouts.{stands}
use Rattle.map_core.specs.Kept.{kept_list}
use Rattle.map_core.proofs.Members.{stands-list_any}
use Rattle.map_core.proofs.local_map.LocalMap.local_of.Goals as goal

pub returns-in-Listed-clause-found : goal.returns-in-Listed-clause-found
returns-in-Listed-clause-found c =
    let list : c.in-Listed.gids.keys ≡ c.args.self.now = sym (ap kept_list c.in-Listed.is) ∙ c.self.view_is in
    c.map.ensures.variant
    ∙ c.get_index_of.ensures.found
    ∙ stands-list_any c.args.gid c.in-Listed.gids.keys
    ∙ ap (stands c.args.gid) list
