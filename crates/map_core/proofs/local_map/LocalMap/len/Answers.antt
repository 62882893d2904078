use Rattle.std.proofs.Common.{◌≡◌, subst, sym, ap, ◌∙◌}
use Rattle.map_core.specs.Layouts.{AreDistinct}
use Rattle.map_core.specs.Kept.{kept_list}
use Rattle.map_core.proofs.Members.{AreDistinct-from_set}
use Rattle.map_core.proofs.local_map.LocalMap.len.Goals as goal

pub returns-in-Listed-clause-distinct : goal.returns-in-Listed-clause-distinct
returns-in-Listed-clause-distinct c =
    let list : c.in-Listed.gids.keys ≡ c.args.self.now = sym (ap kept_list c.in-Listed.is) ∙ c.self.view_is in
    subst AreDistinct list (AreDistinct-from_set c.in-Listed.gids.keys c.len.ensures.unique)
