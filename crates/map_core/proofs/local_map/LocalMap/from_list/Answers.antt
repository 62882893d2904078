use Rattle.std.proofs.Common.{◌≡◌, true, nat_eq, slice_index_or, subst, sym, ap, ◌∙◌, arith}
use Rattle.std.specs.List.{list_any}
use Rattle.std.proofs.lemmas.List.{take_all}
use Rattle.std.proofs.lemmas.Option.{slice_get-get_or}
use Rattle.map_core.specs.Layouts.{stands, AreDistinct}
use Rattle.map_core.proofs.Members.{stands-list_any, AreDistinct-from_set}
use Rattle.map_core.proofs.local_map.LocalMap.from_list.Goals as goal

pub returns-then-not-branch-clause-refused : goal.returns-then-not-branch-clause-refused
returns-then-not-branch-clause-refused c =
    let gid = slice_index_or c.args.gids.now c.loop-gid.gid-index 0 in
    let known : list_any (nat_eq gid) c.loop-gid.set.keys ≡ true = grind (arith, c.in_ok-insert.ensures.added, c.if-not-branch.true) in
    let there : stands gid c.loop-gid.set.keys ≡ true = sym (stands-list_any gid c.loop-gid.set.keys) ∙ known in
    record {
      place = c.loop-gid.gid-index;
      at = slice_get-get_or c.args.gids.now c.loop-gid.gid-index 0 c.loop-gid-test.true;
      earlier = sym (ap (stands gid) c.loop-gid.invariant.kept) ∙ there;
      first = subst AreDistinct c.loop-gid.invariant.kept (AreDistinct-from_set c.loop-gid.set.keys c.loop-gid.invariant.unique);
    }

pub returns-clause-distinct : goal.returns-clause-distinct
returns-clause-distinct c =
    subst AreDistinct (c.loop-gid.invariant.kept ∙ take_all c.loop-gid.gid-index c.args.gids.now c.loop-gid-test.false) (AreDistinct-from_set c.loop-gid.set.keys c.loop-gid.invariant.unique)
