use Rattle.std.proofs.Common.{◌||◌, ◌==◌, take, slice_index_or, sym, ap, ◌∙◌}
use Rattle.map_core.specs.Layouts.{stands}
use Rattle.map_core.proofs.Members.{or_assoc, or_false, stands-insert, stands-take_more}
use Rattle.map_core.proofs.lists.add_list.Goals as goal

pub loop-gid-init : goal.loop-gid-init
loop-gid-init c = record { members = λ g. sym (or_false (stands g c.args.all.now.keys)); unique = c.requires.unique }

pub loop-gid-preserved : goal.loop-gid-preserved
loop-gid-preserved c =
    let i = c.loop-gid.gid-index in
    let list = c.args.list.now in
    let x = slice_index_or list i 0 in
    let old = c.args.all.now.keys in
    record {
      members = λ g.
          ap (stands g) c.in_ok-insert.ensures.keys
          ∙ stands-insert g c.loop-gid.all.keys x
          ∙ ap (λ b. b || (x == g)) (c.loop-gid.invariant.members g)
          ∙ sym (or_assoc (stands g old) (stands g (take i list)) (x == g))
          ∙ ap (λ b. stands g old || b) (sym (stands-take_more g list i c.loop-gid-test.true));
      unique = c.in_ok-insert.ensures.unique;
    }
