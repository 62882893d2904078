use Rattle.std.proofs.Common.{map, ap, ◌∙◌}
use Rattle.rank_plans.specs.Answers.{known_at, owner_by}
use Rattle.rank_plans.specs.Tasks.{Task}
use Rattle.rank_plans.proofs.task.PlanTask.owners_of.Goals as goal

pub returns : goal.returns
returns c =
    let me = c.args.me in
    let own = c.args.own.now in
    let gids = c.args.gids.now in
    record {
      owners = c.in_ok-owners.ensures.owners
          ∙ (λ i. map (owner_by me own (known_at (c.deref.ensures.value i) (c.deref-2.ensures.value i))) gids)
          ∙ ap {A = Task} (λ t. map (owner_by me own (known_at t.lacking t.owners)) gids) c.self.view_is;
    }
