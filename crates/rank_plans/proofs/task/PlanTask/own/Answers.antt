use Rattle.std.proofs.Common.{ap, ◌∙◌}
use Rattle.rank_plans.specs.Answers.{owned_by}
use Rattle.rank_plans.specs.Tasks.{Task, owned_of}
use Rattle.rank_plans.proofs.Known.{owned-filter}
use Rattle.rank_plans.proofs.task.PlanTask.own.Goals as goal

pub returns : goal.returns
returns c =
    let kept = c.self.inside in
    let to = c.args.to in
    record {
      own = c.in_ok-words.ensures.owned
          ∙ (λ i. owned_by to (c.deref.ensures.value i) (c.deref-2.ensures.value i))
          ∙ owned-filter to kept.lacking.items kept.owners.items c.self.invariant.distinct c.self.invariant.beside
          ∙ ap {A = Task} (λ t. owned_of t to) c.self.view_is;
    }
