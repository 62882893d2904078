use Rattle.std.proofs.Common.{◌≡◌, ◌<◌, true, map, subst, sym, ap, ◌∙◌}
use Rattle.std.specs.List.{position_or_len}
use Rattle.std.specs.Option.{is_some}
use Rattle.model_defs.specs.Transfers.{same_plan}
use Rattle.rank_plans.specs.Answers.{owner_by}
use Rattle.rank_plans.specs.Tasks.{Task}
use Rattle.rank_plans.specs.Books.{Book, has_plan, owners_in, size_in, task_in}
use Rattle.rank_plans.proofs.Changes.{plan-within}
use Rattle.rank_plans.proofs.Made.{task-of}
use Rattle.rank_plans.proofs.book.PlanBook.owners_of.Goals as goal

pub index-task-requires : goal.index-task-requires
index-task-requires c =
    let kept = c.self.inside in
    let plan = c.args.plan in
    let plans = kept.plans.items in
    let k = c.task_place.result in
    let at : k ≡ position_or_len (λ t. same_plan plan t.plan) plans = c.task_place.ensures.place ∙ ap (position_or_len (λ t. same_plan plan t.plan)) c.deref.ensures.value in
    let known : is_some (size_in (task_in plans plan)) ≡ true = ap {A = Book} (λ b. has_plan b plan) c.self.view_is ∙ c.requires.known_plan in
    subst (λ n. k < n) (sym kept.plans.ok.0) (plan-within plans plan k at known)

pub returns : goal.returns
returns c =
    let kept = c.self.inside in
    let b : Book = record { me = kept.me; ranks = kept.ranks; maps = kept.maps.items; plans = kept.plans.items } in
    let plan = c.args.plan in
    let k = c.task_place.result in
    let t : Task = c.index-task.result.now in
    let task = task-of b c.args.self.now plan k t c.self.view_is c.self.invariant (c.task_place.ensures.place ∙ ap (position_or_len (λ t. same_plan plan t.plan)) c.deref.ensures.value) c.requires.known_plan c.index-task.ensures in
    record { owners = c.in_ok-owners.ensures.owners ∙ (λ i. map (owner_by (task.view i).me c.args.own.now (owners_in (sym task.is i))) c.args.gids.now) }
