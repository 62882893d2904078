use Rattle.std.proofs.Common.{◌≡◌, ◌<◌, true, subst, sym, ap, ◌∙◌}
use Rattle.std.specs.List.{position_or_len}
use Rattle.std.specs.Option.{is_some}
use Rattle.model_defs.specs.Transfers.{same_plan}
use Rattle.rank_plans.specs.Tasks.{Task}
use Rattle.rank_plans.specs.Books.{Book, made_in, made_of, size_in, task_in}
use Rattle.rank_plans.proofs.Changes.{IsTaskAt, made-known, plan-within, task-at}
use Rattle.rank_plans.proofs.book.PlanBook.plan.Goals as goal

pub index-requires : goal.index-requires
index-requires c =
    let kept = c.self.inside in
    let plan = c.args.plan in
    let plans = kept.plans.items in
    let k = c.task_place.result in
    let at : k ≡ position_or_len (λ t. same_plan plan t.plan) plans = c.task_place.ensures.place ∙ ap (position_or_len (λ t. same_plan plan t.plan)) c.deref.ensures.value in
    let known : is_some (size_in (task_in plans plan)) ≡ true = made-known (task_in plans plan) (ap {A = Book} (λ b. is_some (made_of b plan)) c.self.view_is ∙ c.requires.made) in
    subst (λ n. k < n) (sym kept.plans.ok.0) (plan-within plans plan k at known)

pub made-requires : goal.made-requires
made-requires c =
    let kept = c.self.inside in
    let plan = c.args.plan in
    let plans = kept.plans.items in
    let k = c.task_place.result in
    let at : k ≡ position_or_len (λ t. same_plan plan t.plan) plans = c.task_place.ensures.place ∙ ap (position_or_len (λ t. same_plan plan t.plan)) c.deref.ensures.value in
    let known : is_some (size_in (task_in plans plan)) ≡ true = made-known (task_in plans plan) (ap {A = Book} (λ b. is_some (made_of b plan)) c.self.view_is ∙ c.requires.made) in
    let t : Task = c.index.result.now in
    let found : IsTaskAt plans plan k t = task-at plans plan k t t at known (sym c.index.ensures) in
    record { made = ap is_some (sym (ap made_in found.found)) ∙ ap {A = Book} (λ b. is_some (made_of b plan)) c.self.view_is ∙ c.requires.made }

pub returns : goal.returns
returns c =
    let kept = c.self.inside in
    let plan = c.args.plan in
    let plans = kept.plans.items in
    let k = c.task_place.result in
    let at : k ≡ position_or_len (λ t. same_plan plan t.plan) plans = c.task_place.ensures.place ∙ ap (position_or_len (λ t. same_plan plan t.plan)) c.deref.ensures.value in
    let known : is_some (size_in (task_in plans plan)) ≡ true = made-known (task_in plans plan) (ap {A = Book} (λ b. is_some (made_of b plan)) c.self.view_is ∙ c.requires.made) in
    let t : Task = c.index.result.now in
    let found : IsTaskAt plans plan k t = task-at plans plan k t t at known (sym c.index.ensures) in
    record { made = c.made.ensures.made ∙ sym (ap made_in found.found) ∙ ap {A = Book} (λ b. made_of b plan) c.self.view_is }
