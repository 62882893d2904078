use Rattle.std.proofs.Common.{◌≡◌, ◌<◌, ◌≤◌, length, subst, sym, ap, ◌∙◌}
use Rattle.std.specs.List.{position_or_len}
use Rattle.model_defs.specs.Transfers.{same_plan}
use Rattle.rank_plans.specs.Books.{Book, has_plan}
use Rattle.rank_plans.proofs.Changes.{plan-found, plan-missing}
use Rattle.rank_plans.proofs.book.PlanBook.has_plan.Goals as goal

pub returns-then-task_place-len : goal.returns-then-task_place-len
returns-then-task_place-len c =
    let items = c.self.inside.plans.items in
    let at : c.task_place.result ≡ position_or_len (λ t. same_plan c.args.plan t.plan) items = c.task_place.ensures.place ∙ ap (position_or_len (λ t. same_plan c.args.plan t.plan)) c.deref.ensures.value in
    let count : c.len.result ≡ length items = c.len.ensures ∙ c.self.inside.plans.ok.0 in
    let low : position_or_len (λ t. same_plan c.args.plan t.plan) items < length items = subst (λ n. n < length items) at (subst (λ n. c.task_place.result < n) count c.if-task_place-len.true) in
    record { begun = sym (plan-found items c.args.plan low) ∙ ap {A = Book} (λ b. has_plan b c.args.plan) c.self.view_is }

pub returns : goal.returns
returns c =
    let items = c.self.inside.plans.items in
    let at : c.task_place.result ≡ position_or_len (λ t. same_plan c.args.plan t.plan) items = c.task_place.ensures.place ∙ ap (position_or_len (λ t. same_plan c.args.plan t.plan)) c.deref.ensures.value in
    let count : c.len.result ≡ length items = c.len.ensures ∙ c.self.inside.plans.ok.0 in
    let high : length items ≤ position_or_len (λ t. same_plan c.args.plan t.plan) items = subst (λ n. length items ≤ n) at (subst (λ n. n ≤ c.task_place.result) count c.if-task_place-len.false) in
    record { begun = sym (plan-missing items c.args.plan high) ∙ ap {A = Book} (λ b. has_plan b c.args.plan) c.self.view_is }
