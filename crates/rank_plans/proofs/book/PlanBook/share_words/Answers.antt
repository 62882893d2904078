use Rattle.std.proofs.Common.{◌≡◌, ◌<◌, true, Some, get_or, subst, sym, ap, ◌∙◌}
use Rattle.std.specs.List.{position_or_len}
use Rattle.std.specs.Option.{is_some}
use Rattle.std.specs.Prelude.{filter}
use Rattle.map_core.specs.Classes.{owns}
use Rattle.model_defs.specs.Transfers.{same_plan}
use Rattle.rank_plans.specs.Tasks.{Task}
use Rattle.rank_plans.specs.Books.{Book, has_plan, lacking_in, owners_in, size_in, task_in}
use Rattle.rank_plans.proofs.Changes.{task-at, plan-within, IsTaskAt}
use Rattle.rank_plans.proofs.book.PlanBook.share_words.Goals as goal

pub index-requires : goal.index-requires
index-requires c =
    let kept = c.self.inside in
    let plan = c.args.plan in
    let plans = kept.plans.items in
    let k = c.task_place.result in
    let at : k ≡ position_or_len (λ t. same_plan plan t.plan) plans = c.task_place.ensures.place ∙ ap (position_or_len (λ t. same_plan plan t.plan)) c.deref.ensures.value in
    let known : is_some (size_in (task_in plans plan)) ≡ true = ap {A = Book} (λ b. has_plan b plan) c.self.view_is ∙ c.requires.known_plan in
    subst (λ n. k < n) (sym kept.plans.ok.0) (plan-within plans plan k at known)

pub returns : goal.returns
returns c =
    let kept = c.self.inside in
    let plan = c.args.plan in
    let plans = kept.plans.items in
    let k = c.task_place.result in
    let at : k ≡ position_or_len (λ t. same_plan plan t.plan) plans = c.task_place.ensures.place ∙ ap (position_or_len (λ t. same_plan plan t.plan)) c.deref.ensures.value in
    let known : is_some (size_in (task_in plans plan)) ≡ true = ap {A = Book} (λ b. has_plan b plan) c.self.view_is ∙ c.requires.known_plan in
    let t : Task = c.index.result.now in
    let entry : get_or plans k t ≡ t = sym c.index.ensures in
    let found : IsTaskAt plans plan k t = task-at plans plan k t t at known entry in
    let ranks : t.ranks ≡ c.args.self.now.ranks =
    sym (ap {A = Task} (λ t. t.ranks) entry) ∙ c.self.invariant.tasks k t (plan-within plans plan k at known) ∙ ap {A = Book} (λ b. b.ranks) c.self.view_is in
    let is : task_in c.args.self.now.plans plan ≡ Some t = sym (ap {A = Book} (λ b. task_in b.plans plan) c.self.view_is) ∙ found.found in
    record { words = c.in_ok-words.ensures.own ∙ (λ i. filter (λ g. owns (owners_in (sym is i) g) c.args.to) (lacking_in (sym is i))) }
