use Rattle.std.proofs.Common.{◌≡◌, ◌<◌, true, All, subst, sym, ap, ◌∙◌}
use Rattle.std.specs.List.{position_or_len}
use Rattle.std.specs.Option.{is_some}
use Rattle.std.specs.Prelude.{filter}
use Rattle.map_core.specs.Layouts.{stands}
use Rattle.map_core.specs.Classes.{owns}
use Rattle.model_defs.specs.Transfers.{same_plan}
use Rattle.rank_plans.specs.Answers.{lacked_in}
use Rattle.rank_plans.specs.Tasks.{Task, import_of}
use Rattle.rank_plans.specs.Books.{Book, has_plan, lacking_in, owners_in, size_in, task_in, told_in}
use Rattle.rank_plans.proofs.Changes.{plan-within}
use Rattle.rank_plans.proofs.Made.{lists-of, task-of}
use Rattle.rank_plans.proofs.book.PlanBook.import_plan.Goals as goal

pub index-task-requires : goal.index-task-requires
index-task-requires c =
    let kept = c.self.inside in
    let plan = c.args.plan in
    let plans = kept.plans.items in
    let k = c.task_place.result in
    let at : k ≡ position_or_len (λ t. same_plan plan t.plan) plans = c.task_place.ensures.place ∙ ap (position_or_len (λ t. same_plan plan t.plan)) c.deref.ensures.value in
    let known : is_some (size_in (task_in plans plan)) ≡ true = ap {A = Book} (λ b. has_plan b plan) c.self.view_is ∙ c.requires.known_plan in
    subst (λ n. k < n) (sym kept.plans.ok.0) (plan-within plans plan k at known)

pub import_plan-requires-clause-own_rank : goal.import_plan-requires-clause-own_rank
import_plan-requires-clause-own_rank c =
    let kept = c.self.inside in
    let b : Book = record { me = kept.me; ranks = kept.ranks; maps = kept.maps.items; plans = kept.plans.items } in
    let plan = c.args.plan in
    let k = c.task_place.result in
    let t : Task = c.index-task.result.now in
    let task = task-of b c.args.self.now plan k t c.self.view_is c.self.invariant (c.task_place.ensures.place ∙ ap (position_or_len (λ t. same_plan plan t.plan)) c.deref.ensures.value) c.requires.known_plan c.index-task.ensures in
    subst (λ n. kept.me < n) (ap {A = Book} (λ v. v.ranks) task.view ∙ sym task.ranks) c.self.invariant.own_rank

pub import_plan-requires-clause-lacking : goal.import_plan-requires-clause-lacking
import_plan-requires-clause-lacking c =
    let kept = c.self.inside in
    let b : Book = record { me = kept.me; ranks = kept.ranks; maps = kept.maps.items; plans = kept.plans.items } in
    let plan = c.args.plan in
    let k = c.task_place.result in
    let t : Task = c.index-task.result.now in
    let task = task-of b c.args.self.now plan k t c.self.view_is c.self.invariant (c.task_place.ensures.place ∙ ap (position_or_len (λ t. same_plan plan t.plan)) c.deref.ensures.value) c.requires.known_plan c.index-task.ensures in
    let lacked = lacked_in c.args.source.now.value c.args.target.now.value in
    λ q. subst (λ o. filter (λ g. owns (owners_in o g) q) lacked ≡ filter (λ g. owns (owners_in o g) q) (lacking_in o)) task.is (c.requires.lacking q)

pub import_plan-requires-clause-none_of_own : goal.import_plan-requires-clause-none_of_own
import_plan-requires-clause-none_of_own c =
    let kept = c.self.inside in
    let b : Book = record { me = kept.me; ranks = kept.ranks; maps = kept.maps.items; plans = kept.plans.items } in
    let plan = c.args.plan in
    let k = c.task_place.result in
    let t : Task = c.index-task.result.now in
    let task = task-of b c.args.self.now plan k t c.self.view_is c.self.invariant (c.task_place.ensures.place ∙ ap (position_or_len (λ t. same_plan plan t.plan)) c.deref.ensures.value) c.requires.known_plan c.index-task.ensures in
    (λ i. filter (λ g. owns (owners_in (sym task.is i) g) (task.view i).me) (lacking_in (sym task.is i))) ∙ c.requires.none_of_own

pub import_plan-requires-clause-held : goal.import_plan-requires-clause-held
import_plan-requires-clause-held c =
    let kept = c.self.inside in
    let b : Book = record { me = kept.me; ranks = kept.ranks; maps = kept.maps.items; plans = kept.plans.items } in
    let plan = c.args.plan in
    let k = c.task_place.result in
    let t : Task = c.index-task.result.now in
    let task = task-of b c.args.self.now plan k t c.self.view_is c.self.invariant (c.task_place.ensures.place ∙ ap (position_or_len (λ t. same_plan plan t.plan)) c.deref.ensures.value) c.requires.known_plan c.index-task.ensures in
    let source = c.args.source.now.value in
    λ q low. subst (λ o. All (λ g. stands g source ≡ true) (told_in o q)) task.is (c.requires.held q (subst (λ n. q < n) task.ranks low))

pub returns : goal.returns
returns c =
    let kept = c.self.inside in
    let b : Book = record { me = kept.me; ranks = kept.ranks; maps = kept.maps.items; plans = kept.plans.items } in
    let plan = c.args.plan in
    let k = c.task_place.result in
    let t : Task = c.index-task.result.now in
    let task = task-of b c.args.self.now plan k t c.self.view_is c.self.invariant (c.task_place.ensures.place ∙ ap (position_or_len (λ t. same_plan plan t.plan)) c.deref.ensures.value) c.requires.known_plan c.index-task.ensures in
    let source = c.args.source.now.value in
    let target = c.args.target.now.value in
    record { made = c.in_ok-made.ensures.made ∙ lists-of b c.args.self.now plan k t task (λ me P. import_of me P source target) }
