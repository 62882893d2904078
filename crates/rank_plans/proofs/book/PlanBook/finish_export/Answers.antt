use Rattle.std.proofs.Common.{◌≡◌, ◌<◌, true, All, Some, length, subst, sym, ap, ◌∙◌}
use Rattle.std.specs.List.{position_or_len}
use Rattle.std.specs.Option.{is_some}
use Rattle.std.specs.Prelude.{filter}
use Rattle.map_core.specs.Layouts.{stands}
use Rattle.map_core.specs.Classes.{owns}
use Rattle.map_core.specs.Plans.{IsWithin}
use Rattle.model_defs.specs.Transfers.{same_plan}
use Rattle.rank_plans.specs.Tasks.{export_of, owned_of, told_by}
use Rattle.rank_plans.specs.Books.{Book, has_plan, lacking_in, owners_in, size_in, task_in, told_in}
use Rattle.rank_plans.proofs.Changes.{IsBook-task, plan-within}
use Rattle.rank_plans.proofs.Made.{lists-of, made-alone, made-apart, made-is, task-of}
use Rattle.rank_plans.proofs.book.PlanBook.finish_export.Goals as goal

pub index_mut-requires : goal.index_mut-requires
index_mut-requires c =
    let kept = c.self.inside in
    let plan = c.args.plan in
    let plans = kept.plans.items in
    let k = c.task_place-at.result in
    let at : k ≡ position_or_len (λ t. same_plan plan t.plan) plans = c.task_place-at.ensures.place ∙ ap (position_or_len (λ t. same_plan plan t.plan)) c.deref.ensures.value in
    let known : is_some (size_in (task_in plans plan)) ≡ true = ap {A = Book} (λ b. has_plan b plan) c.self.view_is ∙ c.requires.known_plan in
    subst (λ n. k < n) (sym kept.plans.ok.0) (plan-within plans plan k at known)

pub finish_export-requires-clause-own_rank : goal.finish_export-requires-clause-own_rank
finish_export-requires-clause-own_rank c =
    let kept = c.self.inside in
    let b : Book = record { me = kept.me; ranks = kept.ranks; maps = kept.maps.items; plans = kept.plans.items } in
    let now = c.args.self.now in
    let plan = c.args.plan in
    let k = c.task_place-at.result in
    let t = c.index_mut.result.now in
    let task = task-of b now plan k t c.self.view_is c.self.invariant (c.task_place-at.ensures.place ∙ ap (position_or_len (λ t. same_plan plan t.plan)) c.deref.ensures.value) c.requires.known_plan c.index_mut.ensures.value in
    subst (λ n. kept.me < n) (ap {A = Book} (λ v. v.ranks) task.view ∙ sym task.ranks) c.self.invariant.own_rank

pub finish_export-requires-clause-lacking : goal.finish_export-requires-clause-lacking
finish_export-requires-clause-lacking c =
    let kept = c.self.inside in
    let b : Book = record { me = kept.me; ranks = kept.ranks; maps = kept.maps.items; plans = kept.plans.items } in
    let now = c.args.self.now in
    let plan = c.args.plan in
    let k = c.task_place-at.result in
    let t = c.index_mut.result.now in
    let task = task-of b now plan k t c.self.view_is c.self.invariant (c.task_place-at.ensures.place ∙ ap (position_or_len (λ t. same_plan plan t.plan)) c.deref.ensures.value) c.requires.known_plan c.index_mut.ensures.value in
    sym (ap lacking_in task.is) ∙ c.requires.lacking

pub finish_export-requires-clause-none_of_own : goal.finish_export-requires-clause-none_of_own
finish_export-requires-clause-none_of_own c =
    let kept = c.self.inside in
    let b : Book = record { me = kept.me; ranks = kept.ranks; maps = kept.maps.items; plans = kept.plans.items } in
    let now = c.args.self.now in
    let plan = c.args.plan in
    let k = c.task_place-at.result in
    let t = c.index_mut.result.now in
    let task = task-of b now plan k t c.self.view_is c.self.invariant (c.task_place-at.ensures.place ∙ ap (position_or_len (λ t. same_plan plan t.plan)) c.deref.ensures.value) c.requires.known_plan c.index_mut.ensures.value in
    (λ i. filter (λ g. owns (owners_in (sym task.is i) g) (task.view i).me) (lacking_in (sym task.is i))) ∙ c.requires.none_of_own

pub finish_export-requires-clause-held : goal.finish_export-requires-clause-held
finish_export-requires-clause-held c =
    let kept = c.self.inside in
    let b : Book = record { me = kept.me; ranks = kept.ranks; maps = kept.maps.items; plans = kept.plans.items } in
    let now = c.args.self.now in
    let plan = c.args.plan in
    let k = c.task_place-at.result in
    let t = c.index_mut.result.now in
    let task = task-of b now plan k t c.self.view_is c.self.invariant (c.task_place-at.ensures.place ∙ ap (position_or_len (λ t. same_plan plan t.plan)) c.deref.ensures.value) c.requires.known_plan c.index_mut.ensures.value in
    let target = c.args.target.now.value in
    λ q low. subst (λ o. All (λ g. stands g target ≡ true) (told_in o q)) task.is (c.requires.held q (subst (λ n. q < n) task.ranks low))

pub invariant_of-self : goal.invariant_of-self
invariant_of-self c =
    let kept = c.self.inside in
    let b : Book = record { me = kept.me; ranks = kept.ranks; maps = kept.maps.items; plans = kept.plans.items } in
    let now = c.args.self.now in
    let plan = c.args.plan in
    let k = c.task_place-at.result in
    let t = c.index_mut.result.now in
    let task = task-of b now plan k t c.self.view_is c.self.invariant (c.task_place-at.ensures.place ∙ ap (position_or_len (λ t. same_plan plan t.plan)) c.deref.ensures.value) c.requires.known_plan c.index_mut.ensures.value in
    IsBook-task b k c.finish_export.new.self c.self.invariant (c.finish_export.ensures.ranks ∙ task.ranks ∙ sym (ap {A = Book} (λ v. v.ranks) task.view))

pub returns-clause-made : goal.returns-clause-made
returns-clause-made c =
    let kept = c.self.inside in
    let b : Book = record { me = kept.me; ranks = kept.ranks; maps = kept.maps.items; plans = kept.plans.items } in
    let now = c.args.self.now in
    let plan = c.args.plan in
    let k = c.task_place-at.result in
    let t = c.index_mut.result.now in
    let task = task-of b now plan k t c.self.view_is c.self.invariant (c.task_place-at.ensures.place ∙ ap (position_or_len (λ t. same_plan plan t.plan)) c.deref.ensures.value) c.requires.known_plan c.index_mut.ensures.value in
    let source = c.args.source.now.value in
    let target = c.args.target.now.value in
    made-is b now plan k t task c.finish_export.new.self (export_of kept.me t.ranks source target (owned_of t) (told_by t)) c.in_ok-finish_export.ensures.made
    ∙ ap Some (lists-of b now plan k t task (λ me P. export_of me P source target))

pub returns-clause-within : goal.returns-clause-within
returns-clause-within c =
    let kept = c.self.inside in
    let b : Book = record { me = kept.me; ranks = kept.ranks; maps = kept.maps.items; plans = kept.plans.items } in
    let now = c.args.self.now in
    let plan = c.args.plan in
    let k = c.task_place-at.result in
    let t = c.index_mut.result.now in
    let task = task-of b now plan k t c.self.view_is c.self.invariant (c.task_place-at.ensures.place ∙ ap (position_or_len (λ t. same_plan plan t.plan)) c.deref.ensures.value) c.requires.known_plan c.index_mut.ensures.value in
    let source = c.args.source.now.value in
    let target = c.args.target.now.value in
    subst (IsWithin (length source) (length target)) (lists-of b now plan k t task (λ me P. export_of me P source target)) c.in_ok-finish_export.ensures.within

pub returns-clause-others : goal.returns-clause-others
returns-clause-others c =
    let kept = c.self.inside in
    let b : Book = record { me = kept.me; ranks = kept.ranks; maps = kept.maps.items; plans = kept.plans.items } in
    let now = c.args.self.now in
    let plan = c.args.plan in
    let k = c.task_place-at.result in
    let t = c.index_mut.result.now in
    let task = task-of b now plan k t c.self.view_is c.self.invariant (c.task_place-at.ensures.place ∙ ap (position_or_len (λ t. same_plan plan t.plan)) c.deref.ensures.value) c.requires.known_plan c.index_mut.ensures.value in
    let source = c.args.source.now.value in
    let target = c.args.target.now.value in
    made-apart b now plan k t task c.finish_export.new.self (export_of kept.me t.ranks source target (owned_of t) (told_by t)) c.in_ok-finish_export.ensures.made

pub returns-clause-stays : goal.returns-clause-stays
returns-clause-stays c =
    let kept = c.self.inside in
    let b : Book = record { me = kept.me; ranks = kept.ranks; maps = kept.maps.items; plans = kept.plans.items } in
    let now = c.args.self.now in
    let plan = c.args.plan in
    let k = c.task_place-at.result in
    let t = c.index_mut.result.now in
    let task = task-of b now plan k t c.self.view_is c.self.invariant (c.task_place-at.ensures.place ∙ ap (position_or_len (λ t. same_plan plan t.plan)) c.deref.ensures.value) c.requires.known_plan c.index_mut.ensures.value in
    let source = c.args.source.now.value in
    let target = c.args.target.now.value in
    made-alone b now plan k t task c.finish_export.new.self (export_of kept.me t.ranks source target (owned_of t) (told_by t)) c.in_ok-finish_export.ensures.made
