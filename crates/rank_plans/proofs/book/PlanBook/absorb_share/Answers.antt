use Rattle.std.proofs.Common.{◌≡◌, ◌<◌, true, get_or, slice_set, subst, sym, ap, ◌∙◌}
use Rattle.std.specs.List.{position_or_len}
use Rattle.std.specs.Option.{is_some}
use Rattle.model_defs.specs.Transfers.{same_plan}
use Rattle.rank_plans.specs.Tasks.{Task}
use Rattle.rank_plans.specs.Books.{Book, has_plan, size_in, slices, task_in, told_in, told_of}
use Rattle.rank_plans.proofs.Changes.{task-at, plan-within, told-slices, told-others, task-put, with_task, IsBook-task, IsTaskAt}
use Rattle.rank_plans.proofs.book.PlanBook.absorb_share.Goals as goal

pub index_mut-requires : goal.index_mut-requires
index_mut-requires c =
    let kept = c.self.inside in
    let plan = c.args.plan in
    let plans = kept.plans.items in
    let k = c.task_place-at.result in
    let at : k ≡ position_or_len (λ t. same_plan plan t.plan) plans = c.task_place-at.ensures.place ∙ ap (position_or_len (λ t. same_plan plan t.plan)) c.deref.ensures.value in
    let known : is_some (size_in (task_in plans plan)) ≡ true = ap {A = Book} (λ b. has_plan b plan) c.self.view_is ∙ c.requires.known_plan in
    subst (λ n. k < n) (sym kept.plans.ok.0) (plan-within plans plan k at known)

pub absorb_told-requires : goal.absorb_told-requires
absorb_told-requires c =
    let kept = c.self.inside in
    let plan = c.args.plan in
    let plans = kept.plans.items in
    let k = c.task_place-at.result in
    let at : k ≡ position_or_len (λ t. same_plan plan t.plan) plans = c.task_place-at.ensures.place ∙ ap (position_or_len (λ t. same_plan plan t.plan)) c.deref.ensures.value in
    let known : is_some (size_in (task_in plans plan)) ≡ true = ap {A = Book} (λ b. has_plan b plan) c.self.view_is ∙ c.requires.known_plan in
    let t : Task = c.index_mut.result.now in
    let entry : get_or plans k t ≡ t = sym c.index_mut.ensures.value in
    let found : IsTaskAt plans plan k t = task-at plans plan k t t at known entry in
    let ranks : t.ranks ≡ c.args.self.now.ranks =
    sym (ap {A = Task} (λ t. t.ranks) entry) ∙ c.self.invariant.tasks k t (plan-within plans plan k at known) ∙ ap {A = Book} (λ b. b.ranks) c.self.view_is in
    record { known_rank = subst (λ n. c.args.from < n) (sym ranks) c.requires.known_rank }

pub invariant_of-self : goal.invariant_of-self
invariant_of-self c =
    let kept = c.self.inside in
    let plan = c.args.plan in
    let plans = kept.plans.items in
    let k = c.task_place-at.result in
    let at : k ≡ position_or_len (λ t. same_plan plan t.plan) plans = c.task_place-at.ensures.place ∙ ap (position_or_len (λ t. same_plan plan t.plan)) c.deref.ensures.value in
    let known : is_some (size_in (task_in plans plan)) ≡ true = ap {A = Book} (λ b. has_plan b plan) c.self.view_is ∙ c.requires.known_plan in
    let t : Task = c.index_mut.result.now in
    let entry : get_or plans k t ≡ t = sym c.index_mut.ensures.value in
    let found : IsTaskAt plans plan k t = task-at plans plan k t t at known entry in
    let ranks : t.ranks ≡ c.args.self.now.ranks =
    sym (ap {A = Task} (λ t. t.ranks) entry) ∙ c.self.invariant.tasks k t (plan-within plans plan k at known) ∙ ap {A = Book} (λ b. b.ranks) c.self.view_is in
    let b : Book = record { me = kept.me; ranks = kept.ranks; maps = kept.maps.items; plans = plans } in
    IsBook-task b k c.absorb_told.new.self c.self.invariant (c.absorb_told.ensures.ranks ∙ ranks ∙ sym (ap {A = Book} (λ b. b.ranks) c.self.view_is))

pub returns-clause-told : goal.returns-clause-told
returns-clause-told c =
    let kept = c.self.inside in
    let plan = c.args.plan in
    let plans = kept.plans.items in
    let k = c.task_place-at.result in
    let at : k ≡ position_or_len (λ t. same_plan plan t.plan) plans = c.task_place-at.ensures.place ∙ ap (position_or_len (λ t. same_plan plan t.plan)) c.deref.ensures.value in
    let known : is_some (size_in (task_in plans plan)) ≡ true = ap {A = Book} (λ b. has_plan b plan) c.self.view_is ∙ c.requires.known_plan in
    let t : Task = c.index_mut.result.now in
    let entry : get_or plans k t ≡ t = sym c.index_mut.ensures.value in
    let found : IsTaskAt plans plan k t = task-at plans plan k t t at known entry in
    let b : Book = record { me = kept.me; ranks = kept.ranks; maps = kept.maps.items; plans = plans } in
    let changed : c.absorb_told.new.self ≡ record t { told = slice_set t.told c.args.from c.args.words.now } = c.in_ok-absorb_told.ensures.absorbed in
    ap (λ o. told_in o c.args.from) (task-put b plan k t found c.absorb_told.new.self (ap {A = Task} (λ u. u.plan) changed)) ∙ c.in_ok-absorb_told.ensures.told

pub returns-clause-others : goal.returns-clause-others
returns-clause-others c =
    let kept = c.self.inside in
    let plan = c.args.plan in
    let plans = kept.plans.items in
    let k = c.task_place-at.result in
    let at : k ≡ position_or_len (λ t. same_plan plan t.plan) plans = c.task_place-at.ensures.place ∙ ap (position_or_len (λ t. same_plan plan t.plan)) c.deref.ensures.value in
    let known : is_some (size_in (task_in plans plan)) ≡ true = ap {A = Book} (λ b. has_plan b plan) c.self.view_is ∙ c.requires.known_plan in
    let t : Task = c.index_mut.result.now in
    let entry : get_or plans k t ≡ t = sym c.index_mut.ensures.value in
    let found : IsTaskAt plans plan k t = task-at plans plan k t t at known entry in
    let b : Book = record { me = kept.me; ranks = kept.ranks; maps = kept.maps.items; plans = plans } in
    let changed : c.absorb_told.new.self ≡ record t { told = slice_set t.told c.args.from c.args.words.now } = c.in_ok-absorb_told.ensures.absorbed in
    λ other q e. (λ i. told_of (with_task b k (changed i)) other q) ∙ told-others b plan k t found c.args.from c.args.words.now other q e ∙ ap {A = Book} (λ v. told_of v other q) c.self.view_is

pub returns-clause-stays : goal.returns-clause-stays
returns-clause-stays c =
    let kept = c.self.inside in
    let plan = c.args.plan in
    let plans = kept.plans.items in
    let k = c.task_place-at.result in
    let at : k ≡ position_or_len (λ t. same_plan plan t.plan) plans = c.task_place-at.ensures.place ∙ ap (position_or_len (λ t. same_plan plan t.plan)) c.deref.ensures.value in
    let known : is_some (size_in (task_in plans plan)) ≡ true = ap {A = Book} (λ b. has_plan b plan) c.self.view_is ∙ c.requires.known_plan in
    let t : Task = c.index_mut.result.now in
    let entry : get_or plans k t ≡ t = sym c.index_mut.ensures.value in
    let found : IsTaskAt plans plan k t = task-at plans plan k t t at known entry in
    let b : Book = record { me = kept.me; ranks = kept.ranks; maps = kept.maps.items; plans = plans } in
    let changed : c.absorb_told.new.self ≡ record t { told = slice_set t.told c.args.from c.args.words.now } = c.in_ok-absorb_told.ensures.absorbed in
    (λ i. slices (with_task b k (changed i)))
    ∙ told-slices b plan k t found (slice_set t.told c.args.from c.args.words.now)
    ∙ (λ i. record (slices (c.self.view_is i)) { told = told_of (with_task b k (sym changed i)) })
