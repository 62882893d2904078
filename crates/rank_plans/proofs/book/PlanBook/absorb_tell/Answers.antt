use Rattle.std.proofs.Common.{◌≡◌, ◌<◌, ◌&&◌, ℕ, true, Some, cond, length, get_or, refl, subst, sym, ap, ◌∙◌}
use Rattle.std.specs.List.{position_or_len}
use Rattle.std.specs.Option.{is_some}
use Rattle.map_core.specs.Layouts.{stands}
use Rattle.map_core.specs.Homes.{homed, is_home}
use Rattle.model_defs.specs.Transfers.{same_plan}
use Rattle.rank_plans.specs.Answers.{answered, filled, known_at}
use Rattle.rank_plans.specs.Tasks.{Task}
use Rattle.rank_plans.specs.Books.{Book, has_plan, lacking_in, lacking_of, owners_in, owners_of, size_in, size_of, slices, task_in}
use Rattle.rank_plans.proofs.Changes.{task-at, plan-within, owners-slices, owners-others, task-put, with_task, IsBook-task, IsTaskAt}
use Rattle.rank_plans.proofs.book.PlanBook.absorb_tell.Goals as goal

pub index_mut-requires : goal.index_mut-requires
index_mut-requires c =
    let kept = c.self.inside in
    let plan = c.args.plan in
    let plans = kept.plans.items in
    let k = c.task_place-at.result in
    let at : k ≡ position_or_len (λ t. same_plan plan t.plan) plans = c.task_place-at.ensures.place ∙ ap (position_or_len (λ t. same_plan plan t.plan)) c.deref.ensures.value in
    let known : is_some (size_in (task_in plans plan)) ≡ true = ap {A = Book} (λ b. has_plan b plan) c.self.view_is ∙ c.requires.known_plan in
    subst (λ n. k < n) (sym kept.plans.ok.0) (plan-within plans plan k at known)

pub absorb_answers-requires : goal.absorb_answers-requires
absorb_answers-requires c =
    let kept = c.self.inside in
    let plan = c.args.plan in
    let plans = kept.plans.items in
    let k = c.task_place-at.result in
    let at : k ≡ position_or_len (λ t. same_plan plan t.plan) plans = c.task_place-at.ensures.place ∙ ap (position_or_len (λ t. same_plan plan t.plan)) c.deref.ensures.value in
    let known : is_some (size_in (task_in plans plan)) ≡ true = ap {A = Book} (λ b. has_plan b plan) c.self.view_is ∙ c.requires.known_plan in
    let t : Task = c.index_mut.result.now in
    let entry : get_or plans k t ≡ t = sym c.index_mut.ensures.value in
    let found : IsTaskAt plans plan k t = task-at plans plan k t t at known entry in
    let ranks : t.ranks ≡ c.args.self.now.ranks =
    sym (ap {A = Task} (λ t. t.ranks) entry) ∙ c.self.invariant.tasks k t (plan-within plans plan k at known) ∙ ap {A = Book} (λ b. b.ranks) c.self.view_is in
    record { known_rank = subst (λ n. c.args.from < n) (sym ranks) c.requires.known_rank }

pub invariant_of-self : goal.invariant_of-self
invariant_of-self c =
    let kept = c.self.inside in
    let plan = c.args.plan in
    let plans = kept.plans.items in
    let k = c.task_place-at.result in
    let at : k ≡ position_or_len (λ t. same_plan plan t.plan) plans = c.task_place-at.ensures.place ∙ ap (position_or_len (λ t. same_plan plan t.plan)) c.deref.ensures.value in
    let known : is_some (size_in (task_in plans plan)) ≡ true = ap {A = Book} (λ b. has_plan b plan) c.self.view_is ∙ c.requires.known_plan in
    let t : Task = c.index_mut.result.now in
    let entry : get_or plans k t ≡ t = sym c.index_mut.ensures.value in
    let found : IsTaskAt plans plan k t = task-at plans plan k t t at known entry in
    let ranks : t.ranks ≡ c.args.self.now.ranks =
    sym (ap {A = Task} (λ t. t.ranks) entry) ∙ c.self.invariant.tasks k t (plan-within plans plan k at known) ∙ ap {A = Book} (λ b. b.ranks) c.self.view_is in
    let b : Book = record { me = kept.me; ranks = kept.ranks; maps = kept.maps.items; plans = plans } in
    IsBook-task b k c.absorb_answers.new.self c.self.invariant (c.absorb_answers.ensures.ranks ∙ ranks ∙ sym (ap {A = Book} (λ b. b.ranks) c.self.view_is))

pub returns-clause-owners : goal.returns-clause-owners
returns-clause-owners c =
    let kept = c.self.inside in
    let plan = c.args.plan in
    let plans = kept.plans.items in
    let k = c.task_place-at.result in
    let at : k ≡ position_or_len (λ t. same_plan plan t.plan) plans = c.task_place-at.ensures.place ∙ ap (position_or_len (λ t. same_plan plan t.plan)) c.deref.ensures.value in
    let known : is_some (size_in (task_in plans plan)) ≡ true = ap {A = Book} (λ b. has_plan b plan) c.self.view_is ∙ c.requires.known_plan in
    let t : Task = c.index_mut.result.now in
    let entry : get_or plans k t ≡ t = sym c.index_mut.ensures.value in
    let found : IsTaskAt plans plan k t = task-at plans plan k t t at known entry in
    let ranks : t.ranks ≡ c.args.self.now.ranks =
    sym (ap {A = Task} (λ t. t.ranks) entry) ∙ c.self.invariant.tasks k t (plan-within plans plan k at known) ∙ ap {A = Book} (λ b. b.ranks) c.self.view_is in
    let b : Book = record { me = kept.me; ranks = kept.ranks; maps = kept.maps.items; plans = plans } in
    let from = c.args.from in
    let words = c.args.words.now in
    let os = filled (is_home t.ranks t.size from) t.ranks t.lacking t.owners words in
    let changed : c.absorb_answers.new.self ≡ record t { owners = os } = c.in_ok-absorb_answers.ensures.absorbed in
    let sized : size_of c.args.self.now plan ≡ Some t.size = sym (ap {A = Book} (λ b. size_of b plan) c.self.view_is) ∙ ap size_in found.found in
    let lacks : lacking_of c.args.self.now plan ≡ t.lacking = sym (ap {A = Book} (λ b. lacking_of b plan) c.self.view_is) ∙ ap lacking_in found.found in
    let mine : homed c.args.self.now.ranks t.size from (lacking_of c.args.self.now plan) ≡ homed t.ranks t.size from t.lacking = λ i. homed (sym ranks i) t.size from (lacks i) in
    let count : length words ≡ length (homed t.ranks t.size from t.lacking) = c.requires.each t.size sized ∙ ap length mine in
    let says : (g : ℕ) → known_at t.lacking os g ≡ cond (stands g (homed t.ranks t.size from t.lacking)) (answered t.ranks (homed t.ranks t.size from t.lacking) words g) (known_at t.lacking t.owners g) =
    λ g. sym (ap {A = Task} (λ u. known_at u.lacking u.owners g) changed) ∙ c.in_ok-absorb_answers.ensures.known count g in
    λ size g is_size on.
    let same : size ≡ t.size = (let s : Some size ≡ Some t.size = sym is_size ∙ sized in cc) in
    let here : homed c.args.self.now.ranks size from (lacking_of c.args.self.now plan) ≡ homed t.ranks t.size from t.lacking = (λ i. homed c.args.self.now.ranks (same i) from (lacking_of c.args.self.now plan)) ∙ mine in
    let asked : stands g (homed t.ranks t.size from t.lacking) ≡ true = sym (ap (stands g) here) ∙ on in
    (λ i. owners_of (with_task b k (changed i)) plan g)
    ∙ ap (λ o. owners_in o g) (task-put b plan k t found (record t { owners = os }) refl)
    ∙ says g
    ∙ ap (λ a. cond a (answered t.ranks (homed t.ranks t.size from t.lacking) words g) (known_at t.lacking t.owners g)) asked
    ∙ (λ i. answered (ranks i) (sym here i) words g)

pub returns-clause-others : goal.returns-clause-others
returns-clause-others c =
    let kept = c.self.inside in
    let plan = c.args.plan in
    let plans = kept.plans.items in
    let k = c.task_place-at.result in
    let at : k ≡ position_or_len (λ t. same_plan plan t.plan) plans = c.task_place-at.ensures.place ∙ ap (position_or_len (λ t. same_plan plan t.plan)) c.deref.ensures.value in
    let known : is_some (size_in (task_in plans plan)) ≡ true = ap {A = Book} (λ b. has_plan b plan) c.self.view_is ∙ c.requires.known_plan in
    let t : Task = c.index_mut.result.now in
    let entry : get_or plans k t ≡ t = sym c.index_mut.ensures.value in
    let found : IsTaskAt plans plan k t = task-at plans plan k t t at known entry in
    let ranks : t.ranks ≡ c.args.self.now.ranks =
    sym (ap {A = Task} (λ t. t.ranks) entry) ∙ c.self.invariant.tasks k t (plan-within plans plan k at known) ∙ ap {A = Book} (λ b. b.ranks) c.self.view_is in
    let b : Book = record { me = kept.me; ranks = kept.ranks; maps = kept.maps.items; plans = plans } in
    let from = c.args.from in
    let words = c.args.words.now in
    let os = filled (is_home t.ranks t.size from) t.ranks t.lacking t.owners words in
    let changed : c.absorb_answers.new.self ≡ record t { owners = os } = c.in_ok-absorb_answers.ensures.absorbed in
    let sized : size_of c.args.self.now plan ≡ Some t.size = sym (ap {A = Book} (λ b. size_of b plan) c.self.view_is) ∙ ap size_in found.found in
    let lacks : lacking_of c.args.self.now plan ≡ t.lacking = sym (ap {A = Book} (λ b. lacking_of b plan) c.self.view_is) ∙ ap lacking_in found.found in
    let mine : homed c.args.self.now.ranks t.size from (lacking_of c.args.self.now plan) ≡ homed t.ranks t.size from t.lacking = λ i. homed (sym ranks i) t.size from (lacks i) in
    let count : length words ≡ length (homed t.ranks t.size from t.lacking) = c.requires.each t.size sized ∙ ap length mine in
    let says : (g : ℕ) → known_at t.lacking os g ≡ cond (stands g (homed t.ranks t.size from t.lacking)) (answered t.ranks (homed t.ranks t.size from t.lacking) words g) (known_at t.lacking t.owners g) =
    λ g. sym (ap {A = Task} (λ u. known_at u.lacking u.owners g) changed) ∙ c.in_ok-absorb_answers.ensures.known count g in
    λ size other g is_size off.
    let same : size ≡ t.size = (let s : Some size ≡ Some t.size = sym is_size ∙ sized in cc) in
    let here : homed c.args.self.now.ranks size from (lacking_of c.args.self.now plan) ≡ homed t.ranks t.size from t.lacking = (λ i. homed c.args.self.now.ranks (same i) from (lacking_of c.args.self.now plan)) ∙ mine in
    (λ i. owners_of (with_task b k (changed i)) other g)
    ∙ owners-others b plan k t found os (λ g. stands g (homed t.ranks t.size from t.lacking)) (λ g. answered t.ranks (homed t.ranks t.size from t.lacking) words g) says other g
    (sym (ap (λ xs. same_plan other plan && stands g xs) here) ∙ off)
    ∙ ap {A = Book} (λ v. owners_of v other g) c.self.view_is

pub returns-clause-stays : goal.returns-clause-stays
returns-clause-stays c =
    let kept = c.self.inside in
    let plan = c.args.plan in
    let plans = kept.plans.items in
    let k = c.task_place-at.result in
    let at : k ≡ position_or_len (λ t. same_plan plan t.plan) plans = c.task_place-at.ensures.place ∙ ap (position_or_len (λ t. same_plan plan t.plan)) c.deref.ensures.value in
    let known : is_some (size_in (task_in plans plan)) ≡ true = ap {A = Book} (λ b. has_plan b plan) c.self.view_is ∙ c.requires.known_plan in
    let t : Task = c.index_mut.result.now in
    let entry : get_or plans k t ≡ t = sym c.index_mut.ensures.value in
    let found : IsTaskAt plans plan k t = task-at plans plan k t t at known entry in
    let ranks : t.ranks ≡ c.args.self.now.ranks =
    sym (ap {A = Task} (λ t. t.ranks) entry) ∙ c.self.invariant.tasks k t (plan-within plans plan k at known) ∙ ap {A = Book} (λ b. b.ranks) c.self.view_is in
    let b : Book = record { me = kept.me; ranks = kept.ranks; maps = kept.maps.items; plans = plans } in
    let from = c.args.from in
    let words = c.args.words.now in
    let os = filled (is_home t.ranks t.size from) t.ranks t.lacking t.owners words in
    let changed : c.absorb_answers.new.self ≡ record t { owners = os } = c.in_ok-absorb_answers.ensures.absorbed in
    let sized : size_of c.args.self.now plan ≡ Some t.size = sym (ap {A = Book} (λ b. size_of b plan) c.self.view_is) ∙ ap size_in found.found in
    let lacks : lacking_of c.args.self.now plan ≡ t.lacking = sym (ap {A = Book} (λ b. lacking_of b plan) c.self.view_is) ∙ ap lacking_in found.found in
    let mine : homed c.args.self.now.ranks t.size from (lacking_of c.args.self.now plan) ≡ homed t.ranks t.size from t.lacking = λ i. homed (sym ranks i) t.size from (lacks i) in
    let count : length words ≡ length (homed t.ranks t.size from t.lacking) = c.requires.each t.size sized ∙ ap length mine in
    let says : (g : ℕ) → known_at t.lacking os g ≡ cond (stands g (homed t.ranks t.size from t.lacking)) (answered t.ranks (homed t.ranks t.size from t.lacking) words g) (known_at t.lacking t.owners g) =
    λ g. sym (ap {A = Task} (λ u. known_at u.lacking u.owners g) changed) ∙ c.in_ok-absorb_answers.ensures.known count g in
    (λ i. slices (with_task b k (changed i)))
    ∙ owners-slices b plan k t found os
    ∙ (λ i. record (slices (c.self.view_is i)) { owners = owners_of (with_task b k (sym changed i)) })
