use Rattle.std.proofs.Common.{◌≡◌, ◌<◌, ◌++◌, ◌∷◌, ◌==◌, [], false, Some, cond, subst, sym, ap, ◌∙◌, arith}
use Rattle.std.specs.Option.{is_some}
use Rattle.std.specs.List.{range_with_len}
use Rattle.std.proofs.lemmas.List.FromFn.{get_or-map-range_with_len}
use Rattle.map_core.specs.Homes.{homed}
use Rattle.rank_plans.specs.Tasks.{Task, asking}
use Rattle.rank_plans.specs.Books.{Book, IsBook, asked_in, has_plan, lacking_in, made_in, owners_in, size_in, task_in, told_in}
use Rattle.rank_plans.proofs.Known.{known-none, nothing-at}
use Rattle.rank_plans.proofs.Changes.{task-begun, task-old, IsBook-begun}
use Rattle.rank_plans.proofs.book.PlanBook.begin_ask.Goals as goal

pub invariant_of-self-2 : goal.invariant_of-self-2
invariant_of-self-2 c =
    let kept = c.self.inside in
    let plans = kept.plans.items in
    let task = c.in_ok-task.task in
    let b : Book = record { me = kept.me; ranks = kept.ranks; maps = kept.maps.items; plans = plans } in
    subst (λ ts. IsBook (record b { plans = ts })) (sym c.in_ok-push.ensures.items) (IsBook-begun b task c.self.invariant (ap {A = Task} (λ t. t.ranks) c.in_ok-task.ensures.begun))

pub returns-clause-size : goal.returns-clause-size
returns-clause-size c =
    let kept = c.self.inside in
    let plan = c.args.plan in
    let plans = kept.plans.items in
    let task = c.in_ok-task.task in
    let lacking = c.args.lacking.items in
    let size = c.args.size in
    let is : task ≡ asking kept.me kept.ranks plan size lacking = c.in_ok-task.ensures.begun in
    let items : c.push.new.self.items ≡ plans ++ task ∷ [] = c.in_ok-push.ensures.items in
    let fresh : is_some (size_in (task_in plans plan)) ≡ false = ap {A = Book} (λ b. has_plan b plan) c.self.view_is ∙ c.requires.first in
    let put : task_in c.push.new.self.items plan ≡ Some (asking kept.me kept.ranks plan size lacking) = (λ i. task_in (items i) plan) ∙ task-begun plans task plan (ap {A = Task} (λ t. t.plan) is) fresh ∙ ap Some is in
    ap size_in put

pub returns-clause-lacking : goal.returns-clause-lacking
returns-clause-lacking c =
    let kept = c.self.inside in
    let plan = c.args.plan in
    let plans = kept.plans.items in
    let task = c.in_ok-task.task in
    let lacking = c.args.lacking.items in
    let size = c.args.size in
    let is : task ≡ asking kept.me kept.ranks plan size lacking = c.in_ok-task.ensures.begun in
    let items : c.push.new.self.items ≡ plans ++ task ∷ [] = c.in_ok-push.ensures.items in
    let fresh : is_some (size_in (task_in plans plan)) ≡ false = ap {A = Book} (λ b. has_plan b plan) c.self.view_is ∙ c.requires.first in
    let put : task_in c.push.new.self.items plan ≡ Some (asking kept.me kept.ranks plan size lacking) = (λ i. task_in (items i) plan) ∙ task-begun plans task plan (ap {A = Task} (λ t. t.plan) is) fresh ∙ ap Some is in
    ap lacking_in put

pub returns-clause-asked : goal.returns-clause-asked
returns-clause-asked c =
    let kept = c.self.inside in
    let plan = c.args.plan in
    let plans = kept.plans.items in
    let task = c.in_ok-task.task in
    let lacking = c.args.lacking.items in
    let size = c.args.size in
    let is : task ≡ asking kept.me kept.ranks plan size lacking = c.in_ok-task.ensures.begun in
    let items : c.push.new.self.items ≡ plans ++ task ∷ [] = c.in_ok-push.ensures.items in
    let fresh : is_some (size_in (task_in plans plan)) ≡ false = ap {A = Book} (λ b. has_plan b plan) c.self.view_is ∙ c.requires.first in
    let put : task_in c.push.new.self.items plan ≡ Some (asking kept.me kept.ranks plan size lacking) = (λ i. task_in (items i) plan) ∙ task-begun plans task plan (ap {A = Task} (λ t. t.plan) is) fresh ∙ ap Some is in
    λ q low. ap (λ o. asked_in o q) put
    ∙ get_or-map-range_with_len (λ q. cond (q == kept.me) (homed kept.ranks size kept.me lacking) []) 0 kept.ranks q q [] (subst (λ n. q < n) (sym (ap {A = Book} (λ b. b.ranks) c.self.view_is)) low) (omega arith)
    ∙ ap {A = Book} (λ b. cond (q == b.me) (homed b.ranks size b.me lacking) []) c.self.view_is

pub returns-clause-owners : goal.returns-clause-owners
returns-clause-owners c =
    let kept = c.self.inside in
    let plan = c.args.plan in
    let plans = kept.plans.items in
    let task = c.in_ok-task.task in
    let lacking = c.args.lacking.items in
    let size = c.args.size in
    let is : task ≡ asking kept.me kept.ranks plan size lacking = c.in_ok-task.ensures.begun in
    let items : c.push.new.self.items ≡ plans ++ task ∷ [] = c.in_ok-push.ensures.items in
    let fresh : is_some (size_in (task_in plans plan)) ≡ false = ap {A = Book} (λ b. has_plan b plan) c.self.view_is ∙ c.requires.first in
    let put : task_in c.push.new.self.items plan ≡ Some (asking kept.me kept.ranks plan size lacking) = (λ i. task_in (items i) plan) ∙ task-begun plans task plan (ap {A = Task} (λ t. t.plan) is) fresh ∙ ap Some is in
    λ g. ap (λ o. owners_in o g) put ∙ known-none lacking g

pub returns-clause-told : goal.returns-clause-told
returns-clause-told c =
    let kept = c.self.inside in
    let plan = c.args.plan in
    let plans = kept.plans.items in
    let task = c.in_ok-task.task in
    let lacking = c.args.lacking.items in
    let size = c.args.size in
    let is : task ≡ asking kept.me kept.ranks plan size lacking = c.in_ok-task.ensures.begun in
    let items : c.push.new.self.items ≡ plans ++ task ∷ [] = c.in_ok-push.ensures.items in
    let fresh : is_some (size_in (task_in plans plan)) ≡ false = ap {A = Book} (λ b. has_plan b plan) c.self.view_is ∙ c.requires.first in
    let put : task_in c.push.new.self.items plan ≡ Some (asking kept.me kept.ranks plan size lacking) = (λ i. task_in (items i) plan) ∙ task-begun plans task plan (ap {A = Task} (λ t. t.plan) is) fresh ∙ ap Some is in
    λ q. ap (λ o. told_in o q) put ∙ nothing-at (range_with_len 0 kept.ranks) q

pub returns-clause-made : goal.returns-clause-made
returns-clause-made c =
    let kept = c.self.inside in
    let plan = c.args.plan in
    let plans = kept.plans.items in
    let task = c.in_ok-task.task in
    let lacking = c.args.lacking.items in
    let size = c.args.size in
    let is : task ≡ asking kept.me kept.ranks plan size lacking = c.in_ok-task.ensures.begun in
    let items : c.push.new.self.items ≡ plans ++ task ∷ [] = c.in_ok-push.ensures.items in
    let fresh : is_some (size_in (task_in plans plan)) ≡ false = ap {A = Book} (λ b. has_plan b plan) c.self.view_is ∙ c.requires.first in
    let put : task_in c.push.new.self.items plan ≡ Some (asking kept.me kept.ranks plan size lacking) = (λ i. task_in (items i) plan) ∙ task-begun plans task plan (ap {A = Task} (λ t. t.plan) is) fresh ∙ ap Some is in
    ap made_in put

pub returns-clause-others : goal.returns-clause-others
returns-clause-others c =
    let kept = c.self.inside in
    let plan = c.args.plan in
    let plans = kept.plans.items in
    let task = c.in_ok-task.task in
    let lacking = c.args.lacking.items in
    let size = c.args.size in
    let is : task ≡ asking kept.me kept.ranks plan size lacking = c.in_ok-task.ensures.begun in
    let items : c.push.new.self.items ≡ plans ++ task ∷ [] = c.in_ok-push.ensures.items in
    let fresh : is_some (size_in (task_in plans plan)) ≡ false = ap {A = Book} (λ b. has_plan b plan) c.self.view_is ∙ c.requires.first in
    let put : task_in c.push.new.self.items plan ≡ Some (asking kept.me kept.ranks plan size lacking) = (λ i. task_in (items i) plan) ∙ task-begun plans task plan (ap {A = Task} (λ t. t.plan) is) fresh ∙ ap Some is in
    λ other off. (λ i. task_in (items i) other) ∙ task-old plans task plan other (ap {A = Task} (λ t. t.plan) is) off ∙ ap {A = Book} (λ b. task_in b.plans other) c.self.view_is
