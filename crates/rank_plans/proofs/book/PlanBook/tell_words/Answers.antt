use Rattle.std.proofs.Common.{◌≡◌, ◌<◌, ◌==◌, true, Some, map, get_or, subst, sym, ap, ◌∙◌}
use Rattle.std.specs.List.{position_or_len}
use Rattle.std.specs.Option.{is_some}
use Rattle.model_defs.specs.Transfers.{same_plan}
use Rattle.rank_plans.specs.declared.registered.Registered.{Registered}
use Rattle.rank_plans.specs.Tasks.{Task}
use Rattle.rank_plans.specs.Answers.{word_of}
use Rattle.rank_plans.specs.Books.{Book, asked_in, has_map, has_plan, map_in, map_size_in, owner_in, size_in, task_in}
use Rattle.rank_plans.proofs.Changes.{IsTaskAt, plan-within, task-at}
use Rattle.rank_plans.proofs.Mapped.{IsMapAt, map-at, map-within}
use Rattle.rank_plans.proofs.book.PlanBook.tell_words.Goals as goal

pub index-requires : goal.index-requires
index-requires c =
    let kept = c.self.inside in
    let plan = c.args.plan in
    let m = c.args.owner_map in
    let plans = kept.plans.items in
    let maps = kept.maps.items in
    let j = c.map_place.result in
    let at_map : j ≡ position_or_len (λ r. m == r.map) maps = c.map_place.ensures.place ∙ ap (position_or_len (λ r. m == r.map)) c.deref.ensures.value in
    let known_map : is_some (map_size_in (map_in maps m)) ≡ true = ap {A = Book} (λ b. has_map b m) c.self.view_is ∙ c.requires.known_map in
    subst (λ n. j < n) (sym kept.maps.ok.0) (map-within maps m j at_map known_map)

pub index-requires-2 : goal.index-requires-2
index-requires-2 c =
    let kept = c.self.inside in
    let plan = c.args.plan in
    let m = c.args.owner_map in
    let plans = kept.plans.items in
    let maps = kept.maps.items in
    let j = c.map_place.result in
    let at_map : j ≡ position_or_len (λ r. m == r.map) maps = c.map_place.ensures.place ∙ ap (position_or_len (λ r. m == r.map)) c.deref.ensures.value in
    let known_map : is_some (map_size_in (map_in maps m)) ≡ true = ap {A = Book} (λ b. has_map b m) c.self.view_is ∙ c.requires.known_map in
    let k = c.task_place.result in
    let at : k ≡ position_or_len (λ t. same_plan plan t.plan) plans = c.task_place.ensures.place ∙ ap (position_or_len (λ t. same_plan plan t.plan)) c.deref-2.ensures.value in
    let known : is_some (size_in (task_in plans plan)) ≡ true = ap {A = Book} (λ b. has_plan b plan) c.self.view_is ∙ c.requires.known_plan in
    subst (λ n. k < n) (sym kept.plans.ok.0) (plan-within plans plan k at known)

pub answers-requires : goal.answers-requires
answers-requires c =
    let kept = c.self.inside in
    let plan = c.args.plan in
    let m = c.args.owner_map in
    let plans = kept.plans.items in
    let maps = kept.maps.items in
    let j = c.map_place.result in
    let at_map : j ≡ position_or_len (λ r. m == r.map) maps = c.map_place.ensures.place ∙ ap (position_or_len (λ r. m == r.map)) c.deref.ensures.value in
    let known_map : is_some (map_size_in (map_in maps m)) ≡ true = ap {A = Book} (λ b. has_map b m) c.self.view_is ∙ c.requires.known_map in
    let k = c.task_place.result in
    let at : k ≡ position_or_len (λ t. same_plan plan t.plan) plans = c.task_place.ensures.place ∙ ap (position_or_len (λ t. same_plan plan t.plan)) c.deref-2.ensures.value in
    let known : is_some (size_in (task_in plans plan)) ≡ true = ap {A = Book} (λ b. has_plan b plan) c.self.view_is ∙ c.requires.known_plan in
    let r : Registered = c.index.result.now in
    let found_map : IsMapAt maps m j r = map-at maps m j r r at_map known_map (sym c.index.ensures) in
    let t : Task = c.index-2.result.now in
    let entry : get_or plans k t ≡ t = sym c.index-2.ensures in
    let found : IsTaskAt plans plan k t = task-at plans plan k t t at known entry in
    let ranks : t.ranks ≡ c.args.self.now.ranks =
    sym (ap {A = Task} (λ t. t.ranks) entry) ∙ c.self.invariant.tasks k t (plan-within plans plan k at known) ∙ ap {A = Book} (λ b. b.ranks) c.self.view_is in
    record { known_rank = subst (λ n. c.args.to < n) (sym ranks) c.requires.known_rank }

pub returns : goal.returns
returns c =
    let kept = c.self.inside in
    let plan = c.args.plan in
    let m = c.args.owner_map in
    let plans = kept.plans.items in
    let maps = kept.maps.items in
    let j = c.map_place.result in
    let at_map : j ≡ position_or_len (λ r. m == r.map) maps = c.map_place.ensures.place ∙ ap (position_or_len (λ r. m == r.map)) c.deref.ensures.value in
    let known_map : is_some (map_size_in (map_in maps m)) ≡ true = ap {A = Book} (λ b. has_map b m) c.self.view_is ∙ c.requires.known_map in
    let k = c.task_place.result in
    let at : k ≡ position_or_len (λ t. same_plan plan t.plan) plans = c.task_place.ensures.place ∙ ap (position_or_len (λ t. same_plan plan t.plan)) c.deref-2.ensures.value in
    let known : is_some (size_in (task_in plans plan)) ≡ true = ap {A = Book} (λ b. has_plan b plan) c.self.view_is ∙ c.requires.known_plan in
    let r : Registered = c.index.result.now in
    let found_map : IsMapAt maps m j r = map-at maps m j r r at_map known_map (sym c.index.ensures) in
    let t : Task = c.index-2.result.now in
    let entry : get_or plans k t ≡ t = sym c.index-2.ensures in
    let found : IsTaskAt plans plan k t = task-at plans plan k t t at known entry in
    let ranks : t.ranks ≡ c.args.self.now.ranks =
    sym (ap {A = Task} (λ t. t.ranks) entry) ∙ c.self.invariant.tasks k t (plan-within plans plan k at known) ∙ ap {A = Book} (λ b. b.ranks) c.self.view_is in
    let is : task_in c.args.self.now.plans plan ≡ Some t = sym (ap {A = Book} (λ b. task_in b.plans plan) c.self.view_is) ∙ found.found in
    let is_map : map_in c.args.self.now.maps m ≡ Some r = sym (ap {A = Book} (λ b. map_in b.maps m) c.self.view_is) ∙ found_map.found in
    record { words = c.in_ok-words.ensures.answers ∙ (λ i. map (λ g. word_of (owner_in (sym is_map i) g)) (asked_in (sym is i) c.args.to)) }
