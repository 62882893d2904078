use Rattle.std.proofs.Common.{◌≡◌, ◌<◌, [], true, All, Some, length, map, get_or, slice_index_or, subst, sym, ap, ◌∙◌}
use Rattle.std.specs.Prelude.{filter}
use Rattle.std.proofs.lemmas.List.{get_or-map, length-map}
use Rattle.map_core.specs.Layouts.{stands, AreDistinct}
use Rattle.map_core.specs.Classes.{owns, AreOwners}
use Rattle.map_core.specs.Plans.{IsWithin}
use Rattle.export_plan.specs.Exports.{Export, export_lists, export_start, offer_of}
use Rattle.std.specs.Option.{IsSome}
use Rattle.rank_plans.specs.Answers.{known_at, lacked_in, target_owners}
use Rattle.rank_plans.specs.Tasks.{Task, export_of, owned_of, told_by}
use Rattle.rank_plans.proofs.Targets.{owner_by, target-map, target-owners}
use Rattle.rank_plans.proofs.Wants.{wants_of}
use Rattle.rank_plans.proofs.Exported.{exported}
use Rattle.rank_plans.proofs.Imported.{some-want}
use Rattle.rank_plans.proofs.task.PlanTask.finish_export.Goals as goal

pub start-requires-clause-owners : goal.start-requires-clause-owners
start-requires-clause-owners c =
    let kept = c.self.inside in
    let me = c.args.me in
    let P = kept.ranks in
    let source = c.args.source.now.value in
    let target = c.args.target.now.value in
    let ks = kept.owners.items in
    let lacks : kept.lacking.items ≡ lacked_in target source = ap {A = Task} (λ t. t.lacking) c.self.view_is ∙ c.requires.lacking in
    let count : length ks ≡ length (lacked_in target source) = c.self.invariant.beside ∙ ap length lacks in
    let owners : c.deref-4.result.now ≡ map (owner_by me target (lacked_in target source) ks) source =
    c.deref-4.ensures.value ∙ c.in_ok-owners.ensures.owners ∙ (λ i. target_owners me (c.deref.ensures i) (c.deref-2.ensures i) (c.deref-3.ensures.value i))
    ∙ target-map me target source ks (subst AreDistinct c.deref-2.ensures c.owners_of_target.ensures.distinct) count in
    let known : me < P = subst (λ n. me < n) (sym (ap {A = Task} (λ t. t.ranks) c.self.view_is)) c.requires.own_rank in
    let own : filter (λ g. owns (known_at kept.lacking.items ks g) me) kept.lacking.items ≡ [] = ap {A = Task} (λ t. owned_of t me) c.self.view_is ∙ c.requires.none_of_own in
    let none : filter (λ g. owns (known_at (lacked_in target source) ks g) me) (lacked_in target source) ≡ [] = subst (λ xs. filter (λ g. owns (known_at xs ks g) me) xs ≡ []) lacks own in
    subst (AreOwners me P target source) (sym owners) (target-owners me P target source ks known c.self.invariant.known none)

pub accept_offers-requires-clause-held : goal.accept_offers-requires-clause-held
accept_offers-requires-clause-held c = λ k d low.
    let kept = c.self.inside in
    let target = c.args.target.now.value in
    let told : c.deref-5.result.now ≡ kept.told.items = c.deref-5.ensures.value in
    let within : k < length kept.told.items = subst (λ xs. k < length xs) told low in
    let known : k < c.args.self.now.ranks = subst (λ n. k < n) (sym (length-map kept.told.items (λ v. v.items)) ∙ c.self.invariant.told ∙ ap {A = Task} (λ t. t.ranks) c.self.view_is) within in
    let held : All (λ g. stands g target ≡ true) (slice_index_or (map (λ v. v.items) kept.told.items) k []) =
    subst (λ t. All (λ g. stands g target ≡ true) (told_by t k)) (sym c.self.view_is) (c.requires.held k known) in
    subst (λ xs. All (λ g. stands g c.in_ok-export.export.target ≡ true) (get_or xs k d).items) (sym told)
    (subst (λ s. All (λ g. stands g s ≡ true) (get_or kept.told.items k d).items) (sym (ap {A = Export} (λ e. e.target) c.in_ok-export.ensures.started))
    (subst (λ gs. All (λ g. stands g target ≡ true) gs) (get_or-map (λ v. v.items) kept.told.items k d [] within) held))

pub finish-requires : goal.finish-requires
finish-requires c =
    let kept = c.self.inside in
    let me = c.args.me in
    let P = kept.ranks in
    let source = c.args.source.now.value in
    let target = c.args.target.now.value in
    let ks = kept.owners.items in
    let lacks : kept.lacking.items ≡ lacked_in target source = ap {A = Task} (λ t. t.lacking) c.self.view_is ∙ c.requires.lacking in
    let count : length ks ≡ length (lacked_in target source) = c.self.invariant.beside ∙ ap length lacks in
    let owners : c.deref-4.result.now ≡ map (owner_by me target (lacked_in target source) ks) source =
    c.deref-4.ensures.value ∙ c.in_ok-owners.ensures.owners ∙ (λ i. target_owners me (c.deref.ensures i) (c.deref-2.ensures i) (c.deref-3.ensures.value i))
    ∙ target-map me target source ks (subst AreDistinct c.deref-2.ensures c.owners_of_target.ensures.distinct) count in
    let told : c.deref-5.result.now ≡ kept.told.items = c.deref-5.ensures.value in
    let ready : c.accept_offers.new.export ≡ record (export_start me P source target (map (owner_by me target (lacked_in target source) ks) source)) { offers = wants_of kept.told.items } =
    c.in_ok-accept_offers.ensures.accepted
    ∙ ap {A = Export} (λ e. record e { offers = wants_of c.deref-5.result.now }) c.in_ok-export.ensures.started
    ∙ (λ i. record (export_start me P source target (owners i)) { offers = wants_of (told i) }) in
    record {
      all = λ q low other.
          let ranks : q < P = subst (λ n. q < n) (ap {A = Export} (λ e. e.ranks) ready) low in
          let within : q < length kept.told.items = subst (λ n. q < n) (sym c.self.invariant.told ∙ length-map kept.told.items (λ v. v.items)) ranks in
          subst (λ e. IsSome (offer_of e q)) (sym ready) (some-want kept.told.items q within);
    }

pub returns-clause-made : goal.returns-clause-made
returns-clause-made c =
    let kept = c.self.inside in
    let me = c.args.me in
    let P = kept.ranks in
    let source = c.args.source.now.value in
    let target = c.args.target.now.value in
    let ks = kept.owners.items in
    let lacks : kept.lacking.items ≡ lacked_in target source = ap {A = Task} (λ t. t.lacking) c.self.view_is ∙ c.requires.lacking in
    let count : length ks ≡ length (lacked_in target source) = c.self.invariant.beside ∙ ap length lacks in
    let owners : c.deref-4.result.now ≡ map (owner_by me target (lacked_in target source) ks) source =
    c.deref-4.ensures.value ∙ c.in_ok-owners.ensures.owners ∙ (λ i. target_owners me (c.deref.ensures i) (c.deref-2.ensures i) (c.deref-3.ensures.value i))
    ∙ target-map me target source ks (subst AreDistinct c.deref-2.ensures c.owners_of_target.ensures.distinct) count in
    let told : c.deref-5.result.now ≡ kept.told.items = c.deref-5.ensures.value in
    let ready : c.accept_offers.new.export ≡ record (export_start me P source target (map (owner_by me target (lacked_in target source) ks) source)) { offers = wants_of kept.told.items } =
    c.in_ok-accept_offers.ensures.accepted
    ∙ ap {A = Export} (λ e. record e { offers = wants_of c.deref-5.result.now }) c.in_ok-export.ensures.started
    ∙ (λ i. record (export_start me P source target (owners i)) { offers = wants_of (told i) }) in
    let made : c.in_ok-finish.field-0 ≡ export_of me P source target (λ q. filter (λ g. owns (known_at kept.lacking.items ks g) q) kept.lacking.items) (λ q. slice_index_or (map (λ v. v.items) kept.told.items) q []) =
    c.in_ok-finish.ensures.plan
    ∙ ap export_lists ready
    ∙ exported me P source target ks kept.told.items c.self.invariant.told
    ∙ (λ i. export_of me P source target (λ q. filter (λ g. owns (known_at (sym lacks i) ks g) q) (sym lacks i)) (λ q. slice_index_or (map (λ v. v.items) kept.told.items) q [])) in
    (λ t. record {
      plan = kept.plan;
      ranks = P;
      size = kept.size;
      lacking = kept.lacking.items;
      owners = ks;
      asked = map (λ v. v.items) kept.asked.items;
      told = map (λ v. v.items) kept.told.items;
      made = Some (made t);
    }) ∙ ap {A = Task} (λ s. record s { made = Some (export_of me s.ranks source target (owned_of s) (told_by s)) }) c.self.view_is

pub returns-clause-within : goal.returns-clause-within
returns-clause-within c =
    let kept = c.self.inside in
    let me = c.args.me in
    let P = kept.ranks in
    let source = c.args.source.now.value in
    let target = c.args.target.now.value in
    let ks = kept.owners.items in
    let lacks : kept.lacking.items ≡ lacked_in target source = ap {A = Task} (λ t. t.lacking) c.self.view_is ∙ c.requires.lacking in
    let count : length ks ≡ length (lacked_in target source) = c.self.invariant.beside ∙ ap length lacks in
    let owners : c.deref-4.result.now ≡ map (owner_by me target (lacked_in target source) ks) source =
    c.deref-4.ensures.value ∙ c.in_ok-owners.ensures.owners ∙ (λ i. target_owners me (c.deref.ensures i) (c.deref-2.ensures i) (c.deref-3.ensures.value i))
    ∙ target-map me target source ks (subst AreDistinct c.deref-2.ensures c.owners_of_target.ensures.distinct) count in
    let told : c.deref-5.result.now ≡ kept.told.items = c.deref-5.ensures.value in
    let ready : c.accept_offers.new.export ≡ record (export_start me P source target (map (owner_by me target (lacked_in target source) ks) source)) { offers = wants_of kept.told.items } =
    c.in_ok-accept_offers.ensures.accepted
    ∙ ap {A = Export} (λ e. record e { offers = wants_of c.deref-5.result.now }) c.in_ok-export.ensures.started
    ∙ (λ i. record (export_start me P source target (owners i)) { offers = wants_of (told i) }) in
    let made : c.in_ok-finish.field-0 ≡ export_of me P source target (λ q. filter (λ g. owns (known_at kept.lacking.items ks g) q) kept.lacking.items) (λ q. slice_index_or (map (λ v. v.items) kept.told.items) q []) =
    c.in_ok-finish.ensures.plan
    ∙ ap export_lists ready
    ∙ exported me P source target ks kept.told.items c.self.invariant.told
    ∙ (λ i. export_of me P source target (λ q. filter (λ g. owns (known_at (sym lacks i) ks g) q) (sym lacks i)) (λ q. slice_index_or (map (λ v. v.items) kept.told.items) q [])) in
    subst (IsWithin (length source) (length target)) (made ∙ ap {A = Task} (λ s. export_of me s.ranks source target (owned_of s) (told_by s)) c.self.view_is)
    (subst {A = Export} (λ e. IsWithin (length e.source) (length e.target) c.in_ok-finish.field-0) ready c.in_ok-finish.ensures.within)
