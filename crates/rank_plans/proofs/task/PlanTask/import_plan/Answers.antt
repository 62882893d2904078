use Rattle.std.proofs.Common.{◌≡◌, ◌<◌, [], true, All, length, map, get_or, slice_index_or, subst, sym, ap, ◌∙◌}
use Rattle.std.specs.Prelude.{filter}
use Rattle.std.specs.Option.{IsSome}
use Rattle.std.proofs.lemmas.List.{get_or-map, length-map}
use Rattle.map_core.specs.Layouts.{stands}
use Rattle.map_core.specs.Classes.{owns, AreOwners}
use Rattle.import_plan.specs.Imports.{Import, import_lists, import_start, want_of}
use Rattle.rank_plans.specs.Answers.{known_at, lacked_in, owner_if_known}
use Rattle.rank_plans.specs.Tasks.{Task, import_of, told_by}
use Rattle.rank_plans.proofs.Known.{AreRanks-known}
use Rattle.rank_plans.proofs.Targets.{known-owners}
use Rattle.rank_plans.proofs.Wants.{wants_of}
use Rattle.rank_plans.proofs.Imported.{imported-known, some-want}
use Rattle.rank_plans.proofs.task.PlanTask.import_plan.Goals as goal

pub start-requires-clause-owners : goal.start-requires-clause-owners
start-requires-clause-owners c =
    let kept = c.self.inside in
    let me = c.args.me in
    let P = kept.ranks in
    let source = c.args.source.now.value in
    let target = c.args.target.now.value in
    let known = known_at kept.lacking.items kept.owners.items in
    let owners : c.deref-5.result.now ≡ map (owner_if_known me source known) target =
    c.deref-5.ensures.value ∙ c.in_ok-owners.ensures.owners
    ∙ (λ i. map (owner_if_known me (c.deref.ensures i) (known_at (c.deref-3.ensures.value i) (c.deref-4.ensures.value i))) (c.deref-2.ensures i)) in
    let low : me < P = subst (λ n. me < n) (sym (ap {A = Task} (λ t. t.ranks) c.self.view_is)) c.requires.own_rank in
    let none : filter (λ g. owns (known g) me) (lacked_in source target) ≡ [] =
    ap {A = Task} (λ t. filter (λ g. owns (known_at t.lacking t.owners g) me) (lacked_in source target)) c.self.view_is ∙ c.requires.lacking me ∙ c.requires.none_of_own in
    subst (AreOwners me P source target) (sym owners)
    (known-owners me P source target known low (λ g q e. AreRanks-known P kept.lacking.items kept.owners.items g q c.self.invariant.known e) none)

pub accept_all-requires-clause-held : goal.accept_all-requires-clause-held
accept_all-requires-clause-held c = λ k d low.
    let kept = c.self.inside in
    let source = c.args.source.now.value in
    let told : c.deref-6.result.now ≡ kept.told.items = c.deref-6.ensures.value in
    let within : k < length kept.told.items = subst (λ xs. k < length xs) told low in
    let known : k < c.args.self.now.ranks = subst (λ n. k < n) (sym (length-map kept.told.items (λ v. v.items)) ∙ c.self.invariant.told ∙ ap {A = Task} (λ t. t.ranks) c.self.view_is) within in
    let held : All (λ g. stands g source ≡ true) (slice_index_or (map (λ v. v.items) kept.told.items) k []) =
    subst (λ t. All (λ g. stands g source ≡ true) (told_by t k)) (sym c.self.view_is) (c.requires.held k known) in
    subst (λ xs. All (λ g. stands g c.in_ok-import.import.source ≡ true) (get_or xs k d).items) (sym told)
    (subst (λ s. All (λ g. stands g s ≡ true) (get_or kept.told.items k d).items) (sym (ap {A = Import} (λ i. i.source) c.in_ok-import.ensures.started))
    (subst (λ gs. All (λ g. stands g source ≡ true) gs) (get_or-map (λ v. v.items) kept.told.items k d [] within) held))

pub finish-requires : goal.finish-requires
finish-requires c =
    let kept = c.self.inside in
    let started : c.in_ok-import.import.ranks ≡ kept.ranks = ap {A = Import} (λ i. i.ranks) c.in_ok-import.ensures.started in
    let told : c.deref-6.result.now ≡ kept.told.items = c.deref-6.ensures.value in
    let wants : c.accept_all.new.import ≡ record c.in_ok-import.import { wants = wants_of kept.told.items } =
    c.in_ok-accept_all.ensures.accepted ∙ (λ i. record c.in_ok-import.import { wants = wants_of (told i) }) in
    record {
      all = λ q low other.
          let ranks : q < kept.ranks = subst (λ n. q < n) (ap {A = Import} (λ i. i.ranks) wants ∙ started) low in
          let within : q < length kept.told.items = subst (λ n. q < n) (sym c.self.invariant.told ∙ length-map kept.told.items (λ v. v.items)) ranks in
          subst (λ i. IsSome (want_of i q)) (sym wants) (some-want kept.told.items q within);
    }

pub returns : goal.returns
returns c =
    let kept = c.self.inside in
    let now = c.args.self.now in
    let me = c.args.me in
    let P = kept.ranks in
    let source = c.args.source.now.value in
    let target = c.args.target.now.value in
    let known = known_at kept.lacking.items kept.owners.items in
    let owners : c.deref-5.result.now ≡ map (owner_if_known me source known) target =
    c.deref-5.ensures.value ∙ c.in_ok-owners.ensures.owners
    ∙ (λ i. map (owner_if_known me (c.deref.ensures i) (known_at (c.deref-3.ensures.value i) (c.deref-4.ensures.value i))) (c.deref-2.ensures i)) in
    let told : c.deref-6.result.now ≡ kept.told.items = c.deref-6.ensures.value in
    let ready : c.accept_all.new.import ≡ record (import_start me P source target (map (owner_if_known me source known) target)) { wants = wants_of kept.told.items } =
    c.in_ok-accept_all.ensures.accepted
    ∙ ap {A = Import} (λ i. record i { wants = wants_of c.deref-6.result.now }) c.in_ok-import.ensures.started
    ∙ (λ i. record (import_start me P source target (owners i)) { wants = wants_of (told i) }) in
    record {
      made = c.in_ok-plan.ensures.plan
          ∙ ap import_lists ready
          ∙ imported-known me P source target known kept.told.items c.self.invariant.told
          ∙ ap {A = Task} (λ t. import_of me t.ranks source target (λ q. filter (λ g. owns (known_at t.lacking t.owners g) q) (lacked_in source target)) (told_by t)) c.self.view_is
          ∙ (λ i. import_of me now.ranks source target (λ q. c.requires.lacking q i) (told_by now));
    }
