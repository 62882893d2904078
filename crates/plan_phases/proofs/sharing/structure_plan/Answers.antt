use Rattle.std.proofs.Common.{◌≡◌, ◌<◌, All, filter, length, true, subst, sym, ◌∙◌}
use Rattle.std.proofs.lemmas.Result.{IfOk-weaker}
use Rattle.map_core.specs.Classes.{owns}
use Rattle.map_core.specs.Layouts.{stands}
use Rattle.matrix_arrivals.specs.RowPlans.{IsFromOwners}
use Rattle.model_defs.specs.Maps.{list_of}
use Rattle.model_defs.specs.Transfers.{owner_map}
use Rattle.rank_plans.specs.Answers.{lacked_in}
use Rattle.rank_plans.specs.Books.{own_of, owners_of, told_of}
use Rattle.rank_plans.specs.Tasks.{import_of}
use Rattle.plan_phases.proofs.StructurePlans.{lacked-is, made-is, none-of-own, others-held, plan-known, plan-there, rank-known}
use Rattle.plan_phases.proofs.sharing.structure_plan.Goals as goal

pub own_map-requires-clause-known : goal.own_map-requires-clause-known
own_map-requires-clause-known g c =
    subst (λ m. m < length c.args.job.now.maps) (sym (c.owner_map.ensures.map c.args.job.now c.requires.shapes))
    (plan-known g.S.Scalar.semiring g.S.Scalar.conversions c.args.job.now c.requires.shared.0 c.args.book.now c.args.plan c.requires.shared.1.0)

pub own_map-requires-clause-rank : goal.own_map-requires-clause-rank
own_map-requires-clause-rank g c =
    subst (λ p. p < c.args.job.now.ranks) (sym c.me.ensures.me)
    (rank-known g.S.Scalar.semiring g.S.Scalar.conversions c.args.job.now c.requires.shared.0 c.args.book.now c.args.plan c.requires.shared.1.0)

pub import_plan-requires-clause-known_plan : goal.import_plan-requires-clause-known_plan
import_plan-requires-clause-known_plan g c =
    plan-there g.S.Scalar.semiring g.S.Scalar.conversions c.args.job.now c.requires.shared.0 c.args.book.now c.args.plan c.requires.shared.1.0

pub import_plan-requires-clause-lacking : goal.import_plan-requires-clause-lacking
import_plan-requires-clause-lacking g c =
    let job = c.args.job.now in
    let book = c.args.book.now in
    let plan = c.args.plan in
    let list = c.args.list.now.value in
    let mine : c.in_ok-owners.owners.value ≡ list_of job (owner_map job plan) book.me =
    c.in_ok-owners.ensures.list ∙ (λ t. list_of job (c.owner_map.ensures.map job c.requires.shapes t) (c.me.ensures.me t)) in
    λ q.
    (λ t. filter (λ x. owns (owners_of book plan x) q) (lacked_in (mine t) list))
    ∙ lacked-is g.S.Scalar.semiring g.S.Scalar.conversions job c.requires.shared.0 book plan c.requires.shared.1.0 list c.requires.shared.1.1 q

pub import_plan-requires-clause-none_of_own : goal.import_plan-requires-clause-none_of_own
import_plan-requires-clause-none_of_own g c =
    none-of-own g.S.Scalar.semiring g.S.Scalar.conversions c.args.job.now c.requires.shared.0 c.args.book.now c.args.plan c.requires.shared.1.0

pub import_plan-requires-clause-held : goal.import_plan-requires-clause-held
import_plan-requires-clause-held g c =
    let job = c.args.job.now in
    let book = c.args.book.now in
    let plan = c.args.plan in
    let mine : c.in_ok-owners.owners.value ≡ list_of job (owner_map job plan) book.me =
    c.in_ok-owners.ensures.list ∙ (λ t. list_of job (c.owner_map.ensures.map job c.requires.shapes t) (c.me.ensures.me t)) in
    λ q l.
    subst (λ xs. All (λ x. stands x xs ≡ true) (told_of book plan q)) (sym mine)
    (others-held g.S.Scalar.semiring g.S.Scalar.conversions job c.requires.shared.0 book plan c.requires.shared.1.0 q l)

pub returns : goal.returns
returns g c =
    let job = c.args.job.now in
    let book = c.args.book.now in
    let plan = c.args.plan in
    let list = c.args.list.now.value in
    let mine : c.in_ok-owners.owners.value ≡ list_of job (owner_map job plan) book.me =
    c.in_ok-owners.ensures.list ∙ (λ t. list_of job (c.owner_map.ensures.map job c.requires.shapes t) (c.me.ensures.me t)) in
    record {
      made = IfOk-weaker c.import_plan.result _ _
          (λ made is. λ files shared listed.
          subst (IsFromOwners job files plan book.me (list_of job (owner_map job plan) book.me) list)
          (sym (is ∙ (λ t. import_of book.me book.ranks (mine t) list (own_of book plan) (told_of book plan))))
          (made-is g.S.Scalar.semiring g.S.Scalar.conversions job files book plan shared list listed))
          c.import_plan.ensures.made;
    }
