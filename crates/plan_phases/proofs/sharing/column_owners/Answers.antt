use Rattle.std.proofs.Common.{◌≡◌, ◌<◌, length, map, subst, sym, ap, ◌∙◌}
use Rattle.std.proofs.lemmas.Result.{IfOk-weaker}
use Rattle.model_defs.specs.Maps.{list_of, owner_rank}
use Rattle.model_defs.specs.Transfers.{owner_map}
use Rattle.rank_plans.specs.Answers.{owner_by}
use Rattle.rank_plans.specs.Books.{owners_of}
use Rattle.plan_phases.proofs.StructurePlans.{owners-are, plan-known, plan-there, rank-known}
use Rattle.plan_phases.proofs.sharing.column_owners.Goals as goal

pub own_map-requires-clause-known : goal.own_map-requires-clause-known
own_map-requires-clause-known g c =
    subst (λ m. m < length c.args.job.now.maps) (sym (c.owner_map.ensures.map c.args.job.now c.requires.shapes))
    (plan-known g.S.Scalar.semiring g.S.Scalar.conversions c.args.job.now c.requires.shared.0 c.args.book.now c.args.plan c.requires.shared.1.0)

pub own_map-requires-clause-rank : goal.own_map-requires-clause-rank
own_map-requires-clause-rank g c =
    subst (λ p. p < c.args.job.now.ranks) (sym c.me.ensures.me)
    (rank-known g.S.Scalar.semiring g.S.Scalar.conversions c.args.job.now c.requires.shared.0 c.args.book.now c.args.plan c.requires.shared.1.0)

pub owners_of-requires : goal.owners_of-requires
owners_of-requires g c =
    record { known_plan = plan-there g.S.Scalar.semiring g.S.Scalar.conversions c.args.job.now c.requires.shared.0 c.args.book.now c.args.plan c.requires.shared.1.0 }

pub returns : goal.returns
returns g c =
    let job = c.args.job.now in
    let book = c.args.book.now in
    let plan = c.args.plan in
    let columns = c.requires.shared.1.1 in
    let mine : c.deref.result.now ≡ list_of job (owner_map job plan) book.me =
    c.deref.ensures ∙ c.in_ok-domain.ensures.list ∙ (λ t. list_of job (c.owner_map.ensures.map job c.requires.shapes t) (c.me.ensures.me t)) in
    record {
      owners = IfOk-weaker c.owners_of.result _ _
          (λ owners is.
          is
          ∙ (λ t. map (owner_by book.me (mine t) (owners_of book plan)) (columns t))
          ∙ owners-are g.S.Scalar.semiring g.S.Scalar.conversions job c.requires.shared.0 book plan c.requires.shared.1.0
          ∙ ap (map (owner_rank job (owner_map job plan))) (sym columns))
          c.owners_of.ensures.owners;
    }
