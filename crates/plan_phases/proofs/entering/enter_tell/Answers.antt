use Rattle.std.proofs.Common.{sym, ap, ◌∙◌}
use Rattle.std.specs.Option.{is_some}
use Rattle.rank_plans.specs.Books.{directory_of, has_map, map_size_of}
use Rattle.plan_phases.proofs.EnteringAnswers.{told-asked, told-begun, told-entered, told-map}
use Rattle.plan_phases.proofs.entering.enter_tell.Goals as goal

pub begin_tell-requires-clause-known_plan : goal.begin_tell-requires-clause-known_plan
begin_tell-requires-clause-known_plan g c =
    ap is_some (told-begun g.S.Scalar.semiring g.S.Scalar.conversions c.args.job.now c.requires.enters.0 c.args.book.now c.args.plan c.requires.enters.2).size

pub begin_tell-requires-clause-known_map : goal.begin_tell-requires-clause-known_map
begin_tell-requires-clause-known_map g c =
    ap (has_map c.args.book.now) (c.owner_map.ensures.map c.args.job.now c.requires.shapes)
    ∙ ap is_some (told-map g.S.Scalar.semiring g.S.Scalar.conversions c.args.job.now c.requires.enters.0 c.args.book.now c.args.plan c.requires.enters.2)

pub begin_tell-requires-clause-size : goal.begin_tell-requires-clause-size
begin_tell-requires-clause-size g c =
    ap (map_size_of c.args.book.now) (c.owner_map.ensures.map c.args.job.now c.requires.shapes)
    ∙ told-map g.S.Scalar.semiring g.S.Scalar.conversions c.args.job.now c.requires.enters.0 c.args.book.now c.args.plan c.requires.enters.2
    ∙ sym (told-begun g.S.Scalar.semiring g.S.Scalar.conversions c.args.job.now c.requires.enters.0 c.args.book.now c.args.plan c.requires.enters.2).size

pub begin_tell-requires-clause-asked : goal.begin_tell-requires-clause-asked
begin_tell-requires-clause-asked g c =
    told-asked g.S.Scalar.semiring g.S.Scalar.conversions c.args.job.now c.requires.enters.0 c.args.book.now c.args.plan c.requires.enters.2

pub returns : goal.returns
returns g c = record {
  entered = λ files list e values made.
      told-entered g.S.Scalar.semiring g.S.Scalar.conversions c.args.job.now files c.args.book.now c.args.plan e c.begin_tell.new.self
      (record {
        owners = λ x on. c.in_ok-begin_tell.ensures.owners x on ∙ ap (λ m. directory_of c.args.book.now m x) (c.owner_map.ensures.map c.args.job.now c.requires.shapes);
        others = c.in_ok-begin_tell.ensures.others;
        stays = c.in_ok-begin_tell.ensures.stays;
      })
      values made;
}
