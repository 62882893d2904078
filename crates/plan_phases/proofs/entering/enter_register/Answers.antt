use Rattle.std.proofs.Common.{◌≡◌, ◌<◌, ◌&&◌, All, Some, None, cond, subst, sym, ap, ◌∙◌}
use Rattle.map_core.specs.Homes.{is_home}
use Rattle.map_core.specs.Layouts.{stands}
use Rattle.model_defs.specs.Maps.{list_of}
use Rattle.plan_phases.proofs.EnteringBounds.{list-below}
use Rattle.plan_phases.proofs.EnteringMaps.{map-entered, map-was-new}
use Rattle.plan_phases.proofs.entering.enter_register.Goals as goal

pub begin_register-requires-clause-first : goal.begin_register-requires-clause-first
begin_register-requires-clause-first g c =
    map-was-new g.S.Scalar.semiring g.S.Scalar.conversions c.args.job.now c.requires.enters.0 c.args.book.now c.args.map c.requires.enters.2

pub begin_register-requires-clause-below : goal.begin_register-requires-clause-below
begin_register-requires-clause-below g c =
    let job = c.args.job.now in
    let below : All (λ x. x < c.size_of.result) (list_of job c.args.map c.me.result) =
    subst (λ n. All (λ x. x < n) (list_of job c.args.map c.me.result)) (sym c.size_of.ensures.size) (list-below job c.requires.enters.2.kept.valid c.args.map c.me.result) in
    subst (λ xs. All (λ x. x < c.size_of.result) xs) (sym (c.deref.ensures ∙ c.in_ok-own.ensures.list)) below

pub returns : goal.returns
returns g c = record {
  entered = λ files list e values made.
      let job = c.args.job.now in
      let old = c.args.book.now in
      let m = c.args.map in
      let list : c.deref.result.now ≡ list_of job m old.me = c.deref.ensures ∙ c.in_ok-own.ensures.list ∙ ap (list_of job m) c.me.ensures.me in
      map-entered g.S.Scalar.semiring g.S.Scalar.conversions job files old m e c.begin_register.new.self
      (record {
        directory = λ x.
            c.in_ok-begin_register.ensures.directory x
            ∙ ap (λ xs. cond (stands x xs && is_home old.ranks c.size_of.result old.me x) (Some old.me) None) list
            ∙ ap (λ n. cond (stands x (list_of job m old.me) && is_home old.ranks n old.me x) (Some old.me) None) c.size_of.ensures.size;
        size = c.in_ok-begin_register.ensures.size ∙ ap Some c.size_of.ensures.size;
        other_directories = c.in_ok-begin_register.ensures.other_directories;
        other_sizes = c.in_ok-begin_register.ensures.other_sizes;
        plans = c.in_ok-begin_register.ensures.plans;
        me = c.in_ok-begin_register.ensures.me;
        ranks = c.in_ok-begin_register.ensures.ranks;
      })
      values made;
}
