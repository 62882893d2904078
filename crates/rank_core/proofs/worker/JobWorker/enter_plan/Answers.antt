use Rattle.std.proofs.Common.{◌≡◌, ℕ, true, List, Option, Some, ◌∙◌, ap, sym, subst}
use Rattle.tables.specs.Tables.{Table}
use Rattle.mm_text.specs.Reading.{File}
use Rattle.rank_phases.specs.Pairs.{from_others, to_others}
use Rattle.rank_phases.specs.Stages.{entering}
use Rattle.model_defs.specs.declared.phase.Plan.{Plan}
use Rattle.model_defs.specs.Plans.{rank_list_by}
use Rattle.rank_stages.specs.JobStages.{HasValues}
use Rattle.rank_stages.specs.OwnerLaws.{plan_about}
use Rattle.value_phases.specs.ValuePhases.{is_of_structure}
use Rattle.plan_phases.specs.BookCalls.{IsEnteringBook}
use Rattle.plan_phases.specs.BookStages.{IsBookStage, with_book}
use Rattle.value_phases.proofs.Matrices.{matrices-are-known}
use Rattle.value_phases.proofs.NumberedPhases.{jobs-have-value-phases}
use Rattle.rank_makings.proofs.Columns.{fills-have-columns}
use Rattle.rank_core.specs.Leaving.{CanList}
use Rattle.rank_core.proofs.KnownLists.{can-list}
use Rattle.rank_core.proofs.Entered.{entering-book, plan-awaits, plan-entered, plan-posts}
use Rattle.rank_core.proofs.worker.JobWorker.enter_plan.Goals as goal

pub returns-clause-posts : goal.returns-clause-posts
returns-clause-posts g c = λ s ready can.
    c.in_ok-names_to_others.ensures
    ∙ ap (λ j. to_others j.ranks c.args.phase c.args.self.now.me) c.deref-5.ensures
    ∙ sym (plan-posts g.S.Scalar.semiring g.S.Scalar.conversions c.args.self.now s ready c.args.phase can c.args.about c.requires.is c.requires.plain)

pub returns-clause-awaits : goal.returns-clause-awaits
returns-clause-awaits g c = λ s ready can.
    c.in_ok-names_from_others.ensures
    ∙ ap (λ j. from_others j.ranks c.args.phase c.args.self.now.me) c.deref-5.ensures
    ∙ sym (plan-awaits g.S.Scalar.semiring g.S.Scalar.conversions c.args.self.now s ready c.args.phase can c.args.about c.requires.is c.requires.plain)

pub returns-clause-enters : goal.returns-clause-enters
returns-clause-enters g c = λ s ready can.
    let R = g.S.Scalar.semiring in
    let F = g.S.Scalar.conversions in
    let old = c.args.self.now.book in
    let new = c.enter_phase.new.book in
    let list = c.deref-4.result.now in
    let listed =
    subst
    (λ j. (files : List File) (plan : Plan) → CanList R F j files c.args.self.now.me c.args.self.now.share c.args.about c.args.self.now.making → plan_about c.args.about ≡ Some plan
    → is_of_structure plan ≡ true → c.in_ok-list.list.items ≡ rank_list_by j files plan c.args.self.now.me)
    c.deref.ensures c.in_ok-list.ensures.list in
    plan-entered R F c.args.self.now s ready c.args.phase can c.args.about c.requires.is c.requires.plain list
    (λ plan of structure. c.deref-4.ensures.value ∙ listed ready.files plan (can-list R F (fills-have-columns R F) matrices-are-known c.args.self.now s ready c.args.phase can
    (jobs-have-value-phases c.args.self.now.job.value ready.worker_of.input.valid) c.args.about c.requires.is) of structure)
    new
    (subst
    (λ j. (files : List File) (e : IsEnteringBook R F j files old c.args.about list) (values : ℕ → Option (Table _)) → HasValues R F j files values (entering e.stage)
    → IsBookStage R F j files new (record (with_book e.view new) { values = values }) (entering e.stage))
    c.deref-2.ensures c.in_ok-enter_phase.ensures.entered)

pub plan_list-requires : goal.plan_list-requires
plan_list-requires g c =
    let R = g.S.Scalar.semiring in
    let F = g.S.Scalar.conversions in
    let s = c.requires.ready.0 in
    let ready = c.requires.ready.1.0 in
    record {
      can = (
        ready.files,
        subst (λ j. CanList R F j ready.files c.args.self.now.me c.args.self.now.share c.args.about c.args.self.now.making) (sym c.deref.ensures)
            (can-list R F (fills-have-columns R F) matrices-are-known c.args.self.now s ready c.args.phase c.requires.ready.1.1
            (jobs-have-value-phases c.args.self.now.job.value ready.worker_of.input.valid) c.args.about c.requires.is),
      );
    }

pub enter_phase-requires-clause-enters : goal.enter_phase-requires-clause-enters
enter_phase-requires-clause-enters g c =
    let R = g.S.Scalar.semiring in
    let F = g.S.Scalar.conversions in
    let s = c.requires.ready.0 in
    let ready = c.requires.ready.1.0 in
    let can = c.requires.ready.1.1 in
    let list = c.deref-4.result.now in
    let listed =
    subst
    (λ j. (files : List File) (plan : Plan) → CanList R F j files c.args.self.now.me c.args.self.now.share c.args.about c.args.self.now.making → plan_about c.args.about ≡ Some plan
    → is_of_structure plan ≡ true → c.in_ok-list.list.items ≡ rank_list_by j files plan c.args.self.now.me)
    c.deref.ensures c.in_ok-list.ensures.list in (
      ready.files,
      subst (λ j. IsEnteringBook R F j ready.files c.args.self.now.book c.args.about list) (sym c.deref-2.ensures)
          (entering-book R F c.args.self.now s ready c.args.phase can c.args.about c.requires.is c.requires.plain list
          (λ plan of structure. c.deref-4.ensures.value ∙ listed ready.files plan (can-list R F (fills-have-columns R F) matrices-are-known c.args.self.now s ready c.args.phase can
          (jobs-have-value-phases c.args.self.now.job.value ready.worker_of.input.valid) c.args.about c.requires.is) of structure)),
    )
