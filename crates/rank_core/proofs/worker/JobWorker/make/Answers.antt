use Rattle.std.proofs.Common.{ap, refl, sym, subst, ◌∙◌}
use Rattle.model_defs.specs.declared.job.Job.{Job}
use Rattle.model_defs.specs.ShapeLists.{at_list}
use Rattle.model_defs.specs.Shapes.{shape}
use Rattle.value_phases.proofs.NumberedPhases.{jobs-have-value-phases}
use Rattle.value_phases.proofs.Stages.{jobs-have-value-stages}
use Rattle.value_phases.proofs.ValueKinds.{jobs-have-value-kinds}
use Rattle.rank_core.specs.declared.worker.JobWorker.{JobWorker}
use Rattle.rank_core.specs.Workers.{IsReady}
use Rattle.rank_core.proofs.Ready.{go-on-as, next-as, ready-so}
use Rattle.rank_core.proofs.worker.JobWorker.make.Goals as goal

pub next_making-requires-clause-shapes : goal.next_making-requires-clause-shapes
next_making-requires-clause-shapes g c =
    let stands = c.requires.1.0.stands_so in
    ap at_list (c.deref-2.ensures.value ∙ ap {A = JobWorker g.row.S.Denot} (λ w. w.shapes.items) c.in_ok-left.ensures.stays)
    ∙ stands.worker_of.shapes
    ∙ ap shape (sym (c.deref.ensures ∙ ap {A = JobWorker g.row.S.Denot} (λ w. w.job.value) c.in_ok-left.ensures.stays))

pub next_making-requires-clause-can : goal.next_making-requires-clause-can
next_making-requires-clause-can g c =
    let R = g.S.Scalar.semiring in
    let F = g.S.Scalar.conversions in
    let worker = c.args.self.now in
    let s = c.requires.0 in
    let leaving = c.requires.1.0 in
    let can = c.requires.1.1 in
    let stands = leaving.stands_so in
    let input = stands.worker_of.input in (
      stands.files,
      (
        s.absorbed,
        go-on-as R F worker s leaving c.args.phase can (jobs-have-value-phases worker.job.value input.valid) (jobs-have-value-stages worker.job.value input.valid) (jobs-have-value-kinds worker.job.value input.valid)
            c.count_before-count.result c.count_before-count.ensures c.leave.new.self c.in_ok-left.ensures.stays c.deref.result.now c.deref-2.result.now c.deref-3.result.now c.deref.ensures c.deref-2.ensures.value c.deref-3.ensures.value
            c.in_ok-left.left (c.in_ok-left.ensures.pieces s leaving can) c.in_ok-left.ensures.left,
      ),
    )

pub returns : goal.returns
returns g c = λ s leaving can.
    let R = g.S.Scalar.semiring in
    let F = g.S.Scalar.conversions in
    let worker = c.args.self.now in
    let stands = leaving.stands_so in
    let input = stands.worker_of.input in
    let phased = jobs-have-value-phases worker.job.value input.valid in
    let staged = jobs-have-value-stages worker.job.value input.valid in
    let kinds = jobs-have-value-kinds worker.job.value input.valid in
    let made = record worker { values = c.leave.new.self.values; making = c.in_ok-next.next } in
    let is = c.put_making.ensures.put ∙ ap {A = JobWorker g.row.S.Denot} (λ w. record w { making = c.in_ok-next.next }) c.in_ok-left.ensures.stays in
    let goes_on = go-on-as R F worker s leaving c.args.phase can phased staged kinds c.count_before-count.result c.count_before-count.ensures c.leave.new.self c.in_ok-left.ensures.stays
    c.deref.result.now c.deref-2.result.now c.deref-3.result.now c.deref.ensures c.deref-2.ensures.value c.deref-3.ensures.value c.in_ok-left.left (c.in_ok-left.ensures.pieces s leaving can) c.in_ok-left.ensures.left in
    let next_is = next-as R F worker s leaving c.args.phase can phased staged kinds c.count_before-count.result c.count_before-count.ensures c.leave.new.self c.in_ok-left.ensures.stays
    c.deref.result.now c.deref-3.result.now c.deref.ensures c.deref-3.ensures.value c.in_ok-left.left c.in_ok-next.next (c.in_ok-next.ensures.next stands.files s.absorbed goes_on) in
    subst (λ w. IsReady R F w s) (sym is)
    (ready-so R F worker s leaving c.args.phase can phased staged kinds
    c.count_before-count.result c.count_before-count.ensures made c.in_ok-left.left c.in_ok-next.next refl
    (c.in_ok-left.ensures.pieces s leaving can) c.in_ok-left.ensures.left next_is)
