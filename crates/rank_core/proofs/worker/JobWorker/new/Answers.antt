use Rattle.std.proofs.Common.{◌≡◌, length, None, refl, ap, ◌∙◌, arith}
use Rattle.model_defs.specs.Makers.{value_count}
use Rattle.model_defs.specs.Phases.{phases}
use Rattle.model_defs.specs.Shapes.{shape}
use Rattle.plan_phases.specs.Laws.{empty_book}
use Rattle.rank_stages.proofs.FewPhases.{phases_are_few}
use Rattle.value_phases.proofs.NumberedPhases.{jobs-have-value-phases}
use Rattle.rank_core.proofs.FreshWorkers.{begins}
use Rattle.rank_core.proofs.worker.JobWorker.new.Goals as goal

pub overflow_cast-result : goal.overflow_cast-result
overflow_cast-result g c =
    let few = phases_are_few c.args.job.value c.requires.input.1.valid in
    let same : length c.in_ok-phases.phases.items ≡ length (phases c.args.job.value) = ap length (c.in_ok-phases.ensures.phases ∙ ap phases c.deref-2.ensures) in
    let len = c.len.ensures in
    let ok = c.in_ok-phases.phases.ok.0 in
    omega arith

pub returns : goal.returns
returns g c = record {
  stands = λ files input.
      begins g.S.Scalar.semiring g.S.Scalar.conversions
      (record {
        alloc = c.args.alloc;
        me = c.args.me;
        job = c.args.job;
        share = c.args.share;
        shapes = c.in_ok-shapes.shapes;
        phases = c.in_ok-phases.phases;
        phase_count = c.len.result;
        values = c.new.result;
        book = c.new-book.result;
        making = None;
        counts = c.new-2.result;
      })
      files input (jobs-have-value-phases c.args.job.value input.valid)
      (c.in_ok-shapes.ensures.shapes ∙ ap shape c.deref.ensures)
      (c.in_ok-shapes.ensures.count ∙ ap value_count c.deref.ensures)
      (c.in_ok-phases.ensures.phases ∙ ap phases c.deref-2.ensures)
      (let len = c.len.ensures in let ok = c.in_ok-phases.phases.ok.0 in omega arith)
      c.new.ensures.items
      (c.new-book.ensures.empty ∙ ap (λ j. empty_book j c.args.me) c.deref-3.ensures)
      refl
      c.new-2.ensures.none;
}
